-- Denials by number and name.
use Rattle.std.specs.Prelude.{ℕ, List, codes}
use Rattle.ip_headers.specs.declared.cause.Cause.{Cause}
use Rattle.ip_headers.specs.declared.cause.Cause.TheVariants.{Protocol, Fragment, Options, Segment, NoChecksum}
use Rattle.packet_label.specs.declared.denial.Denial.{Denial}
use Rattle.packet_label.specs.declared.denial.Denial.TheVariants.{BadHeader, BadOption, Unlabelled, NoStatic, UnknownDoi, TagNotAllowed, LevelUnmapped, CategoryUnmapped, OutsideRange, NoReceiver, MapRefuses, NotDominated, NoMap, AlreadyLabelled, Inexpressible, NoRoom, TooLong, Expired, WrongVersion, NoPair, NotCrossable, NotIp, BelowRange}

-- the numbers of the denials, from 1, under which they are reported
abbrev pub number_of : Denial → ℕ
number_of (BadHeader octet) = 1
number_of (BadOption octet) = 2
number_of Unlabelled = 3
number_of NoStatic = 4
number_of (UnknownDoi octet) = 5
number_of (TagNotAllowed octet) = 6
number_of LevelUnmapped = 7
number_of (CategoryUnmapped category) = 8
number_of OutsideRange = 9
number_of NoReceiver = 10
number_of MapRefuses = 11
number_of NotDominated = 12
number_of NoMap = 13
number_of (AlreadyLabelled octet) = 14
number_of Inexpressible = 15
number_of NoRoom = 16
number_of TooLong = 17
number_of Expired = 18
number_of WrongVersion = 19
number_of NoPair = 20
number_of (NotCrossable cause) = 21
number_of NotIp = 22
number_of BelowRange = 23

-- the names under which they are reported
abbrev pub name_of : Denial → List ℕ
name_of (BadHeader octet) = codes "BadHeader"
name_of (BadOption octet) = codes "BadOption"
name_of Unlabelled = codes "Unlabelled"
name_of NoStatic = codes "NoStatic"
name_of (UnknownDoi octet) = codes "UnknownDoi"
name_of (TagNotAllowed octet) = codes "TagNotAllowed"
name_of LevelUnmapped = codes "LevelUnmapped"
name_of (CategoryUnmapped category) = codes "CategoryUnmapped"
name_of OutsideRange = codes "OutsideRange"
name_of NoReceiver = codes "NoReceiver"
name_of MapRefuses = codes "MapRefuses"
name_of NotDominated = codes "NotDominated"
name_of NoMap = codes "NoMap"
name_of (AlreadyLabelled octet) = codes "AlreadyLabelled"
name_of Inexpressible = codes "Inexpressible"
name_of NoRoom = codes "NoRoom"
name_of TooLong = codes "TooLong"
name_of Expired = codes "Expired"
name_of WrongVersion = codes "WrongVersion"
name_of NoPair = codes "NoPair"
name_of (NotCrossable cause) = codes "NotCrossable"
name_of NotIp = codes "NotIp"
name_of BelowRange = codes "BelowRange"

-- the name of a cause why a packet can't cross to the other version
abbrev pub cause_name : Cause → List ℕ
cause_name Protocol = codes "Protocol"
cause_name Fragment = codes "Fragment"
cause_name Options = codes "Options"
cause_name Segment = codes "Segment"
cause_name NoChecksum = codes "NoChecksum"
