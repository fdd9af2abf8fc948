-- The numbers of denials have two digits at the most.
use Rattle.std.proofs.Common.{◌<◌, arith}
use Rattle.packet_label.specs.declared.denial.Denial.{Denial}
use Rattle.packet_label.specs.declared.denial.Denial.TheVariants.{BadHeader, BadOption, Unlabelled, NoStatic, UnknownDoi, TagNotAllowed, LevelUnmapped, CategoryUnmapped, OutsideRange, NoReceiver, MapRefuses, NotDominated, NoMap, AlreadyLabelled, Inexpressible, NoRoom, TooLong, Expired, WrongVersion, NoPair, NotCrossable, NotIp, BelowRange}
use Rattle.packet_label.specs.Denial.{number_of}

pub few_denials : (denial : Denial) → number_of denial < 100
few_denials (BadHeader octet) = omega arith
few_denials (BadOption octet) = omega arith
few_denials Unlabelled = omega arith
few_denials NoStatic = omega arith
few_denials (UnknownDoi octet) = omega arith
few_denials (TagNotAllowed octet) = omega arith
few_denials LevelUnmapped = omega arith
few_denials (CategoryUnmapped category) = omega arith
few_denials OutsideRange = omega arith
few_denials NoReceiver = omega arith
few_denials MapRefuses = omega arith
few_denials NotDominated = omega arith
few_denials NoMap = omega arith
few_denials (AlreadyLabelled octet) = omega arith
few_denials Inexpressible = omega arith
few_denials NoRoom = omega arith
few_denials TooLong = omega arith
few_denials Expired = omega arith
few_denials WrongVersion = omega arith
few_denials NoPair = omega arith
few_denials (NotCrossable cause) = omega arith
few_denials NotIp = omega arith
few_denials BelowRange = omega arith
