-- Lines of denials and verdicts.
use Rattle.std.specs.Prelude.{ℕ, List, [], ◌++◌, codes, Result, Ok, Err}
use Rattle.std.specs.Fmt.{decimal}
use Rattle.mls_label.specs.declared.label.Label.{Label}
use Rattle.mls_range.specs.LabelText.{label_text}
use Rattle.packet_label.specs.declared.denial.Denial.{Denial}
use Rattle.packet_label.specs.declared.denial.Denial.TheVariants.{BadHeader, BadOption, Unlabelled, NoStatic, UnknownDoi, TagNotAllowed, LevelUnmapped, CategoryUnmapped, OutsideRange, NoReceiver, MapRefuses, NotDominated, NoMap, AlreadyLabelled, Inexpressible, NoRoom, TooLong, Expired, WrongVersion, NoPair, NotCrossable, NotIp, BelowRange}
use Rattle.packet_label.specs.Denial.{number_of, name_of, cause_name}
use Rattle.call_report.specs.Lines.Parts.{line_of, octet_detail}

-- what is printed behind a denial's name: the octet at fault, the category, the cause, or nothing
abbrev pub detail_of : Denial → List ℕ
detail_of (BadHeader octet) = octet_detail octet
detail_of (BadOption octet) = octet_detail octet
detail_of Unlabelled = []
detail_of NoStatic = []
detail_of (UnknownDoi octet) = octet_detail octet
detail_of (TagNotAllowed octet) = octet_detail octet
detail_of LevelUnmapped = []
detail_of (CategoryUnmapped category) = codes " category " ++ decimal category
detail_of OutsideRange = []
detail_of NoReceiver = []
detail_of MapRefuses = []
detail_of NotDominated = []
detail_of NoMap = []
detail_of (AlreadyLabelled octet) = octet_detail octet
detail_of Inexpressible = []
detail_of NoRoom = []
detail_of TooLong = []
detail_of Expired = []
detail_of WrongVersion = []
detail_of NoPair = []
detail_of (NotCrossable cause) = codes " " ++ cause_name cause
detail_of NotIp = []
detail_of BelowRange = []

-- `denied`, the denial's number, its name and its detail
unfoldable pub denial_text : Denial → List ℕ
denial_text denial = codes "denied " ++ decimal (number_of denial) ++ codes " " ++ name_of denial ++ detail_of denial

-- a packet that is delivered, with its label
unfoldable pub delivered_text : Label → List ℕ
delivered_text label = codes "delivered " ++ label_text label

-- A verdict is the label of a packet that is delivered, or why it isn't.
abbrev pub Verdict : Type 0
Verdict = Result Label Denial

-- the line of a verdict
abbrev pub verdict_line : Verdict → List ℕ
verdict_line (Ok label) = line_of (delivered_text label)
verdict_line (Err denial) = line_of (denial_text denial)

-- a verdict whose label is lent
abbrev pub with_label : {T : Type 0} → Result T Denial → Label → Verdict
with_label (Ok value) label = Ok label
with_label (Err denial) label = Err denial
