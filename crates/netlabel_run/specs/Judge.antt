-- `judge`: a node is set up for the packet that a file's octets hold, which receives it.
use Rattle.std.specs.Prelude.{◌≡◌, ◌⊎◌, ◌<◌, ◌≤◌, ℕ, List, [], ◌∷◌, length, codes, fold, Option, Some, None, Result, Ok, Err}
use Rattle.mls_label.specs.declared.label.Label.{Label}
use Rattle.mls_label.specs.declared.label.Tag.{Tag}
use Rattle.mls_label.specs.declared.label.Tag.TheVariants.{One, Two, Five}
use Rattle.mls_label.specs.Label.{Dominates}
use Rattle.ip_headers.specs.declared.version.Version.{Version}
use Rattle.ip_headers.specs.declared.version.Version.TheVariants.{V4, V6}
use Rattle.ip_headers.specs.Packet.{ParsedPacket}
use Rattle.packet_label.specs.declared.denial.Denial.{Denial}
use Rattle.packet_label.specs.declared.packet.Wire.{Wire}
use Rattle.packet_label.specs.declared.packet.Wire.TheVariants as wire
use Rattle.packet_label.specs.Packet.{IsPacket}
use Rattle.domain_map.specs.declared.protocol.Protocol.{Protocol}
use Rattle.domain_map.specs.declared.protocol.Protocol.TheVariants.{Cipso, Calipso}
use Rattle.script_lines.specs.command_values.Ranges.{range_below}
use Rattle.script_lines.specs.declared.command.Command.{Command}
use Rattle.script_lines.specs.declared.command.Command.TheVariants.{CipsoAddPass, CalipsoAddPass, MapAdd, ReceiverAdd}
use Rattle.node_tables.specs.Tables.{TableState, fresh}
use Rattle.node_tables.specs.Effect.{applied}
use Rattle.label_receive.specs.declared.receiving.Delivered.{Delivered}
use Rattle.label_receive.specs.Incoming.{address_in}
use Rattle.label_receive.specs.Receive.{receive_of}
use Rattle.label_receive.specs.Judged.{IsJudged}
use Rattle.call_report.specs.Lines.Denial.{Verdict, verdict_line}
use Rattle.call_report.specs.Lines.Fixed.{packet_limit_line}
use Rattle.call_report.specs.Report.{Report, late_report}
use Rattle.call_report.specs.Says.{Says, reading_says}

-- the protocol whose option a packet of this version has
abbrev pub protocol_in : Version → ℕ → Protocol
protocol_in V4 doi = Cipso doi
protocol_in V6 doi = Calipso doi

-- The node defines the DOI for both protocols as one that passes all numbers, every domain speaks the packet's protocol under it
-- with everybody, and at the packet's destination somebody receives whose level this is.
abbrev pub judge_commands : ℕ → Label → Version → List ℕ → List Command
judge_commands doi level version destination =
    CipsoAddPass doi (One ∷ Two ∷ Five ∷ [])
    ∷ CalipsoAddPass doi
    ∷ MapAdd None None (protocol_in version doi)
    ∷ ReceiverAdd (address_in version destination) (codes "receiver") (range_below level)
    ∷ []

-- its tables, which have no range and accept no packet without a label option
unfoldable pub judge_node : ℕ → Label → Version → List ℕ → TableState
judge_node doi level version destination = fold applied fresh (judge_commands doi level version destination)

-- the label alone
abbrev pub label_alone : Result Delivered Denial → Verdict
label_alone (Ok delivered) = Ok delivered.label
label_alone (Err why) = Err why

-- what the node does with a packet that comes in
abbrev pub judge_rule : ℕ → Label → ParsedPacket Wire → Verdict
judge_rule doi level p = label_alone (receive_of (judge_node doi level p.version p.destination) (codes "interface") p)

-- on the octets of a file, for a receiver of this level
abbrev pub IsVerdict : ℕ → Label → List ℕ → Verdict → Type 0
IsVerdict doi level octets verdict = IsJudged octets (judge_rule doi level) verdict

-- the packet's label option says this label under the DOI: a CIPSO option, with any tag, in version 4, a CALIPSO option in version 6
pub data SaysUnder (doi : ℕ) (p : ParsedPacket Wire) (label : Label) : Type 0 where
  by_cipso : (at : ℕ) (tag : Tag) → p.version ≡ V4 → p.label ≡ Some (wire.Cipso at doi tag label) → SaysUnder doi p label
  by_calipso : (at : ℕ) → p.version ≡ V6 → p.label ≡ Some (wire.Calipso at doi label) → SaysUnder doi p label

-- Why the label is delivered: the octets begin with a packet, with right headers and no second label option, whose option says the label
-- under the DOI, and the level dominates it.
pub record IsGranted (doi : ℕ) (level : Label) (octets : List ℕ) (label : Label) : Type 0 where
  pub packet : ParsedPacket Wire
  pub reads : IsPacket octets packet
  pub says : SaysUnder doi packet label
  pub dominated : Dominates level label

-- the most octets of a file that is judged: 65,535 behind the 40 of an IPv6 header
abbrev pub packet_limit : ℕ
packet_limit = 65575

-- by what its file holds: nothing of an absent one, that it is too long, else the verdict
pub data JudgeReport (doi : ℕ) (level : Label) : Option (List ℕ) → Report → Type 0 where
  absent : JudgeReport doi level None (late_report [] [])
  too_long : (octets : List ℕ) → packet_limit < length octets → JudgeReport doi level (Some octets) (late_report [] packet_limit_line)
  judged : (octets : List ℕ) (verdict : Verdict) → length octets ≤ packet_limit → IsVerdict doi level octets verdict → JudgeReport doi level (Some octets) (late_report (verdict_line verdict) [])

-- 7 for a file that is too long for a packet, else 0, whatever the verdict
abbrev pub JudgeStatus : Option (List ℕ) → ℕ → Type 0
JudgeStatus None status = ⊥
JudgeStatus (Some octets) status = ((packet_limit < length octets) × (status ≡ 7)) ⊎ ((length octets ≤ packet_limit) × (status ≡ 0))

-- it reads one file, and prints nothing in front of the read
abbrev pub judge_says : ℕ → Label → List ℕ → Says
judge_says doi level file = reading_says file (JudgeReport doi level) JudgeStatus ⊥
