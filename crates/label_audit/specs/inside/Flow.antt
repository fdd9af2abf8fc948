-- The flows of a script as they are judged: what the workers have met, and what is awaited.
use Rattle.std.specs.Prelude.{◌≡◌, ◌+◌, ◌-◌, ◌≤◌, ℕ, Bool, List, [], ◌∷◌, length, map, max, All, slice_get, Option, Some, None, Result, Ok, Err}
use Rattle.std.specs.Option.{option_map_or}
use Rattle.net_io.specs.Depot.{DepotState, octets_of}
use Rattle.label_commands.specs.declared.script.Script.{Script}
use Rattle.label_commands.specs.declared.flow_lines.flow.FlowLine.{FlowLine}
use Rattle.captures.specs.declared.packet_in.PacketIn.{PacketIn}
use Rattle.label_flow.specs.packet_walk.Stepping.{TablesAt}
use Rattle.captures.specs.declared.reader.AnyFrames.{AnyFrames}
use Rattle.captures.specs.Frame.{packet_in}
use Rattle.captures.specs.Reader.{FramesLeft, file_name_of, left_of, begun_file}
use Rattle.captures.specs.CaptureFile.{CaptureFile, capture_file}
use Rattle.captures.specs.declared.fault.FileFault.{FileFault}
use Rattle.call_report.specs.Report.{Folder}
use Rattle.call_report.specs.Lines.Fixed.{done_line}
use Rattle.label_flow.specs.flow_access.Valid.{plan_of}
use Rattle.script_run.specs.flow_run.Input.{flow_input}
use Rattle.label_audit.specs.declared.flow.Counted.{Counted}
use Rattle.label_audit.specs.declared.flow.Read.{Read}
use Rattle.label_audit.specs.declared.flow.Read.TheVariants.{Packet, End, Broken}
use Rattle.label_audit.specs.declared.place.Place.{Place}
use Rattle.label_audit.specs.inside.Awaited.{Awaited}
use Rattle.label_audit.specs.inside.Reading.{IsJudgedTo}
use Rattle.label_audit.specs.inside.Grammar.{site_of, PacketsFrom, BehindPackets, FlowsFrom, Then, replies_of}

-- what a worker has met in front of a flow, or since
abbrev pub met_by : ℕ → List TablesAt → ℕ → ℕ
met_by low tables k = option_map_or (λ (t : TablesAt). max low t.version) (slice_get tables k) low

-- the tables of so many workers, none of which has met a later version than this
pub record Ready (script : Script) (workers top : ℕ) (tables : List TablesAt) : Type 0 where
  pub many : length tables ≡ workers
  pub plans : All (λ t. t.plan ≡ plan_of script) tables
  pub low : All (λ t. t.version ≤ top) tables

-- what may stand behind the packets of a flow, counted from 0, of a script
abbrev pub behind_flow : Script → ℕ → Folder → ℕ → ℕ → FlowLine → List FlowLine → Counted → Bool → List ℕ → Type 0
behind_flow script workers held flow most line flows =
    BehindPackets script (flow + 1) line (λ packets b u. FlowsFrom script workers held (flow + 1 + 1) (most - packets) flows b u)

-- what is awaited in front of these packets
abbrev pub packets_awaited : Script → ℕ → Folder → ℕ → ℕ → FlowLine → List FlowLine → Counted → List TablesAt → List PacketIn → Bool → List ℕ → Type 0
packets_awaited script workers held flow most line flows count tables packets =
    PacketsFrom (site_of script workers (flow + 1) line) (behind_flow script workers held flow most line flows) count (met_by line.before tables) packets

-- what is awaited of a flow, over a folder, where so many packets may be read, by the flow's line and those behind it
abbrev pub OfFlow : Type 1
OfFlow = Folder → ℕ → FlowLine → List FlowLine → Awaited

-- these packets, and what may stand behind a flow whose packets were counted
abbrev pub packets_to_come : Script → ℕ → ℕ → Counted → List TablesAt → List PacketIn → OfFlow
packets_to_come script workers flow count tables packets = λ held most line flows. packets_awaited script workers held flow most line flows count tables packets

abbrev pub none_to_come : Script → ℕ → ℕ → Counted → OfFlow
none_to_come script workers flow count = λ held most line flows. behind_flow script workers held flow most line flows count

-- what is awaited of a flow is judged from one place to another, over whatever folder and whatever may be read
abbrev pub IsFlowJudgedTo : Script → ℕ → OfFlow → OfFlow → List ℕ → Place → Place → Bool → Type 0
IsFlowJudgedTo script flow may may' file old new met = (held : Folder) (most : ℕ) (line : FlowLine) (flows : List FlowLine) → slice_get script.flows flow ≡ Some line
    → IsJudgedTo (may held most line flows) (may' held most line flows) file old new met

-- what is awaited behind a flow's last line
abbrev pub end_awaited : Script → ℕ → Folder → ℕ → ℕ → FlowLine → List FlowLine → Bool → List ℕ → Type 0
end_awaited script workers held flow most line flows =
    Then (replies_of script (flow + 1) line)
    (λ b u. FlowsFrom script workers held (flow + 1 + 1) (most - length (flow_input (flow + 1) most (held line.input)).frames) flows b u)

-- what is awaited behind all flows
abbrev pub done_awaited : Bool → List ℕ → Type 0
done_awaited all text = text ≡ done_line

-- and behind the report's end
abbrev pub ended_awaited : Bool → List ℕ → Type 0
ended_awaited all text = text ≡ []

-- the frames and the fault of a capture from where its reader stands on
abbrev pub left_by : DepotState → AnyFrames → FramesLeft
left_by folder reader = left_of reader (octets_of (folder.held (file_name_of reader)))

-- a packet was read, or the end, or the file isn't a whole capture
abbrev pub IsReadOn : FramesLeft → PacketIn → FramesLeft → Read → Type 0
IsReadOn left packet left' Packet = (map packet_in left.frames ≡ packet ∷ map packet_in left'.frames) × (left'.fault ≡ left.fault)
IsReadOn left packet left' End = left.frames ≡ []
IsReadOn left packet left' Broken = left.fault ≡ None → ⊥

-- a capture was begun to be read, or isn't one
abbrev pub HasBegunReading : Option (List ℕ) → Option AnyFrames → Type 0
HasBegunReading held (Some reader) = (file : List ℕ) × (held ≡ Some file) × (capture_file file ≡ Ok (begun_file reader file))
HasBegunReading held None = (file : List ℕ) × (fault : FileFault) × (held ≡ Some file) × (capture_file file ≡ Err fault)

-- no more packets than one call reads, and one
abbrev pub IsFew : Counted → Type 0
IsFew counts = (counts.packets ≤ 1048577) × (counts.passed ≤ counts.packets) × (counts.denied ≤ counts.packets)

-- the names of all inputs
abbrev pub inputs_of : Script → List (List ℕ)
inputs_of script = map (λ flow. flow.input) script.flows

-- the packets of a flow's capture; none where it isn't one
abbrev pub packets_of : Result CaptureFile FileFault → List PacketIn
packets_of (Ok capture) = map packet_in capture.frames
packets_of (Err fault) = []

abbrev pub capture_packets : Folder → FlowLine → List PacketIn
capture_packets held line = option_map_or (λ file. packets_of (capture_file file)) (held line.input) []

-- the capture of a flow is there, whole, and within the limit
abbrev pub HasWholeCapture : Script → ℕ → Folder → Type 0
HasWholeCapture script flow held = (line : FlowLine) → slice_get script.flows flow ≡ Some line
    → (file : List ℕ) × (capture : CaptureFile) × (held line.input ≡ Some file) × (capture_file file ≡ Ok capture) × (capture.fault ≡ None) × (length capture.frames ≤ 1048576)

-- what is awaited behind a flow and the replies behind it
abbrev pub flows_behind : Script → ℕ → Folder → ℕ → ℕ → FlowLine → List FlowLine → Bool → List ℕ → Type 0
flows_behind script workers held flow most line flows =
    λ b u. FlowsFrom script workers held (flow + 1 + 1) (most - length (flow_input (flow + 1) most (held line.input)).frames) flows b u
