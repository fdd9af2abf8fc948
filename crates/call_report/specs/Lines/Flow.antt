-- Lines of flows and of their packets. Flows, packets and hops are counted from 1.
use Rattle.std.specs.Prelude.{ℕ, zero, suc, List, [], ◌∷◌, ◌++◌, map, codes, slice_get}
use Rattle.std.specs.Fmt.{decimal}
use Rattle.std.specs.List.{join_with_byte}
use Rattle.std.specs.Option.{option_map_or}
use Rattle.mls_range.specs.LabelText.{comma}
use Rattle.domain_map.specs.address_text.Address.{address_text}
use Rattle.packet_label.specs.declared.denial.Carrier.{Carrier}
use Rattle.packet_label.specs.declared.denial.Carrier.TheVariants.{Unlabelled, Cipso, Calipso}
use Rattle.label_commands.specs.declared.flow_lines.hop.Hop.{Hop}
use Rattle.label_commands.specs.flow_lines.Hop.{node_of}
use Rattle.label_flow.specs.declared.packet_walk.walked.End.{End}
use Rattle.label_flow.specs.declared.packet_walk.walked.End.TheVariants.{Delivered, Sent, Denied}
use Rattle.label_flow.specs.declared.packet_walk.walked.Walked.{Walked}
use Rattle.call_report.specs.Lines.Parts.{line_of, name_at}
use Rattle.call_report.specs.Lines.Denial.{delivered_text, denial_text}

-- the flow of this number begins, with the capture that it reads
unfoldable pub flow_line : ℕ → List ℕ → List ℕ
flow_line flow input = line_of (codes "flow " ++ decimal flow ++ codes " " ++ input)

-- what carries a label: nothing, or a protocol under its DOI
abbrev pub carrier_text : Carrier → List ℕ
carrier_text Unlabelled = codes "unlbl"
carrier_text (Cipso doi) = codes "cipsov4," ++ decimal doi
carrier_text (Calipso doi) = codes "calipso," ++ decimal doi

-- the name of the node that judges at a hop; `-` at hop 0, which no node judges
abbrev pub hop_node : List (List ℕ) → List Hop → ℕ → List ℕ
hop_node names hops zero = codes "-"
hop_node names hops (suc h) = option_map_or (λ (hop : Hop). name_at names (node_of hop)) (slice_get hops h) []

-- versions, joined by commas; `-` for none
abbrev pub versions_text : List ℕ → List ℕ
versions_text [] = codes "-"
versions_text (version ∷ versions) = join_with_byte comma (map decimal (version ∷ versions))

-- how a walk ended
abbrev pub end_text : List (List ℕ) → List Hop → End → List ℕ
end_text names hops (Delivered label receiver) = delivered_text label ++ codes " to " ++ address_text receiver
end_text names hops (Sent carrier) = codes "sent " ++ carrier_text carrier
end_text names hops (Denied hop why) = denial_text why ++ codes " hop " ++ decimal hop ++ codes " node " ++ hop_node names hops hop

-- what became of a packet of a flow, over these hops of the nodes of these names
unfoldable pub walked_line : ℕ → ℕ → List (List ℕ) → List Hop → Walked → List ℕ
walked_line flow number names hops walked =
    line_of (codes "packet " ++ decimal flow ++ codes "." ++ decimal number ++ codes " " ++ end_text names hops walked.end ++ codes " versions " ++ versions_text walked.versions)

-- how many packets a flow had, how many of them were delivered or sent, and how many denied
unfoldable pub flow_end_line : ℕ → ℕ → ℕ → ℕ → List ℕ
flow_end_line flow packets passed denied =
    line_of (codes "end " ++ decimal flow ++ codes " packets " ++ decimal packets ++ codes " passed " ++ decimal passed ++ codes " denied " ++ decimal denied)
