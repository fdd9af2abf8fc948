-- Where made packets go: one node, which receives them.
use Rattle.std.specs.Prelude.{ℕ, List, [], ◌∷◌, codes, fold, None}
use Rattle.std.specs.List.{range_with_len}
use Rattle.mls_label.specs.declared.label.Label.{Label}
use Rattle.mls_label.specs.declared.label.Tag.TheVariants.{One}
use Rattle.domain_map.specs.declared.address_text.address.Address.TheVariants.{V4}
use Rattle.domain_map.specs.declared.protocol.Protocol.TheVariants.{Cipso}
use Rattle.script_lines.specs.command_values.Ranges.{range_below}
use Rattle.script_lines.specs.declared.command.Command.{Command}
use Rattle.script_lines.specs.declared.command.Command.TheVariants.{CipsoAddPass, MapAdd, ReceiverAdd}
use Rattle.node_tables.specs.Tables.{TableState, fresh}
use Rattle.node_tables.specs.Effect.{applied}

-- the receiver's level: s2:c0.c13
abbrev pub receiver_level : Label
receiver_level = record { level = 2; cats = range_with_len 0 14 }

-- the address of each made packet's destination
abbrev pub receiver_address : List ℕ
receiver_address = 10 ∷ 0 ∷ 0 ∷ 2 ∷ []

-- The node passes all numbers of DOI 16, which every domain speaks with everybody, and somebody receives at 10.0.0.2.
abbrev pub made_commands : List Command
made_commands =
    CipsoAddPass 16 (One ∷ [])
    ∷ MapAdd None None (Cipso 16)
    ∷ ReceiverAdd (V4 receiver_address) (codes "sink_t") (range_below receiver_level)
    ∷ []

-- its tables
unfoldable pub made_node : TableState
made_node = fold applied fresh made_commands
