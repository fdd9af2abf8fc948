-- The label that option 130 says, in a packet and in its octets.
use Rattle.std.specs.Prelude.{ℕ, List, [], ◌∷◌, Option, Some, None, Result, Ok, Err}
use Rattle.mls_label.specs.declared.octet_grammar.fault.WireFault.{WireFault}
use Rattle.mls_label.specs.declared.label.Label.{Label}
use Rattle.ripso_option.specs.Reading.{ripso_of}
use Rattle.ip_headers.specs.declared.fault.HeadFault.{HeadFault}
use Rattle.ip_headers.specs.Options.{Placed}
use Rattle.ip_headers.specs.Packet.{Headers}
use Rattle.packet_label.specs.Choice.{front_in}
use Rattle.ripso_border.specs.Options.{ripso_options}

abbrev pub label_read : Result (Label × ℕ) WireFault → Option Label
label_read (Ok said) = Some said.0
label_read (Err fault) = None

abbrev pub first_said : List Placed → Option Label
first_said [] = None
first_said (option ∷ more) = label_read (ripso_of option.octets)

-- what the first option 130 among these says
abbrev pub ripso_said : List Placed → Option Label
ripso_said others = first_said (ripso_options others)

abbrev pub front_said : Result Headers HeadFault → Option Label
front_said (Ok h) = ripso_said h.others
front_said (Err fault) = None

-- what the first option 130 of a packet says
abbrev pub border_label : List ℕ → Option Label
border_label octets = front_said (front_in octets)
