-- The octets of an option that goes out under a protocol, and the definition that it goes by.
use Rattle.std.specs.Prelude.{◌≡◌, ℕ, ◌<◌, List, Option, Some, None, IfSome, Result, Ok, Err, if◌then◌else◌}
use Rattle.mls_label.specs.declared.label.Label.{Label}
use Rattle.mls_label.specs.declared.label.Proto.{Proto}
use Rattle.mls_label.specs.declared.label.Proto.TheVariants as Of
use Rattle.mls_label.specs.Label.{IsLabel}
use Rattle.doi_table.specs.declared.plan.DoiPlan.{DoiPlan}
use Rattle.doi_table.specs.Table.{Entries}
use Rattle.domain_map.specs.declared.protocol.Protocol.{Protocol}
use Rattle.domain_map.specs.declared.protocol.Protocol.TheVariants.{Unlbl, Cipso, Calipso}
use Rattle.ip_headers.specs.declared.version.Version.TheVariants.{V4, V6}
use Rattle.packet_label.specs.declared.packet.Wire.{Wire}
use Rattle.packet_label.specs.declared.denial.Denial.{Denial}
use Rattle.packet_label.specs.declared.denial.Denial.TheVariants.{Inexpressible}
use Rattle.label_send.specs.Outgoing.{IsExpressed, cipso_said, calipso_said, outgoing}

-- the octets of an option of the protocol with what goes out, or none under `unlbl`
abbrev pub IsOutgoing : Protocol → Result (Option Wire) Denial → Option (List ℕ) → Type 0
IsOutgoing Unlbl out None = out ≡ Ok None
IsOutgoing (Cipso doi) out (Some octets) = IsExpressed V4 out octets
IsOutgoing (Calipso doi) out (Some octets) = IsExpressed V6 out octets
IsOutgoing protocol out option = ⊥

abbrev pub protocol_of : Proto → ℕ → Protocol
protocol_of Of.Cipso doi = Cipso doi
protocol_of Of.Calipso doi = Calipso doi

-- the numbers of a label on the wire, once they were translated into the one that is lent: its own, where the definition passes all numbers
abbrev pub numbers_of : DoiPlan → Label → Label → Label
numbers_of plan label lent = if plan.trans then lent else label

-- what goes out by a definition of the DOI, if there is one with numbers for the label, which are these
abbrev pub said_by : Proto → ℕ → Label → Label → Option DoiPlan → Result (Option Wire) Denial
said_by proto doi label lent None = Err Inexpressible
said_by Of.Cipso doi label lent (Some plan) = cipso_said doi plan.tags (Ok (numbers_of plan label lent))
said_by Of.Calipso doi label lent (Some plan) = calipso_said doi (Ok (numbers_of plan label lent))

-- a definition of the DOI was found with numbers for the label, which are these, or no option goes out
pub record IsDefinedFor (definitions : Entries) (proto : Proto) (doi : ℕ) (label lent : Label) (found : Option DoiPlan) : Type 0 where
  pub said : outgoing definitions (protocol_of proto doi) label ≡ said_by proto doi label lent found
  pub named : IfSome found (λ plan. 0 < doi)
  pub whole : IfSome found (λ plan. IsLabel (numbers_of plan label lent))
