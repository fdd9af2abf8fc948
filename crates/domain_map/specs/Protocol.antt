-- Protocols of a map (netlabelctl(8)): unlabelled, or a label in an option under a DOI.
use Rattle.std.specs.Prelude.{ℕ, Bool, false, nat_eq}
use Rattle.mls_label.specs.declared.label.Proto.{Proto}
use Rattle.mls_label.specs.declared.label.Proto.TheVariants as Of
use Rattle.domain_map.specs.declared.protocol.Protocol.{Protocol}
use Rattle.domain_map.specs.declared.protocol.Protocol.TheVariants.{Cipso, Calipso}

-- the protocol has this DOI
abbrev pub has_doi : Proto → ℕ → Protocol → Bool
has_doi Of.Cipso doi (Cipso named) = nat_eq doi named
has_doi Of.Calipso doi (Calipso named) = nat_eq doi named
has_doi proto doi protocol = false
