-- The two kinds of a grammar's fault, at an octet.
use Rattle.std.specs.Prelude.{ℕ}
use Rattle.mls_label.specs.declared.octet_grammar.fault.WireKind.TheVariants.{Octet, End}
use Rattle.mls_label.specs.declared.octet_grammar.fault.WireFault.{WireFault}

-- the octet doesn't fit
abbrev pub octet_fault : ℕ → WireFault
octet_fault octet = record { octet = octet; kind = Octet }

-- the text ends early
abbrev pub end_fault : ℕ → WireFault
end_fault octet = record { octet = octet; kind = End }
