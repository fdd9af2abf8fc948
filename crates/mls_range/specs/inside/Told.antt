-- A fault of octets as that of a text.
use Rattle.mls_label.specs.declared.octet_grammar.fault.WireKind.{WireKind}
use Rattle.mls_label.specs.declared.octet_grammar.fault.WireKind.TheVariants.{Octet, End}
use Rattle.mls_label.specs.declared.octet_grammar.fault.WireFault.{WireFault}
use Rattle.mls_range.specs.declared.fault.TextKind.{TextKind}
use Rattle.mls_range.specs.declared.fault.TextKind.TheVariants as text
use Rattle.mls_range.specs.declared.fault.TextFault.{TextFault}

abbrev pub text_kind : WireKind → TextKind
text_kind Octet = text.Grammar
text_kind End = text.End

abbrev pub text_fault : WireFault → TextFault
text_fault fault = record { octet = fault.octet; kind = text_kind fault.kind }
