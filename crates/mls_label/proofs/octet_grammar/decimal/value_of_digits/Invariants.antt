use Rattle.std.proofs.Common.{◌≡◌, ◌<◌, ◌^◌, take}
use Rattle.std.specs.Str.Parse.{AllDigits, digits_value}
use Rattle.mls_label.proofs.octet_grammar.decimal.value_of_digits.Given as goal

-- the octets so far are digits, and this is their value
abbrev pub invariant-loop-octet : goal.invariant-loop-octet
invariant-loop-octet l = record {
  digits : AllDigits 10 (take l.octet-index l.text);
  value : digits_value 10 (take l.octet-index l.text) ≡ l.value;
  fits : l.value < 2 ^ 64;
}
