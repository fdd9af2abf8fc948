-- Texts of file names.
use Rattle.std.proofs.Common.{◌≡◌, ℕ, ◌<◌, true, List, [], ◌∷◌, arith}
use Rattle.std.specs.Str.{IsUtf8}
use Rattle.std.specs.List.{list_all}
use Rattle.std.proofs.lemmas.Bool.{and_parts, false≢true}
use Rattle.std.proofs.lemmas.Bool.Decides.{nat_tests}
use Rattle.std.proofs.lemmas.List.Sums.{AllPass-from_list_all}
use Rattle.std.proofs.lemmas.List.Elements.{All-weaker}
use Rattle.std.proofs.lemmas.Str.{IsUtf8-from_ascii}
use Rattle.std.proofs.lemmas.Str.Ascii.{IsAscii-from_all}
use Rattle.label_commands.specs.flow_lines.FileName.{is_file_octet, is_file_name}

small : (octet : ℕ) → is_file_octet octet ≡ true → octet < 128
small octet is = grind (arith, nat_tests)

-- a file name is ASCII
pub names_are_utf8 : (text : List ℕ) → is_file_name text ≡ true → IsUtf8 text
names_are_utf8 [] is = absurd (false≢true is)
names_are_utf8 (first ∷ octets) is =
    let fit = and_parts _ (list_all is_file_octet (first ∷ octets)) is in
    IsUtf8-from_ascii (first ∷ octets) (IsAscii-from_all (first ∷ octets)
    (All-weaker (λ c. is_file_octet c ≡ true) (λ c. c < 128) small (first ∷ octets) (AllPass-from_list_all is_file_octet (first ∷ octets) fit.1)))
