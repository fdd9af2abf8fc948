-- Texts that are compared piece by piece.
use Rattle.std.proofs.Common.{◌≡◌, ◌≢◌, ◌+◌, ◌-◌, ◌<◌, ◌≤◌, ℕ, List, [], ◌∷◌, ◌++◌, length, take, drop, sym, ap, ◌∙◌, arith}
use Rattle.std.specs.Prelude.{slice_get}
use Rattle.std.proofs.lemmas.List.{take-append-drop, drop-drop, take_all, length-drop}
use Rattle.std.proofs.Math.Seq.{take-add}
use Rattle.call_report.specs.report_file.Meeting.{lines_in, DiffersBehind}

-- a text that stands whole
pub stands : (left text : List ℕ) (count : ℕ) → length text ≤ count → take count left ≡ take count text → left ≡ text ++ drop count left
stands left text count all same = sym (take-append-drop count left) ∙ ap (λ l. l ++ drop count left) (same ∙ take_all count text all)

-- octets that go on alike
pub more_alike : (left text : List ℕ) (count more : ℕ) → take count left ≡ take count text → take more (drop count left) ≡ take more (drop count text)
    → take (count + more) left ≡ take (count + more) text
more_alike left text count more front behind = take-add count more left ∙ ap (λ l. l ++ take more (drop count left)) front ∙ ap (λ l. take count text ++ l) behind ∙ sym (take-add count more text)

-- a text that differs
pub differs : (left text rest : List ℕ) (count lines : ℕ) → count < length text → rest ≡ drop count text → take count left ≡ take count text
    → slice_get (drop count left) 0 ≢ slice_get rest 0 → lines ≡ lines_in (take count text) → DiffersBehind lines left text
differs left text rest count lines within rest_is same other lines_is = by rest rest_is other
  where
    by : (rest : List ℕ) → rest ≡ drop count text → slice_get (drop count left) 0 ≢ slice_get rest 0 → DiffersBehind lines left text
    by [] is other = absurd (omega (arith, within, ap length is, length-drop count text))
    by (octet ∷ more) is other = record {
      front = take count text;
      octet = octet;
      more = more;
      behind = drop count left;
      of_text = sym (take-append-drop count text) ∙ ap (λ l. take count text ++ l) (sym is);
      of_left = sym (take-append-drop count left) ∙ ap (λ l. l ++ drop count left) same;
      other = other;
      count = lines_is;
    }

-- what is left of a text behind more octets
pub rest_more : (text rest : List ℕ) (count : ℕ) → length rest ≤ length text → rest ≡ drop (length text - length rest) text → count ≤ length rest
    → let left = take (length rest - count) (drop count rest) in
    (length left ≤ length text) × ((left ≡ drop (length text - length left) text) × (length text - length left ≡ (length text - length rest) + count))
rest_more text rest count within rest_is few =
    let size : length (drop count rest) ≡ length rest - count = length-drop count rest in
    let all : take (length rest - count) (drop count rest) ≡ drop count rest = take_all (length rest - count) (drop count rest) (omega (arith, size)) in
    let size_left : length (take (length rest - count) (drop count rest)) ≡ length rest - count = ap length all ∙ size in
    let place : (length text - length rest) + count ≡ length text - length (take (length rest - count) (drop count rest)) = omega (arith, size_left, within, few) in (
      omega (arith, size_left, within),
      (
        all ∙ ap (drop count) rest_is ∙ drop-drop count (length text - length rest) text ∙ ap (λ n. drop n text) place,
        sym place,
      ),
    )
