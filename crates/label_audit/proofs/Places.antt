-- Places in a report, and texts that are looked for there.
use Rattle.std.proofs.Common.{◌≡◌, ◌<◌, ◌≤◌, ℕ, ◌+◌, Bool, true, false, cond, List, [], ◌∷◌, ◌++◌, length, drop, refl, sym, ap, ◌∙◌, arith, append_assoc}
use Rattle.std.specs.Prelude.{◌==◌, ◌^◌}
use Rattle.std.proofs.Math.Seq.{drop-append_seam}
use Rattle.std.proofs.lemmas.List.{length-append, length-drop, drop-drop}
use Rattle.call_report.specs.report_file.Meeting.{lines_in, DiffersBehind}
use Rattle.label_audit.specs.declared.place.Place.{Place}
use Rattle.label_audit.specs.inside.Reading.{StandsIn, IsExpected}
use Rattle.label_audit.proofs.Fronts.{lines-cons}
use Rattle.label_audit.proofs.Reading.{lines-append}

pub few_lines : (text : List ℕ) → lines_in text ≤ length text
few_lines [] = omega arith
few_lines (o ∷ text) = omega (arith, few_lines text, lines-cons o text, one_most (o == 10)) where
  one_most : (b : Bool) → cond b 1 0 ≤ 1
  one_most true = omega arith
  one_most false = omega arith

-- ---- a text that stands there

pub room_for : (file text rest : List ℕ) (at : ℕ) → at ≤ length file → drop at file ≡ text ++ rest → at + length text ≤ length file
room_for file text rest at within is = omega (arith, within, length-drop at file, ap length is, length-append text rest)

pub rest_at : (file text rest : List ℕ) (at : ℕ) → drop at file ≡ text ++ rest → drop (at + length text) file ≡ rest
rest_at file text rest at is =
    sym (drop-drop (length text) at file) ∙ ap (drop (length text)) is ∙ drop-append_seam text rest

pub met_there : (file text rest : List ℕ) (old new : Place) → StandsIn file old → drop old.at file ≡ text ++ rest → (old.at + length text < 2 ^ 64 → new.at ≡ old.at + length text) → (old.lines + lines_in text < 2 ^ 64 → new.lines ≡ old.lines + lines_in text)
    → IsExpected file text old new true
met_there file text rest old new stands is at lines =
    let room = room_for file text rest old.at stands.1 is in
    let at_is = at (omega (arith, room, stands.2)) in
    let few = few_lines text in
    let lines_is = lines (omega (arith, room, stands.0, stands.2, few)) in (
      is ∙ ap (λ t. text ++ t) (sym (ap (λ n. drop n file) at_is ∙ rest_at file text rest old.at is)),
      lines_is,
      (omega (arith, lines_is, at_is, few, stands.0), omega (arith, at_is, room), stands.2),
    )

-- ---- a text that doesn't

pub lines_there : (file text : List ℕ) (old : Place) (lines : ℕ) → StandsIn file old → DiffersBehind lines (drop old.at file) text → old.lines + lines + 1 < 2 ^ 64
lines_there file text old lines stands d =
    omega (arith, stands.0, stands.1, stands.2, d.count, few_lines d.front, length-drop old.at file, ap length d.of_left, length-append d.front d.behind)

-- ---- one text behind another

pub differs_more : (lines : ℕ) (left text more : List ℕ) → DiffersBehind lines left text → DiffersBehind lines left (text ++ more)
differs_more lines left text more d = record {
  front = d.front;
  octet = d.octet;
  more = d.more ++ more;
  behind = d.behind;
  of_text = ap (λ t. t ++ more) d.of_text ∙ append_assoc d.front (d.octet ∷ d.more) more;
  of_left = d.of_left;
  other = d.other;
  count = d.count;
}

pub differs_behind : (lines : ℕ) (left left' text more : List ℕ) → left ≡ text ++ left' → DiffersBehind lines left' more → DiffersBehind (lines_in text + lines) left (text ++ more)
differs_behind lines left left' text more is d = record {
  front = text ++ d.front;
  octet = d.octet;
  more = d.more;
  behind = d.behind;
  of_text = ap (λ t. text ++ t) d.of_text ∙ sym (append_assoc text d.front (d.octet ∷ d.more));
  of_left = is ∙ ap (λ t. text ++ t) d.of_left ∙ sym (append_assoc text d.front d.behind);
  other = d.other;
  count = omega (arith, d.count, lines-append text d.front);
}

pub expected_then : (file text more : List ℕ) (a b c : Place) (met : Bool) → IsExpected file text a b true → IsExpected file more b c met → IsExpected file (text ++ more) a c met
expected_then file text more a b c true one two = (
  one.0 ∙ ap (λ t. text ++ t) two.0 ∙ sym (append_assoc text more (drop c.at file)),
  omega (arith, one.1, two.1, lines-append text more),
  two.2,
)
expected_then file text more a b c false one two = (
  lines_in text + two.0,
  differs_behind two.0 (drop a.at file) (drop b.at file) text more one.0 two.1,
  omega (arith, one.1, two.2),
)

pub expected_fails : (file text more : List ℕ) (a b : Place) → IsExpected file text a b false → IsExpected file (text ++ more) a b false
expected_fails file text more a b one = (one.0, differs_more one.0 (drop a.at file) text more one.1, one.2)

pub nothing_expected : (file : List ℕ) (a : Place) → StandsIn file a → IsExpected file [] a a true
nothing_expected file a stands = (refl, omega arith, stands)

-- the line at a place is the one that differs
pub differ_one : (old new : Place) (file : List ℕ) → StandsIn file old → (old.lines + 0 + 1 < 2 ^ 64 → new.lines ≡ old.lines + 0 + 1) → new.lines ≡ old.lines + 1
differ_one old new file stands is = omega (arith, is (omega (arith, stands.0, stands.1, stands.2)))
