-- Runs written as numbers.
use Rattle.std.proofs.Common.{◌≡◌, ℕ, suc, ◌+◌, ◌-◌, ◌*◌, ◌<◌, ◌≤◌, ◌==◌, if◌then◌else◌, List, [], ◌∷◌, ◌++◌, length, drop, Some, slice_get, refl, sym, ap, ◌∙◌, append_assoc, arith, length-append}
use Rattle.std.specs.Int.{w16, to_be_bytes}
use Rattle.std.specs.List.{range_with_len}
use Rattle.std.proofs.lemmas.Bool.{eq-eqb, ne_eqb}
use Rattle.std.proofs.Math.Seq.{drop-cons}
use Rattle.std.proofs.lemmas.Option.{slice_get_within, get_or_from_slice_get}
use Rattle.std.proofs.lemmas.List.{append-nil, length-drop, drop_all}
use Rattle.std.proofs.lemmas.List.FromFn.{length-range_with_len}
use Rattle.mls_label.specs.Runs.{runs_of, numbers_of}
use Rattle.mls_label.proofs.Law.{runs_have_their_numbers}
use Rattle.mls_label.proofs.octet_grammar.Octets.{range_more}
use Rattle.cipso_tags.specs.Body.{words}
use Rattle.cipso_tags.specs.Text.{ends_down, range_numbers}
use Rattle.cipso_tags.proofs.Words.{length-words, words-append}

pub drop_at : (xs : List (ℕ × ℕ)) (i : ℕ) (x : ℕ × ℕ) → slice_get xs i ≡ Some x → drop i xs ≡ x ∷ drop (i + 1) xs
drop_at xs i x e =
    let next : suc i ≡ i + 1 = omega arith in
    drop-cons xs i x (slice_get_within xs i x e) ∙ (λ j. get_or_from_slice_get xs i x x e j ∷ drop (next j) xs)

-- ---- the numbers of a run

pub run_more : (old out new : List ℕ) (first c : ℕ) → first ≤ c → out ≡ old ++ words (range_with_len first (c - first)) → new ≡ out ++ to_be_bytes w16 c → new ≡ old ++ words (range_with_len first (c + 1 - first))
run_more old out new first c le so_far pushed =
    let n = c - first in
    let at : first + n ≡ c = omega arith in
    let more : n + 1 ≡ c + 1 - first = omega arith in
    let split : range_with_len first (c + 1 - first) ≡ range_with_len first n ++ c ∷ [] =
    ap (range_with_len first) (sym more) ∙ range_more first n ∙ ap (λ k. range_with_len first n ++ k ∷ []) at in
    pushed
    ∙ ap (λ xs. xs ++ to_be_bytes w16 c) so_far
    ∙ append_assoc old (words (range_with_len first n)) (to_be_bytes w16 c)
    ∙ ap (λ xs. old ++ xs) (sym (words-append (range_with_len first n) (c ∷ [])))
    ∙ ap (λ xs. old ++ words xs) (sym split)

-- ---- the numbers of a set, run by run

-- what was written, with what is left, is all
pub record IsLeft (cats old out : List ℕ) (done : ℕ) : Type 0 where
  pub is : out ++ words (numbers_of (drop done (runs_of cats))) ≡ old ++ words cats

pub left_start : (cats old : List ℕ) → IsLeft cats old old 0
left_start cats old = record { is = ap (λ xs. old ++ words xs) (runs_have_their_numbers cats) }

pub left_next : (cats old out new : List ℕ) (done : ℕ) (r : ℕ × ℕ) → slice_get (runs_of cats) done ≡ Some r → IsLeft cats old out done → new ≡ out ++ words (range_with_len r.0 (r.1 + 1 - r.0)) → IsLeft cats old new (done + 1)
left_next cats old out new done r at seen written =
    let run = range_with_len r.0 (r.1 + 1 - r.0) in
    let rest = numbers_of (drop (done + 1) (runs_of cats)) in
    record {
      is = ap (λ xs. xs ++ words rest) written
          ∙ append_assoc out (words run) (words rest)
          ∙ ap (λ xs. out ++ xs) (sym (words-append run rest))
          ∙ ap (λ runs. out ++ words (numbers_of runs)) (sym (drop_at (runs_of cats) done r at))
          ∙ seen.is;
    }

pub left_room : (cats old out : List ℕ) (done : ℕ) (r : ℕ × ℕ) → slice_get (runs_of cats) done ≡ Some r → IsLeft cats old out done → length out + 2 * (r.1 + 1 - r.0) ≤ length old + 2 * length cats
left_room cats old out done r at seen =
    let run = range_with_len r.0 (r.1 + 1 - r.0) in
    let rest = numbers_of (drop (done + 1) (runs_of cats)) in
    let whole : out ++ words (run ++ rest) ≡ old ++ words cats = ap (λ runs. out ++ words (numbers_of runs)) (sym (drop_at (runs_of cats) done r at)) ∙ seen.is in
    omega (arith, ap length whole, length-append out (words (run ++ rest)), length-words (run ++ rest), length-append run rest, length-range_with_len r.0 (r.1 + 1 - r.0), length-append old (words cats), length-words cats)

pub left_end : (cats old out : List ℕ) (done : ℕ) → length (runs_of cats) ≤ done → IsLeft cats old out done → out ≡ old ++ words cats
left_end cats old out done all seen =
    let none : drop done (runs_of cats) ≡ [] = drop_all done (runs_of cats) all in
    sym (append-nil out) ∙ ap (λ runs. out ++ words (numbers_of runs)) (sym none) ∙ seen.is

-- ---- the ends of runs, from the highest down

pub length-ends_down : (runs : List (ℕ × ℕ)) → length (ends_down runs) ≡ 2 * length runs
length-ends_down [] = refl
length-ends_down (r ∷ runs) = omega (arith, length-append (ends_down runs) (r.1 ∷ r.0 ∷ []), length-ends_down runs)

pub ends_next : (runs : List (ℕ × ℕ)) (old out middle new : List ℕ) (i : ℕ) (r : ℕ × ℕ) → slice_get runs i ≡ Some r → out ≡ old ++ words (ends_down (drop (i + 1) runs)) → middle ≡ out ++ to_be_bytes w16 r.1 → new ≡ middle ++ to_be_bytes w16 r.0 → new ≡ old ++ words (ends_down (drop i runs))
ends_next runs old out middle new i r at so_far first second =
    let above = ends_down (drop (i + 1) runs) in
    second
    ∙ ap (λ xs. xs ++ to_be_bytes w16 r.0) (first ∙ ap (λ xs. xs ++ to_be_bytes w16 r.1) so_far)
    ∙ append_assoc (old ++ words above) (to_be_bytes w16 r.1) (to_be_bytes w16 r.0)
    ∙ append_assoc old (words above) (words (r.1 ∷ r.0 ∷ []))
    ∙ ap (λ xs. old ++ xs) (sym (words-append above (r.1 ∷ r.0 ∷ [])))
    ∙ ap (λ xs. old ++ words (ends_down xs)) (sym (drop_at runs i r at))

pub ends_start : (runs : List (ℕ × ℕ)) (old : List ℕ) → old ≡ old ++ words (ends_down (drop (length runs) runs))
ends_start runs old =
    sym (append-nil old) ∙ ap (λ xs. old ++ words (ends_down xs)) (sym (drop_all (length runs) runs (omega arith)))

pub ends_room : (runs : List (ℕ × ℕ)) (old out : List ℕ) (i : ℕ) → i ≤ length runs → out ≡ old ++ words (ends_down (drop i runs)) → length out ≡ length old + 4 * (length runs - i)
ends_room runs old out i le so_far =
    let above = ends_down (drop i runs) in
    omega (arith, ap length so_far, length-append old (words above), length-words above, length-ends_down (drop i runs), length-drop i runs)

-- ---- the lowest run

pub numbers_none : (runs : List (ℕ × ℕ)) → length runs ≡ 0 → range_numbers runs ≡ ends_down (drop 1 runs)
numbers_none [] none = refl
numbers_none (r ∷ runs) none = absurd (omega (arith, none))

pub numbers_zero : (runs : List (ℕ × ℕ)) (r : ℕ × ℕ) → slice_get runs 0 ≡ Some r → r.0 ≡ 0 → range_numbers runs ≡ ends_down (drop 1 runs) ++ r.1 ∷ []
numbers_zero [] r at is = absurd (cc)
numbers_zero (x ∷ runs) r at is =
    let same : x ≡ r = cc in
    ap (λ (y : ℕ × ℕ). ends_down runs ++ y.1 ∷ (if y.0 == 0 then [] else y.0 ∷ [])) same ∙ ap (λ b. ends_down runs ++ r.1 ∷ (if b then [] else r.0 ∷ [])) (eq-eqb r.0 0 is)

pub numbers_more : (runs : List (ℕ × ℕ)) (r : ℕ × ℕ) → slice_get runs 0 ≡ Some r → (r.0 ≡ 0 → ⊥) → range_numbers runs ≡ ends_down (drop 1 runs) ++ r.1 ∷ r.0 ∷ []
numbers_more [] r at not = absurd (cc)
numbers_more (x ∷ runs) r at not =
    let same : x ≡ r = cc in
    ap (λ (y : ℕ × ℕ). ends_down runs ++ y.1 ∷ (if y.0 == 0 then [] else y.0 ∷ [])) same ∙ ap (λ b. ends_down runs ++ r.1 ∷ (if b then [] else r.0 ∷ [])) (ne_eqb r.0 0 not)

pub ends_end : (runs : List (ℕ × ℕ)) (old out : List ℕ) (left : ℕ) → left ≤ 1 → (0 < length runs → 0 < left) → out ≡ old ++ words (ends_down (drop left runs)) → out ≡ old ++ words (ends_down (drop 1 runs))
ends_end [] old out left le lowest so_far =
    so_far ∙ ap (λ xs. old ++ words (ends_down xs)) (drop_all left [] (omega arith))
ends_end (r ∷ runs) old out left le lowest so_far =
    let some : 0 < left = lowest (omega arith) in
    let one : left ≡ 1 = omega arith in
    so_far ∙ ap (λ k. old ++ words (ends_down (drop k (r ∷ runs)))) one
