-- The categories of a set, one by one.
use Rattle.std.proofs.Common.{◌≡◌, ℕ, zero, suc, ◌+◌, ◌-◌, ◌<◌, ◌≤◌, List, [], ◌∷◌, ◌++◌, length, drop, Option, Some, None, Ok, Err, slice_get, refl, sym, ap, subst, ◌∙◌, arith}
use Rattle.std.specs.List.{range_with_len}
use Rattle.std.specs.Option.{option_map_or}
use Rattle.std.proofs.lemmas.List.{drop_all}
use Rattle.mls_label.specs.Cats.{Ascends, IsCats}
use Rattle.mls_label.specs.Runs.{runs_of, numbers_of}
use Rattle.mls_label.proofs.Law.{runs_have_their_numbers}
use Rattle.doi_table.specs.Pairs.{number_by}
use Rattle.doi_table.specs.inside.Walk.{joined, walk, GoesOn, StopsAt}
use Rattle.doi_table.proofs.Lookups.{number_here, number_behind}

-- ---- ascending numbers behind a range

pub ascends_behind : (first n past high : ℕ) (cats : List ℕ) → first + n ≡ past → past ≤ high → Ascends past high cats → Ascends first high (range_with_len first n ++ cats)
ascends_behind first zero past high cats e le ascends = let same : past ≡ first = omega arith in subst (λ k. Ascends k high cats) same ascends
ascends_behind first (suc n) past high cats e le ascends =
    (omega arith, omega arith, ascends_behind (first + 1) n past high cats (omega arith) le ascends)

pub ascends_past : (low first n past high : ℕ) (cats : List ℕ) → first + suc n ≡ past → Ascends low high (range_with_len first (suc n) ++ cats) → Ascends past high cats
ascends_past low first zero past high cats e ascends = let same : first + 1 ≡ past = omega arith in subst (λ k. Ascends k high cats) same ascends.2
ascends_past low first (suc n) past high cats e ascends =
    ascends_past (first + 1) (first + 1) n past high cats (omega arith) ascends.2

ascends_less : (low : ℕ) (cats : List ℕ) → Ascends low 65535 cats → Ascends 0 65535 cats
ascends_less low [] ascends = tt
ascends_less low (c ∷ cats) ascends = (omega arith, ascends.1, ascends.2)

-- ---- a walk

pub walk_same : (f g : ℕ → Option ℕ) (low : ℕ) (cats set : List ℕ) → Ascends low 65535 cats → ((m : ℕ) → low ≤ m → f m ≡ g m) → walk f cats set ≡ walk g cats set
walk_same f g low [] set ascends same = refl
walk_same f g low (c ∷ cats) set ascends same =
    ap (λ r. option_map_or (λ d. walk f cats (joined set d)) r (Err c)) (same c ascends.0)
    ∙ elim (g c) as (λ r. option_map_or (λ d. walk f cats (joined set d)) r (Err c) ≡ option_map_or (λ d. walk g cats (joined set d)) r (Err c)) [
      | None ↦ refl
      | Some d ↦ walk_same f g (c + 1) cats (joined set d) ascends.2 (λ m le. same m (omega (arith, ascends.0)))
    ]

pub walk_step : (f : ℕ → Option ℕ) (c d : ℕ) (cats set : List ℕ) → f c ≡ Some d → walk f (c ∷ cats) set ≡ walk f cats (joined set d)
walk_step f c d cats set e = ap (λ r. option_map_or (λ x. walk f cats (joined set x)) r (Err c)) e

pub walk_stop : (f : ℕ → Option ℕ) (c : ℕ) (cats set : List ℕ) → f c ≡ None → walk f (c ∷ cats) set ≡ Err c
walk_stop f c cats set e = ap (λ r. option_map_or (λ x. walk f cats (joined set x)) r (Err c)) e

-- ---- one run, category by category

-- what is left of a run once its categories below c are walked
pub record IsAt (pairs rest : List (ℕ × ℕ)) (first last c : ℕ) (old set : List ℕ) : Type 0 where
  pub is : (cats : List ℕ) → Ascends (last + 1) 65535 cats
      → walk (number_by pairs) (range_with_len first (last + 1 - first) ++ cats) old ≡ walk (number_by rest) (range_with_len c (last + 1 - c) ++ cats) set

from_here : (c last n : ℕ) (cats : List ℕ) → last + 1 ≡ c + suc n → last < 65535 → Ascends (last + 1) 65535 cats → Ascends c 65535 (range_with_len c (suc n) ++ cats)
from_here c last n cats e lt ascends = ascends_behind c (suc n) (last + 1) 65535 cats (omega arith) (omega arith) ascends

pub at_first : (pairs rest : List (ℕ × ℕ)) (first last : ℕ) (old : List ℕ) → first ≤ last → last < 65535 → ((m : ℕ) → first ≤ m → number_by pairs m ≡ number_by rest m) → IsAt pairs rest first last first old old
at_first pairs rest first last old order lt same = record {
  is = λ cats ascends.
      let n = last - first in
      let len : last + 1 - first ≡ suc n = omega arith in
      let all = from_here first last n cats (omega arith) lt ascends in
      ap (λ k. walk (number_by pairs) (range_with_len first k ++ cats) old) len
      ∙ walk_same (number_by pairs) (number_by rest) first (range_with_len first (suc n) ++ cats) old all same
      ∙ sym (ap (λ k. walk (number_by rest) (range_with_len first k ++ cats) old) len);
}

pub at_next : (pairs rest behind : List (ℕ × ℕ)) (first last c d : ℕ) (old set new : List ℕ) → c ≤ last → last < 65535 → rest ≡ (c, d) ∷ behind → new ≡ joined set d → IsAt pairs rest first last c old set → IsAt pairs behind first last (c + 1) old new
at_next pairs rest behind first last c d old set new le lt head made at = record {
  is = λ cats ascends.
      let n = last - c in
      let len : last + 1 - c ≡ suc n = omega arith in
      let less : n ≡ last + 1 - (c + 1) = omega arith in
      let all = from_here c last n cats (omega arith) lt ascends in
      let p : ℕ × ℕ = (c, d) in
      at.is cats ascends
      ∙ ap (λ k. walk (number_by rest) (range_with_len c k ++ cats) set) len
      ∙ ap (λ ps. walk (number_by ps) (range_with_len c (suc n) ++ cats) set) head
      ∙ walk_step (number_by (p ∷ behind)) c d (range_with_len (c + 1) n ++ cats) set (number_here p behind c refl)
      ∙ walk_same (number_by (p ∷ behind)) (number_by behind) (c + 1) (range_with_len (c + 1) n ++ cats) (joined set d) all.2 (λ m ge. number_behind p behind m (λ e. omega arith))
      ∙ ap (λ k. walk (number_by behind) (range_with_len (c + 1) k ++ cats) (joined set d)) less
      ∙ ap (walk (number_by behind) (range_with_len (c + 1) (last + 1 - (c + 1)) ++ cats)) (sym made);
}

pub at_stop : (pairs rest : List (ℕ × ℕ)) (first last c : ℕ) (old set : List ℕ) → c ≤ last → number_by rest c ≡ None → IsAt pairs rest first last c old set → StopsAt pairs first last old c
at_stop pairs rest first last c old set le none at cats ascends =
    let n = last - c in
    let len : last + 1 - c ≡ suc n = omega arith in
    at.is cats ascends
    ∙ ap (λ k. walk (number_by rest) (range_with_len c k ++ cats) set) len
    ∙ walk_stop (number_by rest) c (range_with_len (c + 1) n ++ cats) set none

pub at_end : (pairs rest : List (ℕ × ℕ)) (first last c : ℕ) (old set : List ℕ) → c ≡ last + 1 → IsAt pairs rest first last c old set → GoesOn pairs rest first last old set
at_end pairs rest first last c old set e at cats ascends =
    let none : last + 1 - c ≡ 0 = omega arith in
    at.is cats ascends ∙ ap (λ k. walk (number_by rest) (range_with_len c k ++ cats) set) none

-- ---- a set, run by run

pub record IsThrough (pairs rest : List (ℕ × ℕ)) (cats set : List ℕ) (done : ℕ) : Type 0 where
  pub ascends : Ascends 0 65535 (numbers_of (drop done (runs_of cats)))
  pub is : walk (number_by pairs) cats [] ≡ walk (number_by rest) (numbers_of (drop done (runs_of cats))) set

drop_at : (xs : List (ℕ × ℕ)) (i : ℕ) (x : ℕ × ℕ) → slice_get xs i ≡ Some x → drop i xs ≡ x ∷ drop (i + 1) xs
drop_at [] i x e = absurd (cc)
drop_at (y ∷ xs) zero x e = let same : y ≡ x = cc in ap (λ z. z ∷ xs) same
drop_at (y ∷ xs) (suc i) x e =
    let more : suc i + 1 ≡ suc (i + 1) = omega arith in
    drop_at xs i x e ∙ ap (λ k. x ∷ drop k (y ∷ xs)) (sym more)

pub through_start : (pairs : List (ℕ × ℕ)) (cats set : List ℕ) → IsCats cats → set ≡ [] → IsThrough pairs pairs cats set 0
through_start pairs cats set is empty = record {
  ascends = subst IsCats (sym (runs_have_their_numbers cats)) is;
  is = ap (λ cs. walk (number_by pairs) cs []) (sym (runs_have_their_numbers cats))
      ∙ ap (walk (number_by pairs) (numbers_of (runs_of cats))) (sym empty);
}

-- behind the run that stands next, the others' numbers ascend
others_ascend : (cats : List ℕ) (done : ℕ) (r : ℕ × ℕ) → slice_get (runs_of cats) done ≡ Some r → r.0 ≤ r.1 → Ascends 0 65535 (numbers_of (drop done (runs_of cats))) → Ascends (r.1 + 1) 65535 (numbers_of (drop (done + 1) (runs_of cats)))
others_ascend cats done r at order ascends =
    let rest = numbers_of (drop (done + 1) (runs_of cats)) in
    let n = r.1 - r.0 in
    let len : r.1 + 1 - r.0 ≡ suc n = omega arith in
    let whole : numbers_of (drop done (runs_of cats)) ≡ range_with_len r.0 (suc n) ++ rest = ap numbers_of (drop_at (runs_of cats) done r at) ∙ ap (λ k. range_with_len r.0 k ++ rest) len in
    ascends_past 0 r.0 n (r.1 + 1) 65535 rest (omega arith) (subst (Ascends 0 65535) whole ascends)

pub through_next : (pairs rest behind : List (ℕ × ℕ)) (cats set new : List ℕ) (done : ℕ) (r : ℕ × ℕ) → slice_get (runs_of cats) done ≡ Some r → r.0 ≤ r.1 → GoesOn rest behind r.0 r.1 set new → IsThrough pairs rest cats set done → IsThrough pairs behind cats new (done + 1)
through_next pairs rest behind cats set new done r at order goes through =
    let others = others_ascend cats done r at order through.ascends in
    let left = numbers_of (drop (done + 1) (runs_of cats)) in
    record {
      ascends = ascends_less (r.1 + 1) left others;
      is = through.is
          ∙ ap (λ runs. walk (number_by rest) (numbers_of runs) set) (drop_at (runs_of cats) done r at)
          ∙ goes left others;
    }

pub through_stop : (pairs rest : List (ℕ × ℕ)) (cats set : List ℕ) (done c : ℕ) (r : ℕ × ℕ) → slice_get (runs_of cats) done ≡ Some r → r.0 ≤ r.1 → StopsAt rest r.0 r.1 set c → IsThrough pairs rest cats set done → walk (number_by pairs) cats [] ≡ Err c
through_stop pairs rest cats set done c r at order stops through =
    let others = others_ascend cats done r at order through.ascends in
    through.is
    ∙ ap (λ runs. walk (number_by rest) (numbers_of runs) set) (drop_at (runs_of cats) done r at)
    ∙ stops (numbers_of (drop (done + 1) (runs_of cats))) others

pub through_end : (pairs rest : List (ℕ × ℕ)) (cats set : List ℕ) (done : ℕ) → done ≡ length (runs_of cats) → IsThrough pairs rest cats set done → walk (number_by pairs) cats [] ≡ Ok set
through_end pairs rest cats set done e through =
    through.is ∙ ap (λ runs. walk (number_by rest) (numbers_of runs) set) (ap (λ k. drop k (runs_of cats)) e ∙ drop_all (length (runs_of cats)) (runs_of cats) (omega arith))
