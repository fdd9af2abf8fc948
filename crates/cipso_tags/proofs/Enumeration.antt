-- Categories one by one, strictly ascending.
use Rattle.std.proofs.Common.{◌≡◌, ℕ, ◌+◌, ◌-◌, ◌<◌, ◌≤◌, ◌||◌, List, [], ◌∷◌, ◌++◌, length, nat_eq, sym, ap, subst, ◌∙◌, append_assoc, arith}
use Rattle.std.specs.List.{range_with_len}
use Rattle.std.proofs.lemmas.List.Folds.{list_any-append}
use Rattle.std.proofs.lemmas.List.FromFn.{length-range_with_len}
use Rattle.std.proofs.lemmas.Bool.Decides.{nat_tests}
use Rattle.mls_label.specs.Cats.{has, Ascends, IsCats, cats_where, is_within}
use Rattle.mls_label.proofs.Law.{ranges_ascend, sets_are_what_they_have}
use Rattle.cipso_tags.proofs.Words.{AreSmall}
use Rattle.cipso_tags.proofs.Numbers.{IsStep, IsAfter}

pub ascends_small : (low : ℕ) (ns : List ℕ) → Ascends low 65535 ns → AreSmall ns
ascends_small low [] a = tt
ascends_small low (n ∷ ns) a = (omega (arith, a.1), ascends_small (n + 1) ns a.2)

-- ascending numbers need room
ascends_room : (low high : ℕ) (ys : List ℕ) → low ≤ high → Ascends low high ys → low + length ys ≤ high
ascends_room low high [] le a = omega arith
ascends_room low high (y ∷ ys) le a = omega (arith, a.0, ascends_room (y + 1) high ys (omega (arith, a.1)) a.2)

pub enumeration_step : (count : ℕ) (xs : List ℕ) (low later : ℕ) → length xs + 1 + later ≡ count → later ≤ 65534 → IsAfter IsCats (Ascends low 65535) xs → IsStep IsCats count xs low (65534 - later)
enumeration_step count xs low later long few after =
    record {
      bound = λ y ys d same.
          let a : Ascends low 65535 (y ∷ ys) = after.tight (y ∷ ys) d in
          (a.0, omega (arith, a.1, ascends_room (y + 1) 65535 ys (omega (arith, a.1)) a.2));
      extend = λ c le ge. (
        range_with_len (c + 1) later,
        omega (arith, length-range_with_len (c + 1) later),
        after.loose (c ∷ range_with_len (c + 1) later) (le, omega arith, ranges_ascend (c + 1) 65535 (c + 1) later (omega arith) (omega arith)),
      );
    }

pub enumeration_more : (xs : List ℕ) (low c : ℕ) → low ≤ c → c < 65535 → IsAfter IsCats (Ascends low 65535) xs → IsAfter IsCats (Ascends (c + 1) 65535) (xs ++ c ∷ [])
enumeration_more xs low c le lt after =
    record {
      tight = λ ys d. (after.tight (c ∷ ys) (subst IsCats (append_assoc xs (c ∷ []) ys) d)).2;
      loose = λ ys a. subst IsCats (sym (append_assoc xs (c ∷ []) ys)) (after.loose (c ∷ ys) (le, lt, a));
    }

pub cats_more : (xs new : List ℕ) (low c : ℕ) → low ≤ c → c < 65535 → IsAfter IsCats (Ascends low 65535) xs → new ≡ cats_where (λ d. has xs d || is_within c c d) → new ≡ xs ++ c ∷ []
cats_more xs new low c le lt after added =
    added
    ∙ sym (sets_are_what_they_have (xs ++ c ∷ []) (λ d. has xs d || is_within c c d) (after.loose (c ∷ []) (le, lt, tt)) (λ d small. list_any-append (nat_eq d) xs (c ∷ []) ∙ ap (λ b. has xs d || b) (grind (arith, nat_tests))))
