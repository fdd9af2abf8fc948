-- What a definition keeps serves both directions of a translation.
use Rattle.std.proofs.Common.{◌≡◌, ℕ, ◌+◌, ◌<◌, ◌≤◌, Bool, true, false, ◌&&◌, List, [], ◌∷◌, length, Ok, if◌then◌else◌, is_none, refl, sym, ap, subst, ◌∙◌, arith}
use Rattle.std.specs.List.{find, filter_map}
use Rattle.std.proofs.lemmas.List.Elements.{All-map, All-weaker, All-head, All-tail}
use Rattle.std.proofs.lemmas.List.Sorted.{length_permutation, All-permutation}
use Rattle.mls_label.specs.declared.label.Label.{Label}
use Rattle.mls_label.specs.Cats.{has, cats_where, Ascends}
use Rattle.doi_table.specs.declared.plan.DoiPlan.{DoiPlan}
use Rattle.doi_table.specs.Pairs.{number_by, flipped, firsts, seconds, are_distinct, is_one_to_one}
use Rattle.doi_table.specs.Definition.{AreBelow, IsPlan, is_plan_one_to_one}
use Rattle.doi_table.specs.Translation.{mapped_label, label_by, wire_label, local_label}
use Rattle.doi_table.specs.inside.Sorted.{AreRising, IsSorted, AreDirections, IsKept, Serves}
use Rattle.doi_table.proofs.Sorting.{sorted_distinct, number_permuted}

-- ---- pairs the other way round

pub firsts-flipped : (pairs : List (ℕ × ℕ)) → firsts (flipped pairs) ≡ seconds pairs
firsts-flipped [] = refl
firsts-flipped (p ∷ pairs) = ap (λ ns. p.1 ∷ ns) (firsts-flipped pairs)

pub length-flipped : (pairs : List (ℕ × ℕ)) → length (flipped pairs) ≡ length pairs
length-flipped [] = refl
length-flipped (p ∷ pairs) = omega (arith, length-flipped pairs)

pub flipped_below : (bound : ℕ) (pairs : List (ℕ × ℕ)) → AreBelow bound pairs → AreBelow bound (flipped pairs)
flipped_below bound pairs below =
    All-map (λ (p : ℕ × ℕ). (p.0 < bound) × (p.1 < bound)) (λ (p : ℕ × ℕ). (p.1, p.0)) pairs (All-weaker (λ (p : ℕ × ℕ). (p.0 < bound) × (p.1 < bound)) (λ (p : ℕ × ℕ). (p.1 < bound) × (p.0 < bound)) (λ p h. (h.1, h.0)) pairs below)

-- ---- one to one

all_four : (a b c d : Bool) → a ≡ true → b ≡ true → c ≡ true → d ≡ true → ((a && b) && (c && d)) ≡ true
all_four a b c d p q r s = ap (λ x. (x && b) && (c && d)) p ∙ ap (λ x. x && (c && d)) q ∙ ap (λ x. x && d) r ∙ s

-- the pairs of a plan that sort in both directions are one to one
pub directions_one_to_one : (plan : DoiPlan) (levels cats back_levels back_cats : List (ℕ × ℕ)) → AreDirections plan levels cats back_levels back_cats → is_plan_one_to_one plan ≡ true
directions_one_to_one plan levels cats back_levels back_cats are =
    all_four _ _ _ _
    (sorted_distinct plan.levels levels are.out_levels)
    (sym (ap are_distinct (firsts-flipped plan.levels)) ∙ sorted_distinct (flipped plan.levels) back_levels are.in_levels)
    (sorted_distinct plan.cats cats are.out_cats)
    (sym (ap are_distinct (firsts-flipped plan.cats)) ∙ sorted_distinct (flipped plan.cats) back_cats are.in_cats)

second_fails : (a b c d : Bool) → (b && d) ≡ false → ((a && b) && (c && d)) ≡ false
second_fails false b c d h = refl
second_fails true false c d h = refl
second_fails true true true d h = h
second_fails true true false d h = refl

pub back_fails : (levels cats : List (ℕ × ℕ)) → (are_distinct (firsts (flipped levels)) && are_distinct (firsts (flipped cats))) ≡ false → (is_one_to_one levels && is_one_to_one cats) ≡ false
back_fails levels cats h =
    second_fails (are_distinct (firsts levels)) (are_distinct (seconds levels)) (are_distinct (firsts cats)) (are_distinct (seconds cats))
    (sym (λ i. are_distinct (firsts-flipped levels i) && are_distinct (firsts-flipped cats i)) ∙ h)

-- ---- sorted pairs serve as the given ones

sorted_serves : (given_levels given_cats levels cats : List (ℕ × ℕ)) → AreBelow 256 given_levels → AreBelow 65535 given_cats → length given_cats ≤ 1952 → IsSorted given_levels levels → IsSorted given_cats cats → Serves given_levels given_cats levels cats
sorted_serves given_levels given_cats levels cats below256 below few by_levels by_cats =
    record {
      serving = record {
        levels_rise = by_levels.rising;
        levels_below = All-permutation (λ (p : ℕ × ℕ). (p.0 < 256) × (p.1 < 256)) given_levels levels by_levels.same below256;
        cats_rise = by_cats.rising;
        cats_below = All-permutation (λ (p : ℕ × ℕ). (p.0 < 65535) × (p.1 < 65535)) given_cats cats by_cats.same below;
        few = omega (arith, length_permutation given_cats cats by_cats.same);
      };
      has_levels = by_levels.same;
      has_cats = by_cats.same;
      same_levels = number_permuted given_levels levels by_levels.same (sorted_distinct given_levels levels by_levels);
      same_cats = number_permuted given_cats cats by_cats.same (sorted_distinct given_cats cats by_cats);
    }

pub kept_out : (plan : DoiPlan) (levels cats back_levels back_cats : List (ℕ × ℕ)) → IsKept plan levels cats back_levels back_cats → Serves plan.levels plan.cats levels cats
kept_out plan levels cats back_levels back_cats kept =
    let is = kept.is_definition in
    sorted_serves plan.levels plan.cats levels cats is.levels is.is_plan.cats is.few kept.directions.out_levels kept.directions.out_cats

pub kept_in : (plan : DoiPlan) (levels cats back_levels back_cats : List (ℕ × ℕ)) → IsKept plan levels cats back_levels back_cats → Serves (flipped plan.levels) (flipped plan.cats) back_levels back_cats
kept_in plan levels cats back_levels back_cats kept =
    let is = kept.is_definition in
    sorted_serves (flipped plan.levels) (flipped plan.cats) back_levels back_cats (flipped_below 256 plan.levels is.levels) (flipped_below 65535 plan.cats is.is_plan.cats) (omega (arith, is.few, length-flipped plan.cats)) kept.directions.in_levels kept.directions.in_cats

-- the label by the sorted pairs is the label by the given ones
pub label_served : (given_levels given_cats levels cats : List (ℕ × ℕ)) (label : Label) → Serves given_levels given_cats levels cats → label_by given_levels given_cats label ≡ label_by levels cats label
label_served given_levels given_cats levels cats label serves =
    ap (λ l. mapped_label l (find (λ c. is_none (number_by given_cats c)) label.cats) (cats_where (has (filter_map (number_by given_cats) label.cats)))) (serves.same_levels label.level)
    ∙ (λ i. mapped_label (number_by levels label.level) (find (λ c. is_none (serves.same_cats c i)) label.cats) (cats_where (has (filter_map (λ c. serves.same_cats c i) label.cats))))

-- ---- in ascending order

pub rising_ascends : (low bound : ℕ) (pairs : List (ℕ × ℕ)) → AreRising low pairs → AreBelow bound pairs → Ascends low bound (firsts pairs)
rising_ascends low bound [] rising below = tt
rising_ascends low bound (p ∷ pairs) rising below =
    (rising.0, (All-head (λ (q : ℕ × ℕ). (q.0 < bound) × (q.1 < bound)) p pairs below).0, rising_ascends (p.0 + 1) bound pairs rising.1 (All-tail (λ (q : ℕ × ℕ). (q.0 < bound) × (q.1 < bound)) p pairs below))

-- ---- a plan that is accepted

pub kept_plan : (plan kept : DoiPlan) (levels cats back_levels back_cats : List (ℕ × ℕ)) → kept ≡ plan → IsPlan plan → length plan.cats ≤ 1952 → AreBelow 256 plan.levels → AreDirections plan levels cats back_levels back_cats → IsKept kept levels cats back_levels back_cats
kept_plan plan kept levels cats back_levels back_cats same is few below ways =
    subst (λ p. IsKept p levels cats back_levels back_cats) (sym same) (record {
      is_definition = record {
        is_plan = is;
        levels = below;
        few = few;
        one_to_one = directions_one_to_one plan levels cats back_levels back_cats ways;
      };
      directions = ways;
    })

-- ---- the label of a translated definition

pub wire_served : (plan : DoiPlan) (levels cats : List (ℕ × ℕ)) (label : Label) → plan.trans ≡ true → Serves plan.levels plan.cats levels cats → wire_label plan label ≡ label_by levels cats label
wire_served plan levels cats label trans serves =
    ap (λ b. if b then label_by plan.levels plan.cats label else Ok label) trans ∙ label_served plan.levels plan.cats levels cats label serves

pub local_served : (plan : DoiPlan) (levels cats : List (ℕ × ℕ)) (label : Label) → plan.trans ≡ true → Serves (flipped plan.levels) (flipped plan.cats) levels cats → local_label plan label ≡ label_by levels cats label
local_served plan levels cats label trans serves =
    ap (λ b. if b then label_by (flipped plan.levels) (flipped plan.cats) label else Ok label) trans ∙ label_served (flipped plan.levels) (flipped plan.cats) levels cats label serves
