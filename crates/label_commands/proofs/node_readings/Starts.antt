-- The readings that are made.
use Rattle.std.proofs.Common.{◌≡◌, ℕ, ◌<◌, Bool, true, false, ◌&&◌, not, List, [], Option, Some, None, IsTrue, ◌↔◌, if◌then◌else◌, refl, sym, ap, subst, arith}
use Rattle.std.specs.List.{All}
use Rattle.std.proofs.lemmas.List.Elements.{All-nil}
use Rattle.label_commands.specs.declared.node_readings.fault.ReadingFault.{ReadingFault}
use Rattle.label_commands.specs.declared.node_readings.fault.ReadingFault.TheVariants.{NotIncreasing, NotDistinct}
use Rattle.label_commands.specs.node_readings.Reading.{names_once, is_increasing, is_distinct, reading_fault}
use Rattle.doi_table.specs.Pairs.{flipped}
use Rattle.label_commands.specs.node_readings.inside.Namings.{AreNamings}
use Rattle.label_commands.specs.node_readings.inside.Kept.{IsKept}
use Rattle.label_commands.proofs.node_readings.Increasing.{Climbs, steps_increasing, increasing_is}

pub nothing_kept : (levels cats by_meaning : List (ℕ × ℕ)) → levels ≡ [] → cats ≡ [] → by_meaning ≡ [] → IsKept levels cats by_meaning
nothing_kept levels cats by_meaning no_levels no_cats no_meanings = rw (no_levels, no_cats, no_meanings) (record {
  reading = record {
    increasing = steps_increasing [] (λ n lt. omega arith);
    levels_once = refl;
    distinct = refl;
    categories = All-nil (λ (p : ℕ × ℕ). p.0 < 65535);
  };
  turned = refl;
})

pub is_kept : (levels cats by_level by_category by_meaning : List (ℕ × ℕ)) → by_level ≡ levels → by_category ≡ cats → by_meaning ≡ flipped cats → is_increasing levels ≡ true → names_once levels ≡ true → is_distinct cats ≡ true → All (λ (p : ℕ × ℕ). p.0 < 65535) cats
    → IsKept by_level by_category by_meaning
is_kept levels cats by_level by_category by_meaning same_levels same_cats turned increasing once distinct below = rw (same_levels, same_cats) (record {
  reading = record {
    increasing = increasing;
    levels_once = once;
    distinct = distinct;
    categories = below;
  };
  turned = turned;
})

-- ---- what the code learns of the levels

pub record LevelsRead (levels first : List (ℕ × ℕ)) (increasing once : Bool) : Type 0 where
  pub increasing_is : is_increasing levels ≡ increasing
  pub once_is : names_once levels ≡ once
  pub whole : once ≡ true → first ≡ levels

pub levels_read : (levels seen first : List (ℕ × ℕ)) (increasing once : Bool) → seen ≡ levels → AreNamings seen first once → (IsTrue increasing ↔ ((n : ℕ) → n < 255 → Climbs first n)) → LevelsRead levels first increasing once
levels_read levels seen first increasing once same are tells = subst (λ xs. LevelsRead xs first increasing once) same (record {
  increasing_is = increasing_is seen first increasing are.same tells;
  once_is = sym are.once_is;
  whole = are.whole;
})

-- ---- why pairs are no reading

pub not_increasing : (levels cats : List (ℕ × ℕ)) → is_increasing levels ≡ false → reading_fault levels cats ≡ Some NotIncreasing
not_increasing levels cats h =
    let other : Option ReadingFault = if names_once levels && is_distinct cats then None else Some NotDistinct in
    ap (λ b. if not b then Some NotIncreasing else other) h

pub increasing_or : (levels cats : List (ℕ × ℕ)) (once distinct : Bool) → is_increasing levels ≡ true → names_once levels ≡ once → is_distinct cats ≡ distinct → reading_fault levels cats ≡ (if once && distinct then None else Some NotDistinct)
increasing_or levels cats once distinct h o d =
    let none : Option ReadingFault = None in
    (λ i. if not (h i) then Some NotIncreasing else (if o i && d i then none else Some NotDistinct))
