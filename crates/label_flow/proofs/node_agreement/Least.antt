-- The least number that has two meanings.
use Rattle.std.proofs.Common.{◌≡◌, ℕ, ◌<◌, ◌≤◌, Bool, true, false, List, Option, Some, None, refl, sym, ap, ◌∙◌, unwrap_or, arith}
use Rattle.std.specs.List.{All, AllWithin}
use Rattle.std.specs.Prelude.{option_map}
use Rattle.std.proofs.lemmas.List.Elements.{All-weaker}
use Rattle.doi_table.specs.declared.plan.DoiPlan.{DoiPlan}
use Rattle.doi_table.specs.Pairs.{number_by, flipped}
use Rattle.doi_table.specs.Definition.{number_in}
use Rattle.label_commands.specs.node_readings.Reading.{NamedMeanings, meaning_in}
use Rattle.label_flow.specs.declared.node_agreement.difference.Difference.{Difference}
use Rattle.label_flow.specs.node_agreement.Meanings.{wire_meaning}
use Rattle.label_flow.specs.node_agreement.inside.Found.{IsSound, IsSettled, IsLeast, reach}
use Rattle.label_flow.proofs.node_agreement.Numbers.{at_number, mapped}

-- nothing is found above the limit
pub reach_within : (f g : ℕ → Option ℕ) (limit : ℕ) (best : Option Difference) → IsSound f g limit best → reach limit best ≤ limit
reach_within f g limit None sound = omega arith
reach_within f g limit (Some d) sound = omega (arith, sound.0)

-- what is settled stays so
pub stays : (f g : ℕ → Option ℕ) (limit : ℕ) (old new : Option Difference) (n : ℕ) → reach limit new ≤ reach limit old → IsSettled f g limit old n → IsSettled f g limit new n
stays f g limit old new n le settled lt = settled (omega (arith, le, lt))

pub all_stay : (f g : ℕ → Option ℕ) (limit : ℕ) (old new : Option Difference) (pairs : List (ℕ × ℕ)) → reach limit new ≤ reach limit old → All (λ (p : ℕ × ℕ). IsSettled f g limit old p.0) pairs → All (λ (p : ℕ × ℕ). IsSettled f g limit new p.0) pairs
all_stay f g limit old new pairs le all =
    All-weaker (λ (p : ℕ × ℕ). IsSettled f g limit old p.0) (λ (p : ℕ × ℕ). IsSettled f g limit new p.0) (λ p. stays f g limit old new p.0 le) pairs all

pub within_stay : (f g : ℕ → Option ℕ) (limit : ℕ) (old new : Option Difference) (pairs : List (ℕ × ℕ)) (i : ℕ) → reach limit new ≤ reach limit old → AllWithin (λ (p : ℕ × ℕ). IsSettled f g limit old p.0) pairs 0 i → AllWithin (λ (p : ℕ × ℕ). IsSettled f g limit new p.0) pairs 0 i
within_stay f g limit old new pairs i le all k d lo hi = stays f g limit old new _ le (all k d lo hi)

module _ (left right : DoiPlan) (left_named right_named : NamedMeanings) (limit : ℕ) (best : Option Difference) where
  abbrev f : ℕ → Option ℕ
  f = wire_meaning false left left_named

  abbrev g : ℕ → Option ℕ
  g = wire_meaning false right right_named

  given : (trans : Bool) (pairs : List (ℕ × ℕ)) (named : List (ℕ × ℕ)) (n a : ℕ) → trans ≡ true → option_map (meaning_in named) (number_in trans pairs n) ≡ Some a → (c : ℕ) × (number_by pairs n ≡ Some c)
  given false pairs named n a e h = absurd (cc)
  given true pairs named n a e h = let m = mapped (meaning_in named) (number_by pairs n) a h in (m.0, m.1)

  passed : (trans : Bool) (pairs : List (ℕ × ℕ)) (named : List (ℕ × ℕ)) (n a : ℕ) → trans ≡ false → option_map (meaning_in named) (number_in trans pairs n) ≡ Some a → meaning_in named n ≡ a
  passed true pairs named n a e h = absurd (cc)
  passed false pairs named n a e h = let is : Some (meaning_in named n) ≡ Some a = h in cc

  -- where the left definition has pairs, their numbers are all that count
  pub least_by_left : (pairs : List (ℕ × ℕ)) → left.trans ≡ true → ((n : ℕ) → number_by (flipped left.cats) n ≡ number_by pairs n) → IsSound f g limit best → All (λ (p : ℕ × ℕ). IsSettled f g limit best p.0) pairs → IsLeast f g limit best
  least_by_left pairs trans same sound all = record {
    sound = sound;
    settled = λ n lt a b ea eb.
        let c = given left.trans (flipped left.cats) left_named.cats n a trans ea in
        at_number (IsSettled f g limit best) pairs n c.0 all (sym (same n) ∙ c.1) lt a b ea eb;
  }

  -- where the right definition has pairs, the same
  pub least_by_right : (pairs : List (ℕ × ℕ)) → right.trans ≡ true → ((n : ℕ) → number_by (flipped right.cats) n ≡ number_by pairs n) → IsSound f g limit best → All (λ (p : ℕ × ℕ). IsSettled f g limit best p.0) pairs → IsLeast f g limit best
  least_by_right pairs trans same sound all = record {
    sound = sound;
    settled = λ n lt a b ea eb.
        let c = given right.trans (flipped right.cats) right_named.cats n b trans eb in
        at_number (IsSettled f g limit best) pairs n c.0 all (sym (same n) ∙ c.1) lt a b ea eb;
  }

  -- where both pass all numbers, those that a reading names
  pub least_by_names : left.trans ≡ false → right.trans ≡ false → IsSound f g limit best → All (λ (p : ℕ × ℕ). IsSettled f g limit best p.0) left_named.cats → All (λ (p : ℕ × ℕ). IsSettled f g limit best p.0) right_named.cats → IsLeast f g limit best
  least_by_names pass also sound all others = record {
    sound = sound;
    settled = λ n lt a b ea eb. by n lt a b ea eb (number_by left_named.cats n) refl (number_by right_named.cats n) refl;
  }
    where
      by : (n : ℕ) → n < reach limit best → (a b : ℕ) → f n ≡ Some a → g n ≡ Some b → (r : Option ℕ) → number_by left_named.cats n ≡ r → (s : Option ℕ) → number_by right_named.cats n ≡ s → a ≡ b
      by n lt a b ea eb (Some c) found s other = at_number (IsSettled f g limit best) left_named.cats n c all found lt a b ea eb
      by n lt a b ea eb None none (Some c) found = at_number (IsSettled f g limit best) right_named.cats n c others found lt a b ea eb
      by n lt a b ea eb None none None also_none =
          sym (passed left.trans (flipped left.cats) left_named.cats n a pass ea)
          ∙ ap (λ r. unwrap_or r n) none
          ∙ sym (ap (λ r. unwrap_or r n) also_none)
          ∙ passed right.trans (flipped right.cats) right_named.cats n b also eb
