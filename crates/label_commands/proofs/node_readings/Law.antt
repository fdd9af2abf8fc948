-- The laws of src/laws.rt under their names, for the crates above.
use Rattle.std.proofs.Common.{◌≡◌, ◌↔◌, ℕ, ◌+◌, ◌<◌, true, List, IsTrue, le_refl, subst, arith}
use Rattle.std.specs.List.{All}
use Rattle.std.specs.FinSet as set
use Rattle.mls_label.specs.declared.label.Label.{Label}
use Rattle.mls_label.specs.Cats.{has, IsCats}
use Rattle.mls_label.specs.Label.{Dominates}
use Rattle.label_commands.specs.node_readings.Reading.{NamedMeanings, meaning_in, names_once, is_increasing, is_distinct, IsReading}
use Rattle.label_commands.specs.node_readings.Meaning.{Meaning, meaning_of, MeansDominates}
use Rattle.label_commands.proofs.node_readings.Distinct.{once_of, differ, distinct_from}
use Rattle.label_commands.proofs.node_readings.Increasing.{increasing_steps, steps_increasing, climbs}
use Rattle.label_commands.proofs.node_readings.Dominance.{image, image_has, has_image, means_more, more_means}

pub distinct_categories_differ : (cats : List (ℕ × ℕ)) → All (λ (p : ℕ × ℕ). p.0 < 65535) cats → (IsTrue (is_distinct cats) ↔ (IsTrue (names_once cats) × ((a b : ℕ) → a < 65535 → b < 65535 → meaning_in cats a ≡ meaning_in cats b → a ≡ b)))
distinct_categories_differ cats below = (λ d. (once_of cats d, differ cats d), λ h. distinct_from cats below h.0 h.1)

pub increasing_levels_keep_their_order : (levels : List (ℕ × ℕ)) → (IsTrue (is_increasing levels) ↔ ((a b : ℕ) → a < b → b < 256 → meaning_in levels a < meaning_in levels b))
increasing_levels_keep_their_order levels =
    (λ h a b. climbs levels a b (increasing_steps levels h), λ far. steps_increasing levels (λ n lt. far n (n + 1) (omega arith) (omega arith)))

pub meaning_follows_dominance : (named : NamedMeanings) (a b : Label) → IsReading named → a.level < 256 → IsCats a.cats → b.level < 256 → IsCats b.cats → (Dominates a b ↔ MeansDominates (meaning_of named a) (meaning_of named b))
meaning_follows_dominance named a b is la sa lb sb = (means_more named is a b la, more_means named is a b sa lb sb)

pub meanings_dominate_themselves : (a : Meaning) → MeansDominates a a
meanings_dominate_themselves a = record { level = le_refl a.level; cats = λ n has. has }

pub dominance_of_meanings_goes_on : (a b c : Meaning) → MeansDominates a b → MeansDominates b c → MeansDominates a c
dominance_of_meanings_goes_on a b c above below = record { level = omega (arith, above.level, below.level); cats = λ n has. above.cats n (below.cats n has) }

pub meanings_have_what_categories_mean : (named : NamedMeanings) (label : Label) (n : ℕ) → (IsTrue (set.contains (meaning_of named label).cats n) ↔ ((c : ℕ) × IsTrue (has label.cats c) × (meaning_in named.cats c ≡ n)))
meanings_have_what_categories_mean named label n = (
  λ there. has_image (meaning_in named.cats) label.cats n there,
  λ from. subst (λ k. set.contains (image (meaning_in named.cats) label.cats) k ≡ true) from.2 (image_has (meaning_in named.cats) label.cats from.0 from.1),
)
