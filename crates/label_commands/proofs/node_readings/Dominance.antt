-- Dominance of labels, and of what they mean.
use Rattle.std.proofs.Common.{◌≡◌, ℕ, ◌<◌, true, ◌||◌, nat_eq, List, [], ◌∷◌, map, refl, sym, ap, subst, ◌∙◌, arith, inl, inr}
use Rattle.std.specs.List.{list_any}
use Rattle.std.specs.Ordering.{nat_cmp}
use Rattle.std.specs.FinSet as set
use Rattle.std.proofs.lemmas.Bool.{cases_eq, cases_lt, eq-eqb, ne_eqb, or_left, or_right, false≢true}
use Rattle.mls_label.specs.declared.label.Label.{Label}
use Rattle.mls_label.specs.Cats.{has, IsCats}
use Rattle.mls_label.specs.Label.{Dominates}
use Rattle.mls_label.proofs.Law.{sets_have_categories}
use Rattle.label_commands.specs.node_readings.Reading.{NamedMeanings, meaning_in, IsReading}
use Rattle.label_commands.specs.node_readings.Meaning.{meaning_of, MeansDominates}
use Rattle.label_commands.proofs.node_readings.Increasing.{increasing_steps, climbs}
use Rattle.label_commands.proofs.node_readings.Distinct.{differ}

-- ---- the set of what a list's numbers become

module _ (f : ℕ → ℕ) where
  abbrev pub image : List ℕ → set.FinSet nat_cmp
  image ns = set.from_list (map f ns)

  pub image_has : (ns : List ℕ) (n : ℕ) → has ns n ≡ true → set.contains (image ns) (f n) ≡ true
  image_has ns n h = set.contains-from_list_nat (map f ns) (f n) ∙ there ns h
    where
      there : (ms : List ℕ) → has ms n ≡ true → list_any (λ y. nat_eq y (f n)) (map f ms) ≡ true
      there [] h = absurd (false≢true h)
      there (m ∷ ms) h =
          elim (cases_eq n m) [
            | inl e ↦ or_left (nat_eq (f m) (f n)) (list_any (λ y. nat_eq y (f n)) (map f ms)) (eq-eqb (f m) (f n) (ap f (sym e)))
            | inr ne ↦ or_right (nat_eq (f m) (f n)) (list_any (λ y. nat_eq y (f n)) (map f ms)) (there ms (sym (ap (λ b. b || has ms n) (ne_eqb n m ne)) ∙ h))
          ]

  pub has_image : (ns : List ℕ) (k : ℕ) → set.contains (image ns) k ≡ true → (n : ℕ) × (has ns n ≡ true) × (f n ≡ k)
  has_image ns k h = there ns (sym (set.contains-from_list_nat (map f ns) k) ∙ h)
    where
      there : (ms : List ℕ) → list_any (λ y. nat_eq y k) (map f ms) ≡ true → (n : ℕ) × (has ms n ≡ true) × (f n ≡ k)
      there [] h = absurd (false≢true h)
      there (m ∷ ms) h =
          elim (cases_eq (f m) k) [
            | inl e ↦ (m, or_left (nat_eq m m) (has ms m) (eq-eqb m m refl), e)
            | inr ne ↦
                let rest = there ms (sym (ap (λ b. b || list_any (λ y. nat_eq y k) (map f ms)) (ne_eqb (f m) k ne)) ∙ h) in
                (rest.0, or_right (nat_eq rest.0 m) (has ms rest.0) rest.1, rest.2)
          ]

-- ---- dominance

module _ (named : NamedMeanings) (is : IsReading named) where
  higher : (a b : ℕ) → a < b → b < 256 → meaning_in named.levels a < meaning_in named.levels b
  higher a b = climbs named.levels a b (increasing_steps named.levels is.increasing)

  pub means_more : (a b : Label) → a.level < 256 → Dominates a b → MeansDominates (meaning_of named a) (meaning_of named b)
  means_more a b la d = record {
    level = elim (cases_eq b.level a.level) [
      | inl e ↦ omega (arith, ap (meaning_in named.levels) e)
      | inr ne ↦ let less : b.level < a.level = omega (arith, d.level) in omega (arith, higher b.level a.level less la)
    ];
    cats = λ n h.
        let from = has_image (meaning_in named.cats) b.cats n h in
        subst (λ k. set.contains (image (meaning_in named.cats) a.cats) k ≡ true) from.2 (image_has (meaning_in named.cats) a.cats from.0 (d.cats from.0 from.1));
  }

  pub more_means : (a b : Label) → IsCats a.cats → b.level < 256 → IsCats b.cats → MeansDominates (meaning_of named a) (meaning_of named b) → Dominates a b
  more_means a b sa lb sb d = record {
    level = elim (cases_lt a.level b.level) [
      | inl less ↦ absurd (let more : meaning_in named.levels a.level < meaning_in named.levels b.level = higher a.level b.level less lb in omega (arith, d.level))
      | inr le ↦ le
    ];
    cats = λ c h.
        let from = has_image (meaning_in named.cats) a.cats (meaning_in named.cats c) (d.cats (meaning_in named.cats c) (image_has (meaning_in named.cats) b.cats c h)) in
        let same : from.0 ≡ c = differ named.cats is.distinct from.0 c (sets_have_categories a.cats from.0 sa from.1) (sets_have_categories b.cats c sb h) from.2 in
        subst (λ k. has a.cats k ≡ true) same from.1;
  }
