-- The category that has a meaning, and what a set of categories means.
use Rattle.std.proofs.Common.{◌≡◌, ◌↔◌, ℕ, zero, suc, ◌<◌, ◌≤◌, nat_le, Bool, true, false, ◌||◌, List, [], ◌∷◌, length, slice_get, Option, Some, None, unwrap_or, IsTrue, refl, sym, ap, subst, ◌∙◌, inl, inr}
use Rattle.std.specs.Prelude.{MatchOption}
use Rattle.std.specs.List.{list_any}
use Rattle.std.proofs.lemmas.Bool.{and_parts, and_from, or_left, or_right, le-leb, leb-true, false≢true}
use Rattle.std.proofs.lemmas.Option.{none-some, same_Some, slice_get_within}
use Rattle.std.specs.FinSet as set
use Rattle.mls_label.specs.declared.label.Label.{Label}
use Rattle.mls_label.specs.Cats.{has, is_within, IsCats}
use Rattle.mls_label.specs.Runs.{runs_of}
use Rattle.mls_label.proofs.Law.{sets_have_categories, runs_have_their_numbers, runs_have_what_each_has}
use Rattle.doi_table.specs.Pairs.{number_by, flipped, firsts, seconds, are_distinct, is_one_to_one}
use Rattle.doi_table.proofs.Law.{pairs_lead_back}
use Rattle.label_commands.specs.node_readings.Reading.{NamedMeanings, meaning_in, names_once, IsReading}
use Rattle.label_commands.specs.node_readings.Meaning.{meaning_of, MeansDominates}
use Rattle.label_commands.specs.node_readings.inside.Meant.{IsMeant, AreMeant}
use Rattle.label_commands.proofs.node_readings.Distinct.{In, number_in_pairs, found_once, below_in, once_of, parts, differ}
use Rattle.label_commands.proofs.node_readings.Dominance.{image, image_has, has_image}

-- ---- pairs the other way round

firsts_flipped : (pairs : List (ℕ × ℕ)) → firsts (flipped pairs) ≡ seconds pairs
firsts_flipped [] = refl
firsts_flipped (p ∷ pairs) = ap (λ ns. p.1 ∷ ns) (firsts_flipped pairs)

-- no meaning is named twice
pub meanings_once : (pairs : List (ℕ × ℕ)) → names_once (flipped pairs) ≡ are_distinct (seconds pairs)
meanings_once pairs = ap are_distinct (firsts_flipped pairs)

in_flipped : (pairs : List (ℕ × ℕ)) (n m : ℕ) → In (flipped pairs) (m, n) → In pairs (n, m)
in_flipped [] n m h = absurd h
in_flipped (p ∷ pairs) n m h =
    elim h [
      | inl same ↦ inl (λ i. ((same i).1, (same i).0))
      | inr more ↦ inr (in_flipped pairs n m more)
    ]

module _ (named : NamedMeanings) (is : IsReading named) (m : ℕ) where
  one_to_one : is_one_to_one named.cats ≡ true
  one_to_one = (parts named.cats is.distinct).0

  -- what is found by a meaning is a category that has it
  pub by_meaning : (c : ℕ) → number_by (flipped named.cats) m ≡ Some c → (c < 65535) × (meaning_in named.cats c ≡ m)
  by_meaning c found =
      let there = in_flipped named.cats c m (number_in_pairs (flipped named.cats) m c found) in (
        below_in named.cats (c, m) is.categories there,
        ap (λ r. unwrap_or r c) (found_once named.cats (c, m) (once_of named.cats is.distinct) there),
      )

  -- where nothing is named so, only the number itself can mean it
  itself : number_by (flipped named.cats) m ≡ None → (c : ℕ) → meaning_in named.cats c ≡ m → (c ≡ m) × (number_by named.cats m ≡ None)
  itself none c means = by_number (number_by named.cats c) refl
    where
      by_number : (r : Option ℕ) → number_by named.cats c ≡ r → (c ≡ m) × (number_by named.cats m ≡ None)
      by_number (Some k) e =
          let same : k ≡ m = ap (λ r. unwrap_or r c) (sym e) ∙ means in
          let back : number_by (flipped named.cats) m ≡ Some c = ap (number_by (flipped named.cats)) (sym same) ∙ pairs_lead_back named.cats c k one_to_one e in
          absurd (none-some c (sym none ∙ back))
      by_number None e =
          let same : c ≡ m = ap (λ r. unwrap_or r c) (sym e) ∙ means in
          (same, ap (number_by named.cats) (sym same) ∙ e)

  pub by_itself : number_by (flipped named.cats) m ≡ None → (r : Option ℕ)
      → MatchOption r (m < 65535 → number_by named.cats m ≡ None → ⊥) (λ c. (c ≡ m) × (c < 65535) × (number_by named.cats m ≡ None))
      → MatchOption r ((c : ℕ) → c < 65535 → meaning_in named.cats c ≡ m → ⊥) (λ c. (c < 65535) × (meaning_in named.cats c ≡ m))
  by_itself none None never = λ c lt means.
      let is = itself none c means in
      never (subst (λ n. n < 65535) is.0 lt) is.1
  by_itself none (Some c) here = (here.1, ap (meaning_in named.cats) here.0 ∙ ap (λ r. unwrap_or r m) here.2)

-- ---- a category that means something, in a set or not

module _ (cats : List ℕ) (named : NamedMeanings) (m : ℕ) where
  pub meant_by : (d : ℕ) (b : Bool) → IsReading named → IsCats cats → (d < 65535) × (meaning_in named.cats d ≡ m) → b ≡ has cats d → (IsTrue b ↔ IsMeant cats named.cats m)
  meant_by d b is sets means h = (
    λ on. record { category = d; there = sym h ∙ on; means = means.1 },
    λ meant.
        let same : meant.category ≡ d = differ named.cats is.distinct meant.category d (sets_have_categories cats meant.category sets meant.there) means.0 (meant.means ∙ sym means.1) in
        h ∙ ap (has cats) (sym same) ∙ meant.there,
  )

  pub meant_by_none : IsCats cats → ((c : ℕ) → c < 65535 → meaning_in named.cats c ≡ m → ⊥) → (IsTrue false ↔ IsMeant cats named.cats m)
  meant_by_none sets never = (
    λ on. absurd (false≢true on),
    λ meant. absurd (never meant.category (sets_have_categories cats meant.category sets meant.there) meant.means),
  )

-- ---- run by run

any_at : {X : Type 0} (p : X → Bool) (xs : List X) → list_any p xs ≡ true → (i : ℕ) × (x : X) × (slice_get xs i ≡ Some x) × (p x ≡ true)
any_at p [] any = absurd (false≢true any)
any_at {X} p (y ∷ xs) any = by_test (p y) refl (any_at p xs) any
  where
    by_test : (b : Bool) → p y ≡ b → (list_any p xs ≡ true → (i : ℕ) × (x : X) × (slice_get xs i ≡ Some x) × (p x ≡ true)) → (b || list_any p xs) ≡ true → (i : ℕ) × (x : X) × (slice_get (y ∷ xs) i ≡ Some x) × (p x ≡ true)
    by_test true is behind _ = (0, y, refl, is)
    by_test false is behind more = let rest = behind more in (suc rest.0, rest.1, rest.2, rest.3)

at_any : {X : Type 0} (p : X → Bool) (xs : List X) (i : ℕ) (x : X) → slice_get xs i ≡ Some x → p x ≡ true → list_any p xs ≡ true
at_any p [] i x at is = absurd (none-some x at)
at_any p (y ∷ xs) zero x at is = or_left (p y) (list_any p xs) (ap p (same_Some y x at) ∙ is)
at_any p (y ∷ xs) (suc i) x at is = or_right (p y) (list_any p xs) (at_any p xs i x at is)

has_by_runs : (cats : List ℕ) (c : ℕ) → has cats c ≡ list_any (λ (r : ℕ × ℕ). is_within r.0 r.1 c) (runs_of cats)
has_by_runs cats c = ap (λ ns. has ns c) (sym (runs_have_their_numbers cats)) ∙ runs_have_what_each_has (runs_of cats) c

-- what a set has is in one of its runs
pub in_run : (cats : List ℕ) (c : ℕ) → IsTrue (has cats c) → (i : ℕ) × (r : ℕ × ℕ) × (i < length (runs_of cats)) × (slice_get (runs_of cats) i ≡ Some r) × (r.0 ≤ c) × (c ≤ r.1)
in_run cats c there =
    let at = any_at (λ (r : ℕ × ℕ). is_within r.0 r.1 c) (runs_of cats) (sym (has_by_runs cats c) ∙ there) in
    let parts = and_parts (nat_le at.1.0 c) (nat_le c at.1.1) at.3 in
    (at.0, at.1, slice_get_within (runs_of cats) at.0 at.1 at.2, at.2, leb-true at.1.0 c parts.0, leb-true c at.1.1 parts.1)

-- and what is in one of its runs is in the set
pub of_run : (cats : List ℕ) (c i : ℕ) (r : ℕ × ℕ) → slice_get (runs_of cats) i ≡ Some r → r.0 ≤ c → c ≤ r.1 → IsTrue (has cats c)
of_run cats c i r at low high =
    has_by_runs cats c ∙ at_any (λ (r : ℕ × ℕ). is_within r.0 r.1 c) (runs_of cats) i r at (and_from (nat_le r.0 c) (nat_le c r.1) (le-leb r.0 c low) (le-leb c r.1 high))

-- ---- labels

module _ (named other_named : NamedMeanings) (label other : Label) where
  -- by the levels and the categories
  pub dominates_by : (b : Bool) → meaning_in other_named.levels other.level ≤ meaning_in named.levels label.level
      → (IsTrue b ↔ AreMeant label.cats named.cats (λ c. IsTrue (has other.cats c)) other_named.cats) → (IsTrue b ↔ MeansDominates (meaning_of named label) (meaning_of other_named other))
  dominates_by b level is = (
    λ on. record {
      level = level;
      cats = λ n there.
          let from = has_image (meaning_in other_named.cats) other.cats n there in
          let meant = is.0 on from.0 from.1 in
          subst (λ k. set.contains (image (meaning_in named.cats) label.cats) k ≡ true) (meant.means ∙ from.2) (image_has (meaning_in named.cats) label.cats meant.category meant.there);
    },
    λ dominates. is.1 (λ c there.
        let from = has_image (meaning_in named.cats) label.cats (meaning_in other_named.cats c) (dominates.cats (meaning_in other_named.cats c) (image_has (meaning_in other_named.cats) other.cats c there)) in
        record { category = from.0; there = from.1; means = from.2 }),
  )
