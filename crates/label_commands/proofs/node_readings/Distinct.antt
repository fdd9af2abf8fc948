-- Categories that are distinct, and those that aren't.
use Rattle.std.proofs.Common.{◌≡◌, ℕ, ◌<◌, Bool, true, false, ◌||◌, ◌⊎◌, not, nat_eq, nat_le, List, [], ◌∷◌, Option, Some, None, is_some, unwrap_or, refl, sym, ap, subst, ◌∙◌, arith, inl, inr}
use Rattle.std.specs.List.{All, list_all}
use Rattle.std.proofs.lemmas.Bool.{cases_eq, cases_lt, eq-eqb, ne_eqb, or_left, or_right, and_parts, and_from, not-true, not_from_false, false≢true, both_ways, le-leb, lt-leb, false_from_ne_true}
use Rattle.std.proofs.lemmas.List.Elements.{All-head, All-tail}
use Rattle.mls_label.specs.Cats.{has}
use Rattle.doi_table.specs.Pairs.{number_by, firsts, seconds, flipped, are_distinct, is_one_to_one}
use Rattle.doi_table.proofs.Law.{pairs_lead_back}
use Rattle.label_commands.specs.node_readings.Reading.{meaning_in, names_once, is_distinct}
use Rattle.label_commands.proofs.node_readings.Pairs.{number_here, number_behind, has-firsts}

-- the meaning that is written in the pair, or that isn't a category's of its own
abbrev pub is_closed : List (ℕ × ℕ) → ℕ × ℕ → Bool
is_closed cats p = nat_le 65535 p.1 || is_some (number_by cats p.1)

-- ---- membership

abbrev pub In : List (ℕ × ℕ) → ℕ × ℕ → Type 0
In [] p = ⊥
In (q ∷ pairs) p = (q ≡ p) ⊎ In pairs p

pub number_in_pairs : (pairs : List (ℕ × ℕ)) (n m : ℕ) → number_by pairs n ≡ Some m → In pairs (n, m)
number_in_pairs [] n m e = absurd (cc)
number_in_pairs (p ∷ pairs) n m e =
    elim (cases_eq n p.0) [
      | inl here ↦
          let is : Some p.1 ≡ Some m = sym (number_here p pairs n here) ∙ e in
          let same : p.1 ≡ m = cc in
          inl (λ i. (sym here i, same i))
      | inr ne ↦ inr (number_in_pairs pairs n m (sym (number_behind p pairs n ne) ∙ e))
    ]

all_in : (P : ℕ × ℕ → Bool) (pairs : List (ℕ × ℕ)) (p : ℕ × ℕ) → list_all P pairs ≡ true → In pairs p → P p ≡ true
all_in P [] p all h = absurd h
all_in P (q ∷ pairs) p all h =
    let parts = and_parts (P q) (list_all P pairs) all in
    elim h [ inl same ↦ subst (λ (r : ℕ × ℕ). P r ≡ true) same parts.0 | inr more ↦ all_in P pairs p parts.1 more ]

in_all : (P : ℕ × ℕ → Bool) (pairs : List (ℕ × ℕ)) → ((p : ℕ × ℕ) → In pairs p → P p ≡ true) → list_all P pairs ≡ true
in_all P [] each = refl
in_all P (q ∷ pairs) each = and_from (P q) (list_all P pairs) (each q (inl refl)) (in_all P pairs (λ p h. each p (inr h)))

-- ---- distinct categories mean different things

module _ (cats : List (ℕ × ℕ)) (distinct : is_distinct cats ≡ true) where
  pub parts : (is_one_to_one cats ≡ true) × (list_all (is_closed cats) cats ≡ true)
  parts = and_parts (is_one_to_one cats) (list_all (is_closed cats) cats) distinct

  pub once_of : names_once cats ≡ true
  once_of = (and_parts (names_once cats) (are_distinct (seconds cats)) parts.0).0

  -- a named category and one that isn't don't mean the same
  named_apart : (a b m : ℕ) → b < 65535 → number_by cats a ≡ Some m → number_by cats b ≡ None → m ≡ b → ⊥
  named_apart a b m lt named none same =
      let closed : is_closed cats (a, m) ≡ true = all_in (is_closed cats) cats (a, m) parts.1 (number_in_pairs cats a m named) in
      let small : nat_le 65535 m ≡ false = lt-leb 65535 m (omega arith) in
      let absent : is_some (number_by cats m) ≡ false = ap (λ k. is_some (number_by cats k)) same ∙ ap is_some none in
      false≢true (sym (λ i. small i || absent i) ∙ closed)

  same_number : (a b : ℕ) (r s : Option ℕ) → a < 65535 → b < 65535 → number_by cats a ≡ r → number_by cats b ≡ s → unwrap_or r a ≡ unwrap_or s b → a ≡ b
  same_number a b (Some m) (Some n) la lb ra rb e =
      let back : Some a ≡ Some b = sym (pairs_lead_back cats a m parts.0 ra) ∙ ap (number_by (flipped cats)) e ∙ pairs_lead_back cats b n parts.0 rb in
      cc
  same_number a b (Some m) None la lb ra rb e = absurd (named_apart a b m lb ra rb e)
  same_number a b None (Some n) la lb ra rb e = absurd (named_apart b a n la rb ra (sym e))
  same_number a b None None la lb ra rb e = e

  pub differ : (a b : ℕ) → a < 65535 → b < 65535 → meaning_in cats a ≡ meaning_in cats b → a ≡ b
  differ a b la lb e = same_number a b (number_by cats a) (number_by cats b) la lb refl refl e

-- ---- and the other way round

-- a pair of categories that are named once is what is found
pub found_once : (pairs : List (ℕ × ℕ)) (p : ℕ × ℕ) → names_once pairs ≡ true → In pairs p → number_by pairs p.0 ≡ Some p.1
found_once [] p once h = absurd h
found_once (q ∷ pairs) p once h =
    let parts = and_parts (not (has (firsts pairs) q.0)) (names_once pairs) once in
    elim h [
      | inl same ↦ number_here q pairs p.0 (λ i. (sym same i).0) ∙ (λ i. Some (same i).1)
      | inr more ↦
          let rest = found_once pairs p parts.1 more in
          let there : has (firsts pairs) p.0 ≡ true = has-firsts pairs p.0 ∙ ap is_some rest in
          let ne : p.0 ≡ q.0 → ⊥ = λ e. both_ways (has (firsts pairs) q.0) (not-true (has (firsts pairs) q.0) parts.0) (subst (λ n. has (firsts pairs) n ≡ true) e there) in
          number_behind q pairs p.0 ne ∙ rest
    ]

second_in : (pairs : List (ℕ × ℕ)) (m : ℕ) → has (seconds pairs) m ≡ true → (n : ℕ) × In pairs (n, m)
second_in [] m h = absurd (false≢true h)
second_in (p ∷ pairs) m h =
    elim (cases_eq m p.1) [
      | inl e ↦ (p.0, inl (λ i. (p.0, sym e i)))
      | inr ne ↦
          let rest = second_in pairs m (sym (ap (λ b. b || has (seconds pairs) m) (ne_eqb m p.1 ne)) ∙ h) in
          (rest.0, inr rest.1)
    ]

first_in : (pairs : List (ℕ × ℕ)) (p : ℕ × ℕ) → In pairs p → has (firsts pairs) p.0 ≡ true
first_in [] p h = absurd h
first_in (q ∷ pairs) p h =
    elim h [
      | inl same ↦ or_left (nat_eq p.0 q.0) (has (firsts pairs) p.0) (eq-eqb p.0 q.0 (λ i. (sym same i).0))
      | inr more ↦ or_right (nat_eq p.0 q.0) (has (firsts pairs) p.0) (first_in pairs p more)
    ]

pub below_in : (pairs : List (ℕ × ℕ)) (p : ℕ × ℕ) → All (λ (q : ℕ × ℕ). q.0 < 65535) pairs → In pairs p → p.0 < 65535
below_in [] p all h = absurd h
below_in (q ∷ pairs) p all h =
    elim h [
      | inl same ↦ subst (λ (r : ℕ × ℕ). r.0 < 65535) same (All-head (λ (r : ℕ × ℕ). r.0 < 65535) q pairs all)
      | inr more ↦ below_in pairs p (All-tail (λ (r : ℕ × ℕ). r.0 < 65535) q pairs all) more
    ]

module _ (cats : List (ℕ × ℕ)) (below : All (λ (p : ℕ × ℕ). p.0 < 65535) cats) (once : names_once cats ≡ true)
    (apart : (a b : ℕ) → a < 65535 → b < 65535 → meaning_in cats a ≡ meaning_in cats b → a ≡ b) where
  means : (p : ℕ × ℕ) → In cats p → meaning_in cats p.0 ≡ p.1
  means p h = ap (λ r. unwrap_or r p.0) (found_once cats p once h)

  -- two pairs that mean the same have the same category
  one_pair : (p q : ℕ × ℕ) → In cats p → In cats q → p.1 ≡ q.1 → p.0 ≡ q.0
  one_pair p q hp hq e = apart p.0 q.0 (below_in cats p below hp) (below_in cats q below hq) (means p hp ∙ e ∙ sym (means q hq))

  seconds_distinct : (pairs : List (ℕ × ℕ)) → ((p : ℕ × ℕ) → In pairs p → In cats p) → names_once pairs ≡ true → are_distinct (seconds pairs) ≡ true
  seconds_distinct [] within h = refl
  seconds_distinct (p ∷ pairs) within h =
      let parts = and_parts (not (has (firsts pairs) p.0)) (names_once pairs) h in
      let new : has (seconds pairs) p.1 ≡ false = false_from_ne_true (has (seconds pairs) p.1) (λ twice.
      let other = second_in pairs p.1 twice in
      let same : p.0 ≡ other.0 = one_pair p (other.0, p.1) (within p (inl refl)) (within (other.0, p.1) (inr other.1)) refl in
      both_ways (has (firsts pairs) p.0) (not-true (has (firsts pairs) p.0) parts.0) (ap (has (firsts pairs)) same ∙ first_in pairs (other.0, p.1) other.1)) in
      and_from (not (has (seconds pairs) p.1)) (are_distinct (seconds pairs)) (not_from_false (has (seconds pairs) p.1) new) (seconds_distinct pairs (λ q k. within q (inr k)) parts.1)

  closed_at : (p : ℕ × ℕ) → In cats p → is_closed cats p ≡ true
  closed_at p h =
      elim (cases_lt p.1 65535) [
        | inl lt ↦ or_right (nat_le 65535 p.1) (is_some (number_by cats p.1)) (by (number_by cats p.1) refl lt)
        | inr ge ↦ or_left (nat_le 65535 p.1) (is_some (number_by cats p.1)) (le-leb 65535 p.1 ge)
      ]
    where
      by : (r : Option ℕ) → number_by cats p.1 ≡ r → p.1 < 65535 → is_some (number_by cats p.1) ≡ true
      by (Some m) e lt = ap is_some e
      by None e lt =
          let itself : meaning_in cats p.1 ≡ p.1 = ap (λ r. unwrap_or r p.1) e in
          let same : p.0 ≡ p.1 = apart p.0 p.1 (below_in cats p below h) lt (means p h ∙ sym itself) in
          ap (λ n. is_some (number_by cats n)) (sym same) ∙ ap is_some (found_once cats p once h)

  pub distinct_from : is_distinct cats ≡ true
  distinct_from =
      and_from (is_one_to_one cats) (list_all (is_closed cats) cats)
      (and_from (names_once cats) (are_distinct (seconds cats)) once (seconds_distinct cats (λ p h. h) once))
      (in_all (is_closed cats) cats closed_at)
