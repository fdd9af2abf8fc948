-- Pairs one by one: what is found with one more, and whether numbers stay distinct.
use Rattle.std.proofs.Common.{◌≡◌, ℕ, Bool, true, false, ◌&&◌, ◌||◌, not, cond, nat_eq, List, [], ◌∷◌, ◌++◌, Option, Some, None, is_some, refl, sym, ap, subst, if◌then◌else◌, ◌∙◌, inl, inr}
use Rattle.std.specs.Cmp.{nat_eq_equiv}
use Rattle.std.proofs.lemmas.Bool.{cases_eq, eq-eqb, ne_eqb, and_right, not-true, not-false, false≢true}
use Rattle.std.proofs.lemmas.List.{map_push}
use Rattle.std.proofs.lemmas.List.Folds.{list_any-append}
use Rattle.mls_label.specs.Cats.{has}
use Rattle.doi_table.specs.Pairs.{number_by, firsts, seconds, are_distinct}
use Rattle.label_commands.specs.node_readings.Reading.{names_once}
use Rattle.label_commands.specs.node_readings.inside.Namings.{AreNamings}

pub number_here : (p : ℕ × ℕ) (pairs : List (ℕ × ℕ)) (n : ℕ) → n ≡ p.0 → number_by (p ∷ pairs) n ≡ Some p.1
number_here p pairs n e = ap (λ b. cond b (Some p.1) (number_by pairs n)) (eq-eqb n p.0 e)

pub number_behind : (p : ℕ × ℕ) (pairs : List (ℕ × ℕ)) (n : ℕ) → (n ≡ p.0 → ⊥) → number_by (p ∷ pairs) n ≡ number_by pairs n
number_behind p pairs n ne = ap (λ b. cond b (Some p.1) (number_by pairs n)) (ne_eqb n p.0 ne)

-- ---- one more pair at the end

abbrev first_of : Option ℕ → Option ℕ → Option ℕ
first_of None other = other
first_of (Some m) other = Some m

first_of-none : (r : Option ℕ) → first_of r None ≡ r
first_of-none None = refl
first_of-none (Some m) = refl

number_append : (xs ys : List (ℕ × ℕ)) (n : ℕ) → number_by (xs ++ ys) n ≡ first_of (number_by xs n) (number_by ys n)
number_append [] ys n = refl
number_append (p ∷ xs) ys n =
    elim (nat_eq n p.0) as (λ b. cond b (Some p.1) (number_by (xs ++ ys) n) ≡ first_of (cond b (Some p.1) (number_by xs n)) (number_by ys n)) [
      | true ↦ refl
      | false ↦ number_append xs ys n
    ]

same_push : (xs ys : List (ℕ × ℕ)) (p : ℕ × ℕ) → ((n : ℕ) → number_by xs n ≡ number_by ys n) → (n : ℕ) → number_by (xs ++ p ∷ []) n ≡ number_by (ys ++ p ∷ []) n
same_push xs ys p same n =
    number_append xs (p ∷ []) n ∙ ap (λ r. first_of r (number_by (p ∷ []) n)) (same n) ∙ sym (number_append ys (p ∷ []) n)

-- a number that is found already stays as it is found
skip_push : (xs : List (ℕ × ℕ)) (p : ℕ × ℕ) (m : ℕ) → number_by xs p.0 ≡ Some m → (n : ℕ) → number_by (xs ++ p ∷ []) n ≡ number_by xs n
skip_push xs p m found n =
    elim (cases_eq n p.0) [
      | inl e ↦
          let here : number_by xs n ≡ Some m = ap (number_by xs) e ∙ found in
          number_append xs (p ∷ []) n ∙ ap (λ r. first_of r (number_by (p ∷ []) n)) here ∙ sym here
      | inr ne ↦ number_append xs (p ∷ []) n ∙ ap (first_of (number_by xs n)) (number_behind p [] n ne) ∙ first_of-none (number_by xs n)
    ]

-- ---- numbers that stay distinct

pub has_push : (ns : List ℕ) (n x : ℕ) → has (ns ++ n ∷ []) x ≡ (has ns x || (nat_eq x n || false))
has_push ns n x = list_any-append (nat_eq x) ns (n ∷ [])

one_more : (h e d k : Bool) → (not (h || (e || false)) && (d && not k)) ≡ ((not h && d) && not (e || k))
one_more true e d k = refl
one_more false true d k = sym (and_right d false refl)
one_more false false d k = refl

pub distinct_push : (ns : List ℕ) (n : ℕ) → are_distinct (ns ++ n ∷ []) ≡ (are_distinct ns && not (has ns n))
distinct_push [] n = refl
distinct_push (x ∷ ns) n =
    (λ i. not (has_push ns n x i) && distinct_push ns n i)
    ∙ one_more (has ns x) (nat_eq x n) (are_distinct ns) (has ns n)
    ∙ ap (λ b. (not (has ns x) && are_distinct ns) && not (b || has ns n)) (nat_eq_equiv.symm x n)

pub has-firsts : (pairs : List (ℕ × ℕ)) (n : ℕ) → has (firsts pairs) n ≡ is_some (number_by pairs n)
has-firsts [] n = refl
has-firsts (p ∷ pairs) n =
    elim (nat_eq n p.0) as (λ b. (b || has (firsts pairs) n) ≡ is_some (cond b (Some p.1) (number_by pairs n))) [
      | true ↦ refl
      | false ↦ has-firsts pairs n
    ]

names_push : (xs : List (ℕ × ℕ)) (p : ℕ × ℕ) → names_once (xs ++ p ∷ []) ≡ (names_once xs && not (is_some (number_by xs p.0)))
names_push xs p =
    ap are_distinct (map_push (λ (q : ℕ × ℕ). q.0) xs p)
    ∙ distinct_push (firsts xs) p.0
    ∙ ap (λ b. names_once xs && not b) (has-firsts xs p.0)

and_true : (b : Bool) → (b && true) ≡ b
and_true true = refl
and_true false = refl

-- ---- the namings that count

pub no_namings : AreNamings [] [] true
no_namings = record { same = λ n. refl; once_is = refl; whole = λ e. refl }

new_naming : (xs first : List (ℕ × ℕ)) (once : Bool) (p : ℕ × ℕ) → is_some (number_by first p.0) ≡ false → AreNamings xs first once → AreNamings (xs ++ p ∷ []) (first ++ p ∷ []) once
new_naming xs first once p new are = record {
  same = same_push xs first p are.same;
  once_is = are.once_is
      ∙ sym (and_true (names_once xs))
      ∙ ap (λ b. names_once xs && not b) (sym (ap is_some (are.same p.0) ∙ new))
      ∙ sym (names_push xs p);
  whole = λ e. ap (λ ys. ys ++ p ∷ []) (are.whole e);
}

further_naming : (xs first : List (ℕ × ℕ)) (once : Bool) (p : ℕ × ℕ) → is_some (number_by first p.0) ≡ true → AreNamings xs first once → AreNamings (xs ++ p ∷ []) first false
further_naming xs first once p found are =
    by (number_by first p.0) refl found
  where
    by : (r : Option ℕ) → number_by first p.0 ≡ r → is_some r ≡ true → AreNamings (xs ++ p ∷ []) first false
    by None e h = absurd (false≢true h)
    by (Some m) e h = record {
      same = λ n. skip_push xs p m (are.same p.0 ∙ e) n ∙ are.same n;
      once_is = sym (names_push xs p ∙ ap (λ r. names_once xs && not (is_some r)) (are.same p.0 ∙ e) ∙ and_right (names_once xs) false refl);
      whole = λ wrong. absurd (false≢true wrong);
    }

pub next_naming : (xs first more : List (ℕ × ℕ)) (once new : Bool) (p : ℕ × ℕ) → new ≡ not (is_some (number_by first p.0)) → more ≡ (if new then first ++ p ∷ [] else first) → AreNamings xs first once → AreNamings (xs ++ p ∷ []) more (once && new)
next_naming xs first more once true p is e are =
    subst (λ ys. AreNamings (xs ++ p ∷ []) ys (once && true)) (sym e) (subst (λ b. AreNamings (xs ++ p ∷ []) (first ++ p ∷ []) b) (sym (and_true once)) (new_naming xs first once p (not-true (is_some (number_by first p.0)) (sym is)) are))
next_naming xs first more once false p is e are =
    subst (λ ys. AreNamings (xs ++ p ∷ []) ys (once && false)) (sym e) (subst (λ b. AreNamings (xs ++ p ∷ []) first b) (sym (and_right once false refl)) (further_naming xs first once p (not-false (is_some (number_by first p.0)) (sym is)) are))

pub none_from : (r : Option ℕ) → is_some r ≡ false → r ≡ None
none_from None e = refl
none_from (Some m) e = absurd (false≢true (sym e))

-- ---- meanings that were seen

or_last : (e o : Bool) → cond e true o ≡ (o || (e || false))
or_last true true = refl
or_last true false = refl
or_last false true = refl
or_last false false = refl

-- one more meaning is seen, and they differ where it is new
pub next_seen : (xs : List (ℕ × ℕ)) (old new : ℕ → Bool) (differ added : Bool) (p : ℕ × ℕ) → added ≡ not (old p.1) → ((q : ℕ) → new q ≡ cond (nat_eq p.1 q) true (old q)) → ((n : ℕ) → old n ≡ has (seconds xs) n) → differ ≡ are_distinct (seconds xs)
    → ((n : ℕ) → new n ≡ has (seconds (xs ++ p ∷ [])) n) × ((differ && added) ≡ are_distinct (seconds (xs ++ p ∷ [])))
next_seen xs old new differ added p is updates seen d = (
  λ n. updates n
      ∙ (λ i. cond (nat_eq_equiv.symm p.1 n i) true (seen n i))
      ∙ or_last (nat_eq n p.1) (has (seconds xs) n)
      ∙ sym (has_push (seconds xs) p.1 n)
      ∙ ap (λ ns. has ns n) (sym (map_push (λ (q : ℕ × ℕ). q.1) xs p)),
  (λ i. d i && (is ∙ ap not (seen p.1)) i)
      ∙ sym (distinct_push (seconds xs) p.1)
      ∙ ap are_distinct (sym (map_push (λ (q : ℕ × ℕ). q.1) xs p)),
)
