-- Entries of a table by their keys.
use Rattle.std.proofs.Common.{◌≡◌, ℕ, zero, suc, ◌+◌, ◌<◌, Bool, true, false, cond, not, List, [], ◌∷◌, ◌++◌, length, Some, Ok, is_some, take, slice_get, refl, sym, ap, subst, ◌∙◌, arith, one-add}
use Rattle.std.specs.Prelude.{if◌then◌else◌, nat_le, nat_lt, remove}
use Rattle.std.specs.List.{AllByRecursion, AllZip, IsDistinct, position, position_or_len}
use Rattle.std.specs.Map.{keys_of, lookup, remove_entry}
use Rattle.std.proofs.lemmas.Bool.{cond-true, cond-false, lt-leb, ltb-true, false≢true}
use Rattle.std.proofs.lemmas.Option.{cond_some}
use Rattle.std.proofs.lemmas.List.Elements.{same_from_all_zip}
use Rattle.indexmap.specs.IndexMap.{insert_entry}
use Rattle.node_tables.specs.declared.reply.Refusal.{Refusal}
use Rattle.node_tables.specs.Change.{with_entry, without_entry}
use Rattle.node_tables.proofs.Listings.{take_next}

-- a key that isn't there goes last
pub inserted_last : {K V : Type 0} (same : K → K → Bool) (entries : List (K × V)) (key : K) (value : V) → is_some (lookup (same key) entries) ≡ false → insert_entry same entries key value ≡ entries ++ (key, value) ∷ []
inserted_last same [] key value absent = refl
inserted_last {K} {V} same (e ∷ entries) key value absent =
    (elim (same key e.0) as (λ b. is_some (cond b (Some e.1) (lookup (same key) entries)) ≡ false → (if b then (e.0, value) ∷ entries else e ∷ insert_entry same entries key value) ≡ e ∷ (entries ++ (key, value) ∷ [])) [
      | true ↦ λ h. absurd (false≢true (sym h))
      | false ↦ λ h. ap (λ es. e ∷ es) (inserted_last same entries key value h)
    ]) absent

pub added_last : {K V : Type 0} (same : K → K → Bool) (most : ℕ) (exists : Refusal) (entries new : List (K × V)) (key : K) (value : V) → is_some (lookup (same key) entries) ≡ false → length entries < most → new ≡ insert_entry same entries key value → with_entry same most exists entries key value ≡ Ok new
added_last {K} {V} same most exists entries new key value absent few inserted =
    cond-false (is_some (lookup (same key) entries)) _ _ absent
    ∙ cond-false (nat_le most (length entries)) _ _ (lt-leb most (length entries) few)
    ∙ ap Ok (sym (inserted ∙ inserted_last same entries key value absent))

-- an entry that is found at a place is taken out there
placed : {K V : Type 0} (test : K → Bool) (entries : List (K × V)) → position_or_len test (keys_of entries) < length (keys_of entries)
    → (is_some (lookup test entries) ≡ true) × (remove_entry test entries ≡ remove entries (position_or_len test (keys_of entries)))
placed test [] lt = absurd (omega arith)
placed {K} {V} test (e ∷ entries) lt =
    let behind = position_or_len test (keys_of entries) in
    (elim (test e.0) as (λ b. cond (not b) (1 + behind) 0 < suc (length (keys_of entries)) → (is_some (cond b (Some e.1) (lookup test entries)) ≡ true) × (cond b entries (e ∷ remove_entry test entries) ≡ remove (e ∷ entries) (cond (not b) (1 + behind) 0))) [
      | true ↦ λ h. (refl, refl)
      | false ↦ λ h.
          let rest = placed test entries (omega (arith, h)) in
          (rest.0, ap (λ es. e ∷ es) rest.1 ∙ ap (remove (e ∷ entries)) (sym (one-add behind)))
    ]) lt

pub taken_at : {K V : Type 0} (same : K → K → Bool) (unknown : Refusal) (entries new : List (K × V)) (key : K) (i : ℕ) → Some i ≡ position (same key) (keys_of entries) → new ≡ remove entries i → without_entry same unknown entries key ≡ Ok new
taken_at same unknown entries new key i at is =
    let found = cond_some (nat_lt (position_or_len (same key) (keys_of entries)) (length (keys_of entries))) (position_or_len (same key) (keys_of entries)) i (sym at) in
    let there = placed (same key) entries (ltb-true (position_or_len (same key) (keys_of entries)) (length (keys_of entries)) found.0) in
    cond-true (is_some (lookup (same key) entries)) _ _ there.0
    ∙ ap Ok (there.1 ∙ ap (remove entries) found.1 ∙ sym is)

-- ---- entries copied one after another

module _ {K V : Type 0} (same : K → K → Bool) (flips : (a b : K) → same a b ≡ same b a) where
  apart_at : (key : K) (entries : List (K × V)) (i : ℕ) (e : K × V) → AllByRecursion (λ k. same key k ≡ false) (keys_of entries) → slice_get entries i ≡ Some e → same key e.0 ≡ false
  apart_at key [] i e apart at = absurd (cc)
  apart_at key (x ∷ entries) zero e apart at = let is : x ≡ e = cc in subst (λ (y : K × V). same key y.0 ≡ false) is apart.0
  apart_at key (x ∷ entries) (suc i) e apart at = apart_at key entries i e apart.1 at

  -- an entry's key doesn't stand before it
  absent_before : (entries : List (K × V)) (i : ℕ) (e : K × V) → IsDistinct same (keys_of entries) → slice_get entries i ≡ Some e → is_some (lookup (same e.0) (take i entries)) ≡ false
  unfolding IsDistinct
  absent_before [] i e once at = absurd (cc)
  absent_before (x ∷ entries) zero e once at = refl
  absent_before (x ∷ entries) (suc i) e once at =
      let other : same e.0 x.0 ≡ false = flips e.0 x.0 ∙ apart_at x.0 entries i e once.0 at in
      ap (λ b. is_some (cond b (Some x.1) (lookup (same e.0) (take i entries)))) other ∙ absent_before entries i e once.1 at

  pub copied_next : (entries : List (K × V)) (i : ℕ) (e : K × V) → IsDistinct same (keys_of entries) → slice_get entries i ≡ Some e → insert_entry same (take i entries) e.0 e.1 ≡ take (i + 1) entries
  copied_next entries i e once at =
      inserted_last same (take i entries) e.0 e.1 (absent_before entries i e once at) ∙ sym (take_next entries i e at)

pub same_from_clones : {X : Type 0} {R : X → X → Type 0} (xs ys : List X) → AllZip R xs ys → ((x y : X) → R x y → y ≡ x) → ys ≡ xs
same_from_clones {X} {R} xs ys clones same = same_from_all_zip R xs ys clones same
