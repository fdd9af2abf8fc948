-- The static entries that count for an interface, with their places.
use Rattle.std.proofs.Common.{◌≡◌, ◌↔◌, ℕ, zero, suc, ◌+◌, ◌<◌, Bool, true, false, cond, ◌&&◌, List, [], ◌∷◌, length, filter, map, Contains, slice_get, slice_index_or, Option, Some, None, option_map, IsTrue, nat_eq, find, refl, sym, ap, ◌∙◌, arith, inl, inr}
use Rattle.std.specs.Prelude.{zip}
use Rattle.std.specs.List.{range_with_len}
use Rattle.std.proofs.lemmas.Bool.{and_parts}
use Rattle.std.proofs.lemmas.Option.{none-some, same_Some}
use Rattle.mls_label.specs.declared.label.Label.{Label}
use Rattle.domain_map.specs.declared.address_text.address.Address.{Address}
use Rattle.domain_map.specs.address_text.Prefix.{holds}
use Rattle.domain_map.specs.declared.static_map.StaticEntry.{StaticEntry}
use Rattle.domain_map.specs.Domains.{Domain, same_domain}
use Rattle.domain_map.specs.Longest.{most_bits, longest}
use Rattle.domain_map.specs.Statics.{Statics, entries_of, counting, entries_for, candidates, find_static_of}
use Rattle.domain_map.specs.inside.Ranking.{Has}
use Rattle.domain_map.proofs.Interfaces.{has_filtered, filtered_has, of_interface}

-- ---- what a list has, by its places

has_contains : {X : Type 0} (xs : List X) (x : X) → Has xs x → Contains xs x
has_contains [] x h = absurd h
has_contains (y ∷ ys) x (inl same) = (0, omega arith, same)
has_contains (y ∷ ys) x (inr h) = let (k, lt, e) = has_contains ys x h in (suc k, omega (arith, lt), e)

contains_has : {X : Type 0} (xs : List X) (x : X) → Contains xs x → Has xs x
contains_has xs x (k, lt, e) = there xs x k lt e
  where
    there : {X : Type 0} (xs : List X) (x : X) (k : ℕ) → k < length xs → slice_index_or xs k x ≡ x → Has xs x
    there [] x k lt e = absurd (omega arith)
    there (y ∷ ys) x zero lt e = inl e
    there (y ∷ ys) x (suc k) lt e = inr (there ys x k (omega (arith, lt)) e)

-- ---- numbered from a number on

abbrev numbered : {X : Type 0} → ℕ → List X → List (ℕ × X)
numbered n xs = zip (range_with_len n (length xs)) xs

numbered_has : {X : Type 0} (n k place : ℕ) (xs : List X) (x : X) → n + k ≡ place → slice_get xs k ≡ Some x → Has (numbered n xs) (place, x)
numbered_has n k place [] x e at = absurd (none-some x at)
numbered_has n zero place (y ∷ ys) x e at = let same : n ≡ place = omega (arith, e) in inl (λ i. (same i, same_Some y x at i))
numbered_has n (suc k) place (y ∷ ys) x e at = inr (numbered_has (n + 1) k place ys x (omega (arith, e)) at)

has_numbered : {X : Type 0} (n place : ℕ) (xs : List X) (x : X) → Has (numbered n xs) (place, x) → (k : ℕ) × (n + k ≡ place) × (slice_get xs k ≡ Some x)
has_numbered n place [] x h = absurd h
has_numbered n place (y ∷ ys) x (inl same) = (0, omega (arith, ap (λ e. e.0) same), ap (λ e. Some e.1) same)
has_numbered n place (y ∷ ys) x (inr h) =
    let (k, at, there) = has_numbered (n + 1) place ys x h in
    (suc k, omega (arith, at), there)

-- without their numbers those that pass are those of the list
unnumbered : {X : Type 0} (p : X → Bool) (n : ℕ) (xs : List X) → map (λ (e : ℕ × X). e.1) (filter (λ (e : ℕ × X). p e.1) (numbered n xs)) ≡ filter p xs
unnumbered p n [] = refl
unnumbered p n (x ∷ xs) =
    elim (p x) as (λ b. map (λ (e : ℕ × _). e.1) (cond b ((n, x) ∷ filter (λ (e : ℕ × _). p e.1) (numbered (n + 1) xs)) (filter (λ (e : ℕ × _). p e.1) (numbered (n + 1) xs))) ≡ cond b (x ∷ filter p xs) (filter p xs)) [
      | true ↦ ap (λ ys. x ∷ ys) (unnumbered p (n + 1) xs)
      | false ↦ unnumbered p (n + 1) xs
    ]

-- ---- the entries

pub candidates_are : (statics : Statics) (interface : List ℕ) → candidates statics interface ≡ of_interface statics (counting statics interface)
candidates_are statics interface = unnumbered (λ (e : StaticEntry). same_domain (counting statics interface) e.interface) 0 statics

module _ (statics : Statics) (interface : Domain) where
  abbrev is_of : ℕ × StaticEntry → Bool
  is_of e = same_domain interface e.1.interface

  pub entry_stands : (place : ℕ) (entry : StaticEntry) → Contains (entries_of statics interface) (place, entry) ↔ ((slice_get statics place ≡ Some entry) × IsTrue (same_domain interface entry.interface))
  entry_stands place entry = (
    λ there.
        let member = filtered_has is_of (numbered 0 statics) (place, entry) (contains_has (entries_of statics interface) (place, entry) there) in
        let (k, at, is) = has_numbered 0 place statics entry member.0 in
        let same : k ≡ place = omega (arith, at) in
        (ap (slice_get statics) (sym same) ∙ is, member.1),
    λ is. has_contains (entries_of statics interface) (place, entry) (has_filtered is_of (numbered 0 statics) (place, entry) (numbered_has 0 place place statics entry (omega arith) is.0) is.1),
  )

has_mapped : {X : Type 0} (xs : List (ℕ × X)) (x : X) → Has (map (λ (e : ℕ × X). e.1) xs) x → (n : ℕ) × Has xs (n, x)
has_mapped [] x h = absurd h
has_mapped (y ∷ ys) x (inl same) = (y.0, inl (λ i. (y.0, same i)))
has_mapped (y ∷ ys) x (inr h) = let rest = has_mapped ys x h in (rest.0, inr rest.1)

found_in : {X : Type 0} (p : X → Bool) (xs : List X) (x : X) → find p xs ≡ Some x → Has xs x × (p x ≡ true)
found_in p [] x e = absurd (none-some x e)
found_in {X} p (y ∷ ys) x e = by_test (p y) refl (found_in p ys x) e
  where
    by_test : (b : Bool) → p y ≡ b → (find p ys ≡ Some x → Has ys x × (p x ≡ true)) → cond b (Some y) (find p ys) ≡ Some x → Has (y ∷ ys) x × (p x ≡ true)
    by_test true is behind h = let same = same_Some y x h in (inl same, ap p (sym same) ∙ is)
    by_test false is behind h = let rest = behind h in (inr rest.0, rest.1)

-- what is found is what one of them has
pub found_entry : (statics : Statics) (interface : List ℕ) (address : Address) (labels : Label × Label) → find_static_of statics interface address ≡ Some labels
    → (place : ℕ) × (entry : StaticEntry) × Contains (entries_for statics interface) (place, entry) × IsTrue (holds entry.prefix address) × (labels ≡ (entry.low, entry.high))
unfolding find_static_of
found_entry statics interface address labels e = by_entry (longest (λ (x : StaticEntry). x.prefix) address (candidates statics interface)) refl e
  where
    by_entry : (o : Option StaticEntry) → longest (λ (x : StaticEntry). x.prefix) address (candidates statics interface) ≡ o → option_map (λ (x : StaticEntry). (x.low, x.high)) o ≡ Some labels
        → (place : ℕ) × (entry : StaticEntry) × Contains (entries_for statics interface) (place, entry) × IsTrue (holds entry.prefix address) × (labels ≡ (entry.low, entry.high))
    by_entry None found h = absurd (none-some labels h)
    by_entry (Some entry) found h =
        let member = found_in (λ (x : StaticEntry). holds x.prefix address && nat_eq x.prefix.bits (most_bits (λ (y : StaticEntry). y.prefix) address (candidates statics interface))) (candidates statics interface) entry found in
        let at = has_mapped (entries_for statics interface) entry member.0 in
        (at.0, entry, has_contains (entries_for statics interface) (at.0, entry) at.1, (and_parts (holds entry.prefix address) _ member.1).0, sym (same_Some (entry.low, entry.high) labels h))
