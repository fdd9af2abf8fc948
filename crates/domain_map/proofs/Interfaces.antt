-- The entries of interfaces.
use Rattle.std.proofs.Common.{◌≡◌, ℕ, zero, suc, ◌+◌, ◌<◌, ◌≤◌, Bool, true, false, cond, ◌&&◌, List, [], ◌∷◌, ◌++◌, length, filter, remove, slice_get, Some, None, Option, is_some, option_map, Ok, Err, refl, sym, ap, ◌∙◌, subst, inl, inr, find}
use Rattle.std.specs.Prelude.{nat_lt, MatchOption}
use Rattle.std.proofs.lemmas.Bool.{both_ways, and_from, and_parts, cond-true, cond-false, lt-ltb, le-ltb, false_from_ne_true}
use Rattle.std.proofs.lemmas.Option.{none-some, same_Some, slice_get_within}
use Rattle.std.proofs.lemmas.Slice.Eq.{bytes_eq-Decides}
use Rattle.mls_label.specs.declared.label.Label.{Label}
use Rattle.mls_label.specs.Label.{Dominates}
use Rattle.domain_map.specs.declared.address_text.address.Address.{Address}
use Rattle.domain_map.specs.address_text.Prefix.{AddressBlock, same_block, holds}
use Rattle.domain_map.specs.declared.order.Ranked.{Ranked}
use Rattle.domain_map.specs.declared.static_map.StaticEntry.{StaticEntry}
use Rattle.domain_map.specs.declared.fault.StaticFault.TheVariants as Fault
use Rattle.domain_map.specs.Domains.{Domain, same_domain}
use Rattle.domain_map.specs.Longest.{longest}
use Rattle.domain_map.specs.Statics.{Statics, static_place, static_added}
use Rattle.domain_map.specs.inside.Order.{ranked_in, without}
use Rattle.domain_map.specs.inside.Ranking.{Has, IsRanked, passes_at}
use Rattle.domain_map.specs.inside.Ordered.{static_key, static_bits, AreOrdered, AreStatics}
use Rattle.domain_map.proofs.Longests.{has_at, none_passes, same_block-refl, longest_is, no_longest, best, none_best, mapped_back, none_back, more_ranked, less_ranked}

same_domain-refl : (a : Domain) → same_domain a a ≡ true
same_domain-refl None = refl
same_domain-refl (Some a) = (bytes_eq-Decides a a).1 refl

same_domain_is : (a b : Domain) → same_domain a b ≡ true → a ≡ b
same_domain_is None None e = refl
same_domain_is (Some a) (Some b) e = ap Some ((bytes_eq-Decides a b).0 e)
same_domain_is None (Some b) e = cc
same_domain_is (Some a) None e = cc

pub has_filtered : {X : Type 0} (p : X → Bool) (xs : List X) (x : X) → Has xs x → p x ≡ true → Has (filter p xs) x
has_filtered p [] x h e = absurd h
has_filtered p (y ∷ ys) x h e =
    elim (p y) as (λ b. p y ≡ b → Has (cond b (y ∷ filter p ys) (filter p ys)) x) [
      | true ↦ λ is. elim h [ inl same ↦ inl same | inr k ↦ inr (has_filtered p ys x k e) ]
      | false ↦ λ is. elim h [ inl same ↦ absurd (both_ways (p y) is (subst (λ z. p z ≡ true) (sym same) e)) | inr k ↦ has_filtered p ys x k e ]
    ] refl

pub filtered_has : {X : Type 0} (p : X → Bool) (xs : List X) (x : X) → Has (filter p xs) x → Has xs x × (p x ≡ true)
filtered_has p [] x h = absurd h
filtered_has p (y ∷ ys) x h =
    elim (p y) as (λ b. p y ≡ b → Has (cond b (y ∷ filter p ys) (filter p ys)) x → Has (y ∷ ys) x × (p x ≡ true)) [
      | true ↦ λ is k. elim k [
        | inl same ↦ (inl same, subst (λ z. p z ≡ true) same is)
        | inr j ↦ let rest = filtered_has p ys x j in (inr rest.0, rest.1)
      ]
      | false ↦ λ is k. let rest = filtered_has p ys x k in (inr rest.0, rest.1)
    ] refl h

-- the entries of an interface, without their places
abbrev pub of_interface : Statics → Domain → Statics
of_interface statics interface = filter (λ (e : StaticEntry). same_domain interface e.interface) statics

-- the first of an interface's entries in the order that holds the address is the longest of them
module _ (i : Domain) (a : Address) (xs : Statics) (order : List Ranked) (is : IsRanked static_key static_bits xs order) where
  abbrev fits : StaticEntry → Bool
  fits e = same_domain i e.interface && holds e.prefix a

  pub interface_none : None ≡ option_map (λ (r : Ranked). r.place) (find (λ (s : Ranked). passes_at (λ e. same_domain i e.interface && holds e.prefix a) xs s.place) order)
      → longest (λ e. e.prefix) a (of_interface xs i) ≡ None
  interface_none e = no_longest (λ e. e.prefix) a (of_interface xs i) λ y h.
      let member = filtered_has (λ e. same_domain i e.interface) xs y h in
      false_from_ne_true (holds y.prefix a) λ holding. both_ways (fits y) (none_best static_bits fits xs order is.order (none_back _ _ (sym e)) y member.0) (and_from _ _ member.1 holding)

  pub interface_some : (at : ℕ) → Some at ≡ option_map (λ (r : Ranked). r.place) (find (λ (s : Ranked). passes_at (λ e. same_domain i e.interface && holds e.prefix a) xs s.place) order)
      → (longest (λ e. e.prefix) a (of_interface xs i) ≡ slice_get xs at) × (at < length xs)
  interface_some at e =
      let (r, found, place) = mapped_back (λ (r : Ranked). r.place) _ at (sym e) in
      let b = best static_bits fits xs order is.order r found in
      let there : slice_get xs at ≡ Some b.entry = ap (slice_get xs) (sym place) ∙ b.is in
      let parts = and_parts (same_domain i b.entry.interface) (holds b.entry.prefix a) b.passes in
      let member = has_at xs at b.entry there in (
        longest_is (λ e. e.prefix) a (of_interface xs i) b.entry (has_filtered (λ e. same_domain i e.interface) xs b.entry member parts.0) parts.1
            (λ y h holding. let m = filtered_has (λ e. same_domain i e.interface) xs y h in b.most y m.0 (and_from _ _ m.1 holding))
            (λ y h same. let m = filtered_has (λ e. same_domain i e.interface) xs y h in
            let one : y.interface ≡ b.entry.interface = sym (same_domain_is i y.interface m.1) ∙ same_domain_is i b.entry.interface parts.0 in
            is.apart y b.entry m.0 member (λ j. (one j, same j))) ∙ sym there,
        slice_get_within xs at b.entry there,
      )

-- adding and deleting

pub absent_key : (xs : Statics) (e : StaticEntry) → static_place xs e.interface e.prefix ≡ None → (x : StaticEntry) → Has xs x → static_key x ≡ static_key e → ⊥
absent_key xs e none x h same =
    let p = λ (y : StaticEntry). same_domain e.interface y.interface && same_block e.prefix y.prefix in
    let interface : same_domain e.interface x.interface ≡ true = subst (λ d. same_domain e.interface d ≡ true) (sym (ap (λ k. k.0) same)) (same_domain-refl e.interface) in
    let prefix : same_block e.prefix x.prefix ≡ true = subst (λ n. same_block e.prefix n ≡ true) (sym (ap (λ k. k.1) same)) (same_block-refl e.prefix) in
    both_ways (p x) (none_passes p xs x none h) (and_from _ _ interface prefix)

ordered-append : (xs : Statics) (e : StaticEntry) → Dominates e.high e.low → AreOrdered xs → AreOrdered (xs ++ e ∷ [])
ordered-append [] e d h = (d, tt)
ordered-append (x ∷ xs) e d h = (h.0, ordered-append xs e d h.1)

ordered-remove : (xs : Statics) (p : ℕ) → AreOrdered xs → AreOrdered (remove xs p)
ordered-remove [] zero h = tt
ordered-remove [] (suc p) h = tt
ordered-remove (x ∷ xs) zero h = h.1
ordered-remove (x ∷ xs) (suc p) h = (h.0, ordered-remove xs p h.1)

pub ordered_at : (xs : Statics) (k : ℕ) (e : StaticEntry) → slice_get xs k ≡ Some e → AreOrdered xs → Dominates e.high e.low
ordered_at [] k e is h = absurd (none-some e is)
ordered_at (x ∷ xs) zero e is h = subst (λ (z : StaticEntry). Dominates z.high z.low) (same_Some x e is) h.0
ordered_at (x ∷ xs) (suc k) e is h = ordered_at xs k e is h.1

pub more_statics : (xs : Statics) (order : List Ranked) (e : StaticEntry) → e.prefix.bits ≤ 255 → length xs < 256 → static_place xs e.interface e.prefix ≡ None → Dominates e.high e.low
    → AreStatics xs order → AreStatics (xs ++ e ∷ []) (ranked_in (record { bits = e.prefix.bits; place = length xs }) order)
more_statics xs order e small few none d is = record {
  ranked = more_ranked static_key static_bits xs order e small few (absent_key xs e none) is.ranked;
  ordered = ordered-append xs e d is.ordered;
}

pub less_statics : (xs : Statics) (order : List Ranked) (p : ℕ) → p < length xs → AreStatics xs order → AreStatics (remove xs p) (without p order)
less_statics xs order p lt is = record { ranked = less_ranked static_key static_bits xs order p lt is.ranked; ordered = ordered-remove xs p is.ordered }

pub static_exists : (xs : Statics) (i : Domain) (n : AddressBlock) (low high : Label) (k : ℕ) → static_place xs i n ≡ Some k → static_added xs i n low high ≡ Err Fault.Exists
unfolding static_added
static_exists xs i n low high k e = cond-true (is_some (static_place xs i n)) _ _ (ap is_some e)

pub statics_full : (xs : Statics) (i : Domain) (n : AddressBlock) (low high : Label) → static_place xs i n ≡ None → 256 ≤ length xs → static_added xs i n low high ≡ Err Fault.Full
unfolding static_added
statics_full xs i n low high e full =
    cond-false (is_some (static_place xs i n)) _ _ (ap is_some e) ∙ cond-false (nat_lt (length xs) 256) _ _ (le-ltb (length xs) 256 full)

pub static_is_added : (xs : Statics) (i : Domain) (n : AddressBlock) (low high : Label) → static_place xs i n ≡ None → length xs < 256
    → static_added xs i n low high ≡ Ok (xs ++ (record { interface = i; prefix = n; low = low; high = high }) ∷ [])
unfolding static_added
static_is_added xs i n low high e few =
    cond-false (is_some (static_place xs i n)) _ _ (ap is_some e) ∙ cond-true (nat_lt (length xs) 256) _ _ (lt-ltb (length xs) 256 few)

-- the place that was found, for those that count
pub decided : (i : Domain) (a : Address) (xs chosen : Statics) (order : List Ranked) → IsRanked static_key static_bits xs order → chosen ≡ of_interface xs i
    → (r : Option ℕ) → r ≡ option_map (λ (s : Ranked). s.place) (find (λ (s : Ranked). passes_at (λ e. same_domain i e.interface && holds e.prefix a) xs s.place) order)
    → MatchOption r (longest (λ e. e.prefix) a chosen ≡ None) (λ place. (longest (λ e. e.prefix) a chosen ≡ slice_get xs place) × (place < length xs))
decided i a xs chosen order is e None found = ap (longest (λ z. z.prefix) a) e ∙ interface_none i a xs order is found
decided i a xs chosen order is e (Some at) found =
    let best = interface_some i a xs order is at found in
    (ap (longest (λ z. z.prefix) a) e ∙ best.0, best.1)
