-- The first in the order that passes is the longest of all that pass.
use Rattle.std.proofs.Common.{◌≡◌, ℕ, zero, suc, ◌+◌, ◌<◌, ◌≤◌, ◌⊎◌, Bool, true, false, cond, not, ◌&&◌, List, [], ◌∷◌, ◌++◌, length, map, filter, remove, slice_get, Some, None, Option, refl, sym, ap, ◌∙◌, subst, arith, inl, inr, nat_eq, option_map, find, fold, max}
use Rattle.std.specs.List.{position, position_or_len}
use Rattle.std.specs.Option.{option_map_or}
use Rattle.std.proofs.lemmas.Bool.{both_ways, and_from, and_parts, eqb-true, eq-eqb, cases_eq, ltb-false, ne_eqb}
use Rattle.std.proofs.lemmas.Option.{slice_get-map, slice_get_within, none-some, same_Some}
use Rattle.std.proofs.lemmas.List.{length-append, length-map, map-append}
use Rattle.std.proofs.lemmas.List.Edits.{length-remove}
use Rattle.std.proofs.lemmas.Slice.Eq.{bytes_eq-Decides}
use Rattle.domain_map.specs.declared.address_text.address.Address.{Address}
use Rattle.domain_map.specs.declared.address_text.address.Address.TheVariants.{V4, V6}
use Rattle.domain_map.specs.address_text.Address.{same_address}
use Rattle.domain_map.specs.address_text.Prefix.{AddressBlock, same_block, holds, masked}
use Rattle.domain_map.specs.declared.order.Ranked.{Ranked}
use Rattle.domain_map.specs.Longest.{longest, most_bits}
use Rattle.domain_map.specs.inside.Order.{Descends, Tells, times, IsOrder, ranked_in, without}
use Rattle.domain_map.specs.inside.Ranking.{Has, IsRanked, passes_at}
use Rattle.domain_map.proofs.Ranks.{order_more, order_less, map-removed, no_place}

-- members of lists

pub has_at : {X : Type 0} (xs : List X) (k : ℕ) (x : X) → slice_get xs k ≡ Some x → Has xs x
has_at [] k x e = absurd (none-some x e)
has_at (y ∷ ys) zero x e = inl (same_Some y x e)
has_at (y ∷ ys) (suc k) x e = inr (has_at ys k x e)

pub place_of_has : {X : Type 0} (xs : List X) (x : X) → Has xs x → (k : ℕ) × (slice_get xs k ≡ Some x)
place_of_has [] x h = absurd h
place_of_has (y ∷ ys) x (inl e) = (0, ap Some e)
place_of_has (y ∷ ys) x (inr h) = let rest = place_of_has ys x h in (suc rest.0, rest.1)

pub has_more : {X : Type 0} (xs : List X) (e x : X) → Has (xs ++ e ∷ []) x → Has xs x ⊎ (e ≡ x)
has_more [] e x (inl h) = inr h
has_more [] e x (inr h) = absurd h
has_more (y ∷ ys) e x (inl h) = inl (inl h)
has_more (y ∷ ys) e x (inr h) = elim (has_more ys e x h) [ inl k ↦ inl (inr k) | inr k ↦ inr k ]

pub has_less : {X : Type 0} (xs : List X) (p : ℕ) (x : X) → Has (remove xs p) x → Has xs x
has_less [] zero x h = absurd h
has_less [] (suc p) x h = absurd h
has_less (y ∷ ys) zero x h = inr h
has_less (y ∷ ys) (suc p) x (inl h) = inl h
has_less (y ∷ ys) (suc p) x (inr h) = inr (has_less ys p x h)

nowhere : {X : Type 0} (p : X → Bool) (xs : List X) (x : X) → length xs ≤ position_or_len p xs → Has xs x → p x ≡ false
nowhere p [] x le h = absurd h
nowhere p (y ∷ ys) x le h =
    elim (p y) as (λ b. p y ≡ b → suc (length ys) ≤ cond (not b) (1 + position_or_len p ys) 0 → p x ≡ false) [
      | true ↦ λ e bound. absurd (omega (arith, bound))
      | false ↦ λ e bound. elim h [ inl same ↦ subst (λ z. p z ≡ false) same e | inr k ↦ nowhere p ys x (omega (arith, bound)) k ]
    ] refl le

pub none_passes : {X : Type 0} (p : X → Bool) (xs : List X) (x : X) → position p xs ≡ None → Has xs x → p x ≡ false
none_passes p xs x e h = nowhere p xs x (ltb-false (position_or_len p xs) (length xs) (no_place _ (position_or_len p xs) e)) h

-- prefixes

same_address-refl : (a : Address) → same_address a a ≡ true
same_address-refl (V4 a) = (bytes_eq-Decides a a).1 refl
same_address-refl (V6 a) = (bytes_eq-Decides a a).1 refl

same_is : (a b : Address) → same_address a b ≡ true → a ≡ b
same_is (V4 a) (V4 b) e = ap V4 ((bytes_eq-Decides a b).0 e)
same_is (V6 a) (V6 b) e = ap V6 ((bytes_eq-Decides a b).0 e)
same_is (V4 a) (V6 b) e = cc
same_is (V6 a) (V4 b) e = cc

pub same_block-refl : (n : AddressBlock) → same_block n n ≡ true
same_block-refl n = and_from _ _ (same_address-refl n.address) (eq-eqb n.bits n.bits refl)

-- two prefixes of as many bits that hold one address are one
pub one_holds : (a : Address) (p q : AddressBlock) → holds p a ≡ true → holds q a ≡ true → p.bits ≡ q.bits → p ≡ q
one_holds a p q hp hq e =
    let same = sym (same_is _ p.address hp) ∙ ap (λ n. masked n a) e ∙ same_is _ q.address hq in
    λ i. record { address = same i; bits = e i }

-- the most bits

module _ {X : Type 0} (key : X → AddressBlock) (a : Address) where
  most_from : ℕ → List X → ℕ
  most_from n xs = fold max n (map (λ x. (key x).bits) (filter (λ x. holds (key x) a) xs))

  at_least : (n : ℕ) (xs : List X) → n ≤ most_from n xs
  unfolding most_from
  at_least n [] = omega arith
  at_least n (x ∷ xs) =
      elim (holds (key x) a) as (λ b. n ≤ fold max n (map (λ y. (key y).bits) (cond b (x ∷ filter (λ y. holds (key y) a) xs) (filter (λ y. holds (key y) a) xs)))) [
        | true ↦ omega (arith, at_least (max n (key x).bits) xs)
        | false ↦ at_least n xs
      ]

  covers : (n : ℕ) (xs : List X) (x : X) → Has xs x → holds (key x) a ≡ true → (key x).bits ≤ most_from n xs
  unfolding most_from
  covers n [] x h e = absurd h
  covers n (y ∷ ys) x (inl same) e =
      let at : holds (key y) a ≡ true = subst (λ z. holds (key z) a ≡ true) (sym same) e in
      rw at (subst (λ z. (key z).bits ≤ most_from (max n (key y).bits) ys) same (omega (arith, at_least (max n (key y).bits) ys)))
  covers n (y ∷ ys) x (inr h) e =
      elim (holds (key y) a) as (λ b. (key x).bits ≤ fold max n (map (λ z. (key z).bits) (cond b (y ∷ filter (λ z. holds (key z) a) ys) (filter (λ z. holds (key z) a) ys)))) [
        | true ↦ covers (max n (key y).bits) ys x h e
        | false ↦ covers n ys x h e
      ]

  at_most : (n top : ℕ) (xs : List X) → n ≤ top → ((y : X) → Has xs y → holds (key y) a ≡ true → (key y).bits ≤ top) → most_from n xs ≤ top
  unfolding most_from
  at_most n top [] le all = le
  at_most n top (y ∷ ys) le all =
      elim (holds (key y) a) as (λ b. holds (key y) a ≡ b → fold max n (map (λ z. (key z).bits) (cond b (y ∷ filter (λ z. holds (key z) a) ys) (filter (λ z. holds (key z) a) ys))) ≤ top) [
        | true ↦ λ e. at_most (max n (key y).bits) top ys (omega (arith, all y (inl refl) e)) (λ z h. all z (inr h))
        | false ↦ λ e. at_most n top ys le (λ z h. all z (inr h))
      ] refl

  find_only : (p : X → Bool) (xs : List X) (x : X) → Has xs x → p x ≡ true → ((y : X) → Has xs y → p y ≡ true → y ≡ x) → find p xs ≡ Some x
  find_only p [] x h e only = absurd h
  find_only p (y ∷ ys) x h e only =
      elim (p y) as (λ b. p y ≡ b → cond b (Some y) (find p ys) ≡ Some x) [
        | true ↦ λ is. ap Some (only y (inl refl) is)
        | false ↦ λ is. elim h [
          | inl same ↦ absurd (both_ways (p y) is (subst (λ z. p z ≡ true) (sym same) e))
          | inr k ↦ find_only p ys x k e (λ z j. only z (inr j))
        ]
      ] refl

  -- of those that hold the address, the one with the most bits is the longest, where no two have one prefix
  pub longest_is : (xs : List X) (x : X) → Has xs x → holds (key x) a ≡ true → ((y : X) → Has xs y → holds (key y) a ≡ true → (key y).bits ≤ (key x).bits)
      → ((y : X) → Has xs y → key y ≡ key x → y ≡ x) → longest key a xs ≡ Some x
  unfolding most_from
  longest_is xs x h e most apart =
      let top : most_bits key a xs ≡ (key x).bits = omega (arith, at_most 0 (key x).bits xs (omega arith) most, covers 0 xs x h e) in
      find_only (λ y. holds (key y) a && nat_eq (key y).bits (most_bits key a xs)) xs x h (and_from _ _ e (eq-eqb _ _ (sym top)))
      λ y k both.
      let parts = and_parts (holds (key y) a) _ both in
      apart y k (one_holds a (key y) (key x) parts.0 e (eqb-true _ _ parts.1 ∙ top))

  find_nothing : (p : X → Bool) (xs : List X) → ((y : X) → Has xs y → p y ≡ false) → find p xs ≡ None
  find_nothing p [] none = refl
  find_nothing p (y ∷ ys) none = rw (none y (inl refl)) (find_nothing p ys (λ z h. none z (inr h)))

  pub no_longest : (xs : List X) → ((y : X) → Has xs y → holds (key y) a ≡ false) → longest key a xs ≡ None
  no_longest xs none = find_nothing (λ y. holds (key y) a && nat_eq (key y).bits (most_bits key a xs)) xs
      λ y h. ap (λ b. b && nat_eq (key y).bits (most_bits key a xs)) (none y h)

-- the first in the order

HasRank : List Ranked → Ranked → Type 0
HasRank [] r = ⊥
HasRank (s ∷ ss) r = (s ≡ r) ⊎ HasRank ss r

bounded : (u : ℕ) (order : List Ranked) (r : Ranked) → Descends u order → HasRank order r → r.bits ≤ u
unfolding HasRank
bounded u [] r d h = absurd h
bounded u (s ∷ ss) r d (inl e) = omega (arith, d.0, ap (λ (t : Ranked). t.bits) e)
bounded u (s ∷ ss) r d (inr h) = omega (arith, d.0, bounded s.bits ss r d.1 h)

-- what a search finds passes, and nothing that passes has more bits
record IsFirst (p : Ranked → Bool) (order : List Ranked) (r : Ranked) : Type 0 where
  has : HasRank order r
  passes : p r ≡ true
  most : (s : Ranked) → HasRank order s → p s ≡ true → s.bits ≤ r.bits

found_first : (p : Ranked → Bool) (u : ℕ) (order : List Ranked) (r : Ranked) → Descends u order → find p order ≡ Some r → IsFirst p order r
unfolding HasRank
found_first p u [] r d e = absurd (none-some r e)
found_first p u (s ∷ ss) r d e =
    elim (p s) as (λ b. p s ≡ b → cond b (Some s) (find p ss) ≡ Some r → IsFirst p (s ∷ ss) r) [
      | true ↦ λ is f. subst (IsFirst p (s ∷ ss)) (same_Some s r f) (record {
        has = inl refl;
        passes = is;
        most = λ t h pt. elim h [ inl k ↦ omega (arith, ap (λ (z : Ranked). z.bits) k) | inr k ↦ bounded s.bits ss t d.1 k ];
      })
      | false ↦ λ is f. let rest = found_first p s.bits ss r d.1 f in record {
        has = inr rest.has;
        passes = rest.passes;
        most = λ t h pt. elim h [ inl k ↦ absurd (both_ways (p s) is (subst (λ z. p z ≡ true) (sym k) pt)) | inr k ↦ rest.most t k pt ];
      }
    ] refl e

found_none : (p : Ranked → Bool) (order : List Ranked) (r : Ranked) → find p order ≡ None → HasRank order r → p r ≡ false
unfolding HasRank
found_none p [] r e h = absurd h
found_none p (s ∷ ss) r e h =
    elim (p s) as (λ b. p s ≡ b → cond b (Some s) (find p ss) ≡ None → p r ≡ false) [
      | true ↦ λ is f. absurd (none-some s (sym f))
      | false ↦ λ is f. elim h [ inl same ↦ subst (λ z. p z ≡ false) same is | inr k ↦ found_none p ss r f k ]
    ] refl e

-- a place that is there has a rank
ranked_place : (k : ℕ) (order : List Ranked) → 0 < times k order → (r : Ranked) × (r.place ≡ k) × HasRank order r
unfolding HasRank
ranked_place k [] lt = absurd (omega arith)
ranked_place k (s ∷ ss) lt = elim (cases_eq s.place k) [
  | inl e ↦ (s, e, inl refl)
  | inr ne ↦ let rest = ranked_place k ss (rw (ne_eqb s.place k ne) at lt) in (rest.0, rest.1, inr rest.2)
]

told : (bits : List ℕ) (order : List Ranked) (r : Ranked) → Tells bits order → HasRank order r → slice_get bits r.place ≡ Some r.bits
unfolding HasRank
told bits [] r t h = absurd h
told bits (s ∷ ss) r t (inl e) = subst (λ (z : Ranked). slice_get bits z.place ≡ Some z.bits) e t.0
told bits (s ∷ ss) r t (inr h) = told bits ss r t.1 h

pub mapped_back : {X Y : Type 0} (f : X → Y) (o : Option X) (n : Y) → option_map f o ≡ Some n → (x : X) × (o ≡ Some x) × (f x ≡ n)
mapped_back f None n e = absurd (none-some n e)
mapped_back f (Some x) n e = (x, refl, same_Some (f x) n e)

pub none_back : {X Y : Type 0} (f : X → Y) (o : Option X) → option_map f o ≡ None → o ≡ None
none_back f None e = refl
none_back f (Some x) e = absurd (none-some (f x) (sym e))

-- the entry of the first place that passes
pub record IsBest {X : Type 0} (bits_of : X → ℕ) (pass : X → Bool) (xs : List X) (place : ℕ) : Type 0 where
  pub entry : X
  pub is : slice_get xs place ≡ Some entry
  pub passes : pass entry ≡ true
  pub most : (y : X) → Has xs y → pass y ≡ true → bits_of y ≤ bits_of entry

module _ {X : Type 0} (bits_of : X → ℕ) (pass : X → Bool) (xs : List X) (order : List Ranked) (is : IsOrder (map bits_of xs) order) where
  -- each entry has its rank
  rank_of_entry : (y : X) → Has xs y → (r : Ranked) × HasRank order r × (slice_get xs r.place ≡ Some y) × (r.bits ≡ bits_of y)
  rank_of_entry y h =
      let (k, at) = place_of_has xs y h in
      let mapped : slice_get (map bits_of xs) k ≡ Some (bits_of y) = slice_get-map bits_of xs k ∙ ap (option_map bits_of) at in
      let (r, place, there) = ranked_place k order (omega (arith, is.once k (slice_get_within (map bits_of xs) k (bits_of y) mapped))) in
      let bits = same_Some r.bits (bits_of y) (sym (told (map bits_of xs) order r is.tells there) ∙ ap (slice_get (map bits_of xs)) place ∙ mapped) in
      (r, there, ap (slice_get xs) place ∙ at, bits)

  pub best : (r : Ranked) → find (λ (s : Ranked). passes_at pass xs s.place) order ≡ Some r → IsBest bits_of pass xs r.place
  best r e =
      let first = found_first (λ (s : Ranked). passes_at pass xs s.place) 255 order r is.down e in
      let (x, at, bits) = mapped_back bits_of (slice_get xs r.place) r.bits (sym (slice_get-map bits_of xs r.place) ∙ told (map bits_of xs) order r is.tells first.has) in
      record {
        entry = x;
        is = at;
        passes = ap (λ o. option_map_or pass o false) (sym at) ∙ first.passes;
        most = λ y h py.
            let (s, there, s_at, s_bits) = rank_of_entry y h in
            omega (arith, s_bits, bits, first.most s there (ap (λ o. option_map_or pass o false) s_at ∙ py));
      }

  pub none_best : find (λ (s : Ranked). passes_at pass xs s.place) order ≡ None → (y : X) → Has xs y → pass y ≡ false
  none_best e y h =
      let (s, there, s_at, s_bits) = rank_of_entry y h in
      ap (λ o. option_map_or pass o false) (sym s_at) ∙ found_none (λ (z : Ranked). passes_at pass xs z.place) order s e there

-- rankings

module _ {X K : Type 0} (key : X → K) (bits_of : X → ℕ) where
  pub none_ranked : IsRanked key bits_of [] []
  none_ranked = record { order = record { size = refl; tells = tt; once = λ k lt. absurd (omega (arith, lt)); down = tt }; apart = λ x y h. absurd h; few = omega arith }

  pub more_ranked : (xs : List X) (order : List Ranked) (e : X) → bits_of e ≤ 255 → length xs < 256 → ((x : X) → Has xs x → key x ≡ key e → ⊥)
      → IsRanked key bits_of xs order → IsRanked key bits_of (xs ++ e ∷ []) (ranked_in (record { bits = bits_of e; place = length xs }) order)
  more_ranked xs order e small few new is = record {
    order = rw (map-append bits_of xs (e ∷ [])) (subst (λ n. IsOrder (map bits_of xs ++ bits_of e ∷ []) (ranked_in (record { bits = bits_of e; place = n }) order)) (length-map xs bits_of) (order_more (map bits_of xs) order (bits_of e) small is.order));
    apart = λ x y hx hy same. elim (has_more xs e x hx) [
      | inl in_x ↦ elim (has_more xs e y hy) [
        | inl in_y ↦ is.apart x y in_x in_y same
        | inr is_y ↦ absurd (new x in_x (same ∙ ap key (sym is_y)))
      ]
      | inr is_x ↦ elim (has_more xs e y hy) [
        | inl in_y ↦ absurd (new y in_y (sym same ∙ ap key (sym is_x)))
        | inr is_y ↦ sym is_x ∙ is_y
      ]
    ];
    few = omega (arith, length-append xs (e ∷ []));
  }

  pub less_ranked : (xs : List X) (order : List Ranked) (p : ℕ) → p < length xs → IsRanked key bits_of xs order → IsRanked key bits_of (remove xs p) (without p order)
  less_ranked xs order p lt is = record {
    order = rw (map-removed bits_of xs p) (order_less (map bits_of xs) order p (omega (arith, length-map xs bits_of)) is.order);
    apart = λ x y hx hy. is.apart x y (has_less xs p x hx) (has_less xs p y hy);
    few = omega (arith, is.few, length-remove xs p lt);
  }

-- what the first place that passes is worth
pub record IsLongest {X : Type 0} (key : X → AddressBlock) (a : Address) (xs : List X) (place : ℕ) : Type 0 where
  pub entry : X
  pub is : slice_get xs place ≡ Some entry
  pub longest : longest key a xs ≡ Some entry

module _ {X : Type 0} (key : X → AddressBlock) (a : Address) (xs : List X) (order : List Ranked) (is : IsRanked key (λ x. (key x).bits) xs order) where
  pub longest_none : None ≡ option_map (λ (r : Ranked). r.place) (find (λ (s : Ranked). passes_at (λ e. holds (key e) a) xs s.place) order) → longest key a xs ≡ None
  longest_none e = no_longest key a xs (none_best (λ x. (key x).bits) (λ x. holds (key x) a) xs order is.order (none_back _ _ (sym e)))

  pub longest_some : (at : ℕ) → Some at ≡ option_map (λ (r : Ranked). r.place) (find (λ (s : Ranked). passes_at (λ e. holds (key e) a) xs s.place) order) → IsLongest key a xs at
  longest_some at e =
      let (r, found, place) = mapped_back (λ (r : Ranked). r.place) _ at (sym e) in
      let b = best (λ x. (key x).bits) (λ x. holds (key x) a) xs order is.order r found in
      let there : slice_get xs at ≡ Some b.entry = ap (slice_get xs) (sym place) ∙ b.is in
      record {
        entry = b.entry;
        is = there;
        longest = longest_is key a xs b.entry (has_at xs at b.entry there) b.passes b.most (λ y h same. is.apart y b.entry h (has_at xs at b.entry there) same);
      }
