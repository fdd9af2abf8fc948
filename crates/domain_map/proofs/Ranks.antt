-- What keeps an order an order.
use Rattle.std.proofs.Common.{◌≡◌, ℕ, zero, suc, ◌+◌, ◌-◌, ◌<◌, ◌≤◌, Bool, true, false, cond, not, List, [], ◌∷◌, ◌++◌, length, map, filter, insert, remove, slice_get, Some, None, refl, sym, ap, ◌∙◌, arith, inl, inr, nat_eq, one-add}
use Rattle.std.specs.Prelude.{nat_lt, if◌then◌else◌}
use Rattle.std.specs.List.{position, position_or_len}
use Rattle.std.proofs.lemmas.Bool.{cases_lt, cases_eq, eq-eqb, ne_eqb, lt-ltb, le-ltb, ltb-false}
use Rattle.std.proofs.lemmas.Bool.Decides.{nat_tests}
use Rattle.std.proofs.lemmas.List.{length-append}
use Rattle.std.proofs.lemmas.Option.{slice_get_within, none-some}
use Rattle.std.proofs.NetLemmas.Options.{cond_some}
use Rattle.domain_map.specs.declared.order.Ranked.{Ranked}
use Rattle.domain_map.specs.inside.Order.{Descends, Tells, times, IsOrder, ranked_in, lowered, without}

-- the same two by recursion

abbrev in_place : Ranked → List Ranked → List Ranked
in_place r [] = r ∷ []
in_place r (s ∷ ss) = cond (nat_lt s.bits r.bits) (r ∷ s ∷ ss) (s ∷ in_place r ss)

ranked_in_is : (r : Ranked) (order : List Ranked) → ranked_in r order ≡ in_place r order
ranked_in_is r [] = refl
ranked_in_is r (s ∷ ss) =
    let n = position_or_len (λ (t : Ranked). nat_lt t.bits r.bits) ss in
    elim (nat_lt s.bits r.bits) as (λ b. insert (s ∷ ss) (cond (not b) (1 + n) 0) r ≡ cond b (r ∷ s ∷ ss) (s ∷ in_place r ss)) [
      | true ↦ refl
      | false ↦ ap (λ k. insert (s ∷ ss) k r) (one-add n) ∙ ap (λ rs. s ∷ rs) (ranked_in_is r ss)
    ]

abbrev but : ℕ → List Ranked → List Ranked
but p [] = []
but p (r ∷ rs) = cond (nat_eq r.place p) (but p rs) (lowered p r ∷ but p rs)

without_is : (p : ℕ) (order : List Ranked) → without p order ≡ but p order
without_is p [] = refl
without_is p (r ∷ rs) =
    elim (nat_eq r.place p) as (λ b. map (lowered p) (cond (not b) (r ∷ filter (λ (s : Ranked). not (nat_eq s.place p)) rs) (filter (λ (s : Ranked). not (nat_eq s.place p)) rs)) ≡ cond b (but p rs) (lowered p r ∷ but p rs)) [
      | true ↦ without_is p rs
      | false ↦ ap (λ xs. lowered p r ∷ xs) (without_is p rs)
    ]

weaken : (u v : ℕ) (order : List Ranked) → u ≤ v → Descends u order → Descends v order
weaken u v [] le h = tt
weaken u v (r ∷ rs) le h = (omega (arith, h.0), h.1)

-- one more

length-in_place : (r : Ranked) (order : List Ranked) → length (in_place r order) ≡ suc (length order)
length-in_place r [] = refl
length-in_place r (s ∷ ss) =
    elim (nat_lt s.bits r.bits) as (λ b. length (cond b (r ∷ s ∷ ss) (s ∷ in_place r ss)) ≡ suc (suc (length ss))) [ true ↦ refl | false ↦ ap suc (length-in_place r ss) ]

down-in_place : (u : ℕ) (r : Ranked) (order : List Ranked) → r.bits ≤ u → Descends u order → Descends u (in_place r order)
down-in_place u r [] le h = (le, tt)
down-in_place u r (s ∷ ss) le h =
    elim (cases_lt s.bits r.bits) [
      | inl lt ↦ rw (lt-ltb s.bits r.bits lt) (le, (omega arith, h.1))
      | inr ge ↦ rw (le-ltb s.bits r.bits ge) (h.0, down-in_place s.bits r ss ge h.1)
    ]

tells-in_place : (bits : List ℕ) (r : Ranked) (order : List Ranked) → slice_get bits r.place ≡ Some r.bits → Tells bits order → Tells bits (in_place r order)
tells-in_place bits r [] is h = (is, tt)
tells-in_place bits r (s ∷ ss) is h =
    elim (nat_lt s.bits r.bits) as (λ b. Tells bits (cond b (r ∷ s ∷ ss) (s ∷ in_place r ss))) [ true ↦ (is, h) | false ↦ (h.0, tells-in_place bits r ss is h.1) ]

times-in_place : (k : ℕ) (r : Ranked) (order : List Ranked) → times k (in_place r order) ≡ cond (nat_eq r.place k) 1 0 + times k order
times-in_place k r [] = elim (nat_eq r.place k) as (λ b. cond b (1 + 0) 0 ≡ cond b 1 0 + 0) [ true ↦ omega arith | false ↦ omega arith ]
times-in_place k r (s ∷ ss) =
    elim (nat_lt s.bits r.bits) as (λ b. times k (cond b (r ∷ s ∷ ss) (s ∷ in_place r ss)) ≡ cond (nat_eq r.place k) 1 0 + times k (s ∷ ss)) [
      | true ↦ elim (nat_eq r.place k) as (λ b. cond b (1 + times k (s ∷ ss)) (times k (s ∷ ss)) ≡ cond b 1 0 + times k (s ∷ ss)) [ true ↦ refl | false ↦ omega arith ]
      | false ↦ elim (nat_eq s.place k) as (λ b. cond b (1 + times k (in_place r ss)) (times k (in_place r ss)) ≡ cond (nat_eq r.place k) 1 0 + cond b (1 + times k ss) (times k ss)) [
        | true ↦ omega (arith, times-in_place k r ss)
        | false ↦ times-in_place k r ss
      ]
    ]

get-append : (bits more : List ℕ) (k b : ℕ) → slice_get bits k ≡ Some b → slice_get (bits ++ more) k ≡ Some b
get-append [] more k b e = absurd (none-some b e)
get-append (x ∷ xs) more zero b e = e
get-append (x ∷ xs) more (suc k) b e = get-append xs more k b e

get-last : (bits : List ℕ) (b : ℕ) → slice_get (bits ++ b ∷ []) (length bits) ≡ Some b
get-last [] b = refl
get-last (x ∷ xs) b = get-last xs b

tells-append : (bits more : List ℕ) (order : List Ranked) → Tells bits order → Tells (bits ++ more) order
tells-append bits more [] h = tt
tells-append bits more (r ∷ rs) h = (get-append bits more r.place r.bits h.0, tells-append bits more rs h.1)

times_past : (bits : List ℕ) (k : ℕ) (order : List Ranked) → length bits ≤ k → Tells bits order → times k order ≡ 0
times_past bits k [] le h = refl
times_past bits k (r ∷ rs) le h =
    rw (ne_eqb r.place k (λ e. omega (arith, slice_get_within bits r.place r.bits h.0, e))) (times_past bits k rs le h.1)

pub empty_order : IsOrder [] []
empty_order = record { size = refl; tells = tt; once = λ k lt. absurd (omega (arith, lt)); down = tt }

pub order_more : (bits : List ℕ) (order : List Ranked) (b : ℕ) → b ≤ 255 → IsOrder bits order → IsOrder (bits ++ b ∷ []) (ranked_in (record { bits = b; place = length bits }) order)
order_more bits order b small is =
    let r : Ranked = record { bits = b; place = length bits } in
    rw (ranked_in_is r order) (record {
      size = length-in_place r order ∙ omega (arith, is.size, length-append bits (b ∷ []));
      tells = tells-in_place (bits ++ b ∷ []) r order (get-last bits b) (tells-append bits (b ∷ []) order is.tells);
      once = λ k lt. times-in_place k r order ∙ elim (cases_eq (length bits) k) [
        | inl e ↦ rw (eq-eqb (length bits) k e) (omega (arith, times_past bits k order (omega (arith, e)) is.tells))
        | inr ne ↦ rw (ne_eqb (length bits) k ne) (omega (arith, is.once k (omega (arith, lt, ne, length-append bits (b ∷ [])))))
      ];
      down = down-in_place 255 r order small is.down;
    })

-- one less

length-but : (p : ℕ) (order : List Ranked) → length (but p order) + times p order ≡ length order
length-but p [] = refl
length-but p (r ∷ rs) =
    elim (nat_eq r.place p) as (λ b. length (cond b (but p rs) (lowered p r ∷ but p rs)) + cond b (1 + times p rs) (times p rs) ≡ suc (length rs)) [
      | true ↦ omega (arith, length-but p rs)
      | false ↦ omega (arith, length-but p rs)
    ]

down-but : (u p : ℕ) (order : List Ranked) → Descends u order → Descends u (but p order)
down-but u p [] h = tt
down-but u p (r ∷ rs) h =
    elim (nat_eq r.place p) as (λ b. Descends u (cond b (but p rs) (lowered p r ∷ but p rs))) [
      | true ↦ weaken r.bits u (but p rs) h.0 (down-but r.bits p rs h.1)
      | false ↦ (h.0, down-but r.bits p rs h.1)
    ]

get_below : {X : Type 0} (xs : List X) (p k : ℕ) → k < p → slice_get (remove xs p) k ≡ slice_get xs k
get_below [] zero k lt = refl
get_below [] (suc p) k lt = refl
get_below (x ∷ xs) zero k lt = absurd (omega arith)
get_below (x ∷ xs) (suc p) zero lt = refl
get_below (x ∷ xs) (suc p) (suc k) lt = get_below xs p k (omega arith)

get_above : {X : Type 0} (xs : List X) (p k : ℕ) → p ≤ k → slice_get (remove xs p) k ≡ slice_get xs (suc k)
get_above [] zero k le = refl
get_above [] (suc p) k le = refl
get_above (x ∷ xs) zero k le = refl
get_above (x ∷ xs) (suc p) zero le = absurd (omega arith)
get_above (x ∷ xs) (suc p) (suc k) le = get_above xs p k (omega arith)

get_lowered : (bits : List ℕ) (p k : ℕ) → (k ≡ p → ⊥) → slice_get (remove bits p) (if nat_lt p k then k - 1 else k) ≡ slice_get bits k
get_lowered bits p k ne = elim (cases_lt p k) [
  | inl lt ↦ rw (lt-ltb p k lt) (get_above bits p (k - 1) (omega arith) ∙ ap (slice_get bits) (omega arith))
  | inr le ↦ rw (le-ltb p k le) (get_below bits p k (omega (arith, ne)))
]

tells-but : (bits : List ℕ) (p : ℕ) (order : List Ranked) → Tells bits order → Tells (remove bits p) (but p order)
tells-but bits p [] h = tt
tells-but bits p (r ∷ rs) h = elim (cases_eq r.place p) [
  | inl e ↦ rw (eq-eqb r.place p e) (tells-but bits p rs h.1)
  | inr ne ↦ rw (ne_eqb r.place p ne) (get_lowered bits p r.place ne ∙ h.0, tells-but bits p rs h.1)
]

-- where a place was before the one at p went
abbrev raised : ℕ → ℕ → ℕ
raised p k = if nat_lt k p then k else k + 1

moved : (p k q : ℕ) → (q ≡ p → ⊥) → nat_eq (if nat_lt p q then q - 1 else q) k ≡ nat_eq q (raised p k)
moved p k q ne = grind (arith, nat_tests, ne)

apart : (p k : ℕ) → nat_eq p (raised p k) ≡ false
apart p k = grind (arith, nat_tests)

times-but : (p k : ℕ) (order : List Ranked) → times k (but p order) ≡ times (raised p k) order
times-but p k [] = refl
times-but p k (r ∷ rs) = elim (cases_eq r.place p) [
  | inl e ↦ rw (eq-eqb r.place p e, e, apart p k) (times-but p k rs)
  | inr ne ↦ rw (ne_eqb r.place p ne, moved p k r.place ne) (ap (λ n. cond (nat_eq r.place (raised p k)) (1 + n) n) (times-but p k rs))
]

length-removed : {X : Type 0} (xs : List X) (p : ℕ) → p < length xs → suc (length (remove xs p)) ≡ length xs
length-removed [] p lt = absurd (omega arith)
length-removed (x ∷ xs) zero lt = refl
length-removed (x ∷ xs) (suc p) lt = ap suc (length-removed xs p (omega arith))

raised-lt : (p k n : ℕ) → k + 1 < n → raised p k < n
raised-lt p k n lt = grind (arith, nat_tests)

pub order_less : (bits : List ℕ) (order : List Ranked) (p : ℕ) → p < length bits → IsOrder bits order → IsOrder (remove bits p) (without p order)
order_less bits order p lt is =
    let less = length-removed bits p lt in
    rw (without_is p order) (record {
      size = omega (arith, length-but p order, is.once p lt, is.size, less);
      tells = tells-but bits p order is.tells;
      once = λ k k_lt. times-but p k order ∙ is.once (raised p k) (raised-lt p k (length bits) (omega (arith, less, k_lt)));
      down = down-but 255 p order is.down;
    })

pub map-removed : {X Y : Type 0} (f : X → Y) (xs : List X) (p : ℕ) → map f (remove xs p) ≡ remove (map f xs) p
map-removed f [] zero = refl
map-removed f [] (suc p) = refl
map-removed f (x ∷ xs) zero = refl
map-removed f (x ∷ xs) (suc p) = ap (λ ys. f x ∷ ys) (map-removed f xs p)

-- where a place goes in
pub rank_found : (p : Ranked → Bool) (order : List Ranked) (i : ℕ) → position p order ≡ Some i → i ≡ position_or_len p order
rank_found p order i e = sym (cond_some _ (position_or_len p order) i e).1

pub pol-le : {X : Type 0} (p : X → Bool) (xs : List X) → position_or_len p xs ≤ length xs
pol-le p [] = omega arith
pol-le p (x ∷ xs) = elim (p x) as (λ b. cond (not b) (1 + position_or_len p xs) 0 ≤ suc (length xs)) [ true ↦ omega arith | false ↦ omega (arith, pol-le p xs) ]

pub no_place : (b : Bool) (k : ℕ) → cond b (Some k) None ≡ None → b ≡ false
no_place true k e = absurd (none-some k (sym e))
no_place false k e = refl

pub rank_last : (p : Ranked → Bool) (order : List Ranked) → position p order ≡ None → length order ≡ position_or_len p order
rank_last p order e = omega (arith, pol-le p order, ltb-false (position_or_len p order) (length order) (no_place _ (position_or_len p order) e))
