-- The options of one type in a list of version 4, and those that are left without them.
use Rattle.std.proofs.Common.{◌≡◌, ℕ, ◌+◌, ◌-◌, ◌<◌, Bool, true, false, not, ◌&&◌, cond, eqb, List, [], ◌∷◌, ◌++◌, length, map, filter, take, drop, All, Option, Some, None, refl, sym, ap, subst, ◌∙◌, append_assoc, arith, length-append}
use Rattle.std.specs.Prelude.{slice_get, is_some}
use Rattle.std.specs.Borrow.{Bor}
use Rattle.std.specs.Option.{option_map}
use Rattle.std.specs.List.{concat}
use Rattle.std.proofs.lemmas.Bool.{eqb-true}
use Rattle.std.proofs.lemmas.List.{append-nil, map-append}
use Rattle.std.proofs.lemmas.List.Elements.{All-nil, All-cons, All-head, All-tail, All-filter, All-weaker, filter_passes, filter-append}
use Rattle.ip_headers.specs.declared.version.Version.TheVariants.{V4}
use Rattle.ip_headers.specs.declared.fields.Fields4.{Fields4}
use Rattle.ip_headers.specs.declared.options.Step.{Step}
use Rattle.ip_headers.specs.declared.options.Step.TheVariants as step
use Rattle.ip_headers.specs.Sum.{ones_sum}
use Rattle.ip_headers.specs.Options.{Placed, Listed, IsOption, type_octet, is_other, is_other_type, aligned, options_from, others_of}
use Rattle.ip_headers.specs.Packet.{Headers}
use Rattle.ip_headers.specs.Fields.{packet4}
use Rattle.ip_headers.specs.Written.{gap_to, padding, packed, filled, kept_options, fixed4, packet_octets, rebuilt_room, rebuilt_length, rewritten}
use Rattle.ip_headers.specs.Swapped.{of_kind, without_kind, led_by, swapped_kind}
use Rattle.ip_headers.specs.inside.Walk.{step_of}
use Rattle.ip_headers.specs.inside.Write.{IsWholeList, others_in}
use Rattle.ip_headers.specs.inside.Swap.{joined, part_without, kept_without}
use Rattle.ip_headers.proofs.Lists.{IsBelow, placed_from, listed_whole, options_below}
use Rattle.ip_headers.proofs.Layouts.{IsLeft, turn, finish, whole_left}
use Rattle.ip_headers.proofs.Back.{concat-append, gap4}

-- ---- the search for the options of one type

-- what was found, as a list
abbrev pub found_list : Option Placed → List Placed
found_list None = []
found_list (Some p) = p ∷ []

abbrev pub placed : Option (ℕ × Bor (List ℕ)) → Option Placed
placed found = option_map (λ x. record { place = x.0; octets = x.1.now }) found

-- none or one was found, and these octets are left
pub record IsSought (kind : ℕ) (area : List ℕ) (first : Option (ℕ × Bor (List ℕ))) (at : ℕ) (rest : List ℕ) : Type 0 where
  pub todo : List Placed
  pub left : IsLeft V4 at rest todo
  pub whole : of_kind kind (others_in V4 area) ≡ found_list (placed first) ++ of_kind kind (others_of V4 todo)

pub sought_first : (kind : ℕ) (area : List ℕ) (at : ℕ) → IsWholeList V4 area → length area < 65536 → at ≡ 20 → IsSought kind area None at area
sought_first kind area at whole small at_is = record {
  todo = (options_from V4 20 area).options;
  left = rw at_is (whole_left V4 area whole small);
  whole = refl;
}

-- an option of the type is one that is kept
of_type : (kind : ℕ) (p : Placed) → is_other_type V4 kind ≡ true → eqb (type_octet p.octets) kind ≡ true → of_kind kind (others_of V4 (p ∷ [])) ≡ p ∷ []
of_type kind p other same =
    let kept : is_other V4 p ≡ true = ap (is_other_type V4) (eqb-true (type_octet p.octets) kind same) ∙ other in
    rw kept (rw same refl)

not_of_type : (kind : ℕ) (p : Placed) → eqb (type_octet p.octets) kind ≡ false → of_kind kind (others_of V4 (p ∷ [])) ≡ []
not_of_type kind p differs = by_other (is_other V4 p) where
  by_other : (b : Bool) → of_kind kind (map (aligned V4) (cond b (p ∷ []) [])) ≡ []
  by_other true = rw differs refl
  by_other false = refl

-- what is left of the type, where an option is in front
of_front : (kind : ℕ) (todo more : List Placed) (p : Placed) (found : List Placed) → others_of V4 todo ≡ others_of V4 (p ∷ []) ++ others_of V4 more → of_kind kind (others_of V4 (p ∷ [])) ≡ found
    → of_kind kind (others_of V4 todo) ≡ found ++ of_kind kind (others_of V4 more)
of_front kind todo more p found todo_is is =
    ap (of_kind kind) todo_is ∙ filter-append (λ o. eqb (type_octet o.octets) kind) (others_of V4 (p ∷ [])) (others_of V4 more) ∙ ap (λ (x : List Placed). x ++ of_kind kind (others_of V4 more)) is

module _ (kind : ℕ) (area : List ℕ) (first : Option (ℕ × Bor (List ℕ))) (at : ℕ) (rest : List ℕ) (size : ℕ) (option : Bor (List ℕ)) (after : List ℕ) (s : IsSought kind area first at rest)
    (is : step_of V4 rest ≡ step.Option size) (front : option.now ≡ take size rest) (back : after ≡ drop size rest) where
  pub sought_other : eqb (type_octet option.now) kind ≡ false → IsSought kind area first (at + size) after
  sought_other differs =
      let t = turn V4 at rest s.todo size option.now after s.left is front back in
      let p : Placed = record { place = at; octets = option.now } in
      record { todo = t.more; left = t.left; whole = s.whole ∙ ap (λ (x : List Placed). found_list (placed first) ++ x) (of_front kind s.todo t.more p [] t.todo_is (not_of_type kind p differs)) }

  -- the rest of the type, where an option of it is in front
  pub sought_more : is_other_type V4 kind ≡ true → eqb (type_octet option.now) kind ≡ true
      → of_kind kind (others_in V4 area) ≡ found_list (placed first) ++ record { place = at; octets = option.now } ∷ of_kind kind (others_of V4 (turn V4 at rest s.todo size option.now after s.left is front back).more)
  sought_more other same =
      let t = turn V4 at rest s.todo size option.now after s.left is front back in
      let p : Placed = record { place = at; octets = option.now } in
      s.whole ∙ ap (λ (x : List Placed). found_list (placed first) ++ x) (of_front kind s.todo t.more p (p ∷ []) t.todo_is (of_type kind p other same))

pub sought_one : (kind : ℕ) (area : List ℕ) (first : Option (ℕ × Bor (List ℕ))) (at : ℕ) (rest : List ℕ) (size : ℕ) (option : Bor (List ℕ)) (after : List ℕ) → IsSought kind area first at rest
    → step_of V4 rest ≡ step.Option size → option.now ≡ take size rest → after ≡ drop size rest → is_other_type V4 kind ≡ true → eqb (type_octet option.now) kind ≡ true → is_some first ≡ false
    → IsSought kind area (Some (at, option)) (at + size) after
sought_one kind area None at rest size option after s is front back other same none =
    let t = turn V4 at rest s.todo size option.now after s.left is front back in
    record { todo = t.more; left = t.left; whole = sought_more kind area None at rest size option after s is front back other same }
sought_one kind area (Some one) at rest size option after s is front back other same none = absurd cc

pub sought_second : (kind : ℕ) (area : List ℕ) (first : Option (ℕ × Bor (List ℕ))) (at : ℕ) (rest : List ℕ) (size : ℕ) (option : Bor (List ℕ)) (after : List ℕ) → IsSought kind area first at rest
    → step_of V4 rest ≡ step.Option size → option.now ≡ take size rest → after ≡ drop size rest → is_other_type V4 kind ≡ true → eqb (type_octet option.now) kind ≡ true → is_some first ≡ true
    → Some at ≡ option_map (λ (o : Placed). o.place) (slice_get (of_kind kind (others_in V4 area)) 1)
sought_second kind area None at rest size option after s is front back other same some = absurd cc
sought_second kind area (Some one) at rest size option after s is front back other same some =
    ap (λ (x : List Placed). option_map (λ (o : Placed). o.place) (slice_get x 1)) (sym (sought_more kind area (Some one) at rest size option after s is front back other same))

-- what a search answers that found no second
pub record IsFound (kind : ℕ) (options : List Placed) (first : Option (ℕ × Bor (List ℕ))) : Type 0 where
  pub first_is : placed first ≡ slice_get (of_kind kind options) 0
  pub none : None ≡ option_map (λ (o : Placed). o.place) (slice_get (of_kind kind options) 1)

pub sought_all : (kind : ℕ) (area : List ℕ) (first : Option (ℕ × Bor (List ℕ))) (at : ℕ) (rest : List ℕ) (s : Step) → IsSought kind area first at rest → s ≡ step_of V4 rest → ((x : ℕ) → s ≡ step.Option x → ⊥)
    → IsFound kind (others_in V4 area) first
sought_all kind area first at rest s so_far e stop =
    let none = finish V4 at rest so_far.todo s so_far.left e stop in
    let all : of_kind kind (others_in V4 area) ≡ found_list (placed first) = so_far.whole ∙ ap (λ (x : List Placed). found_list (placed first) ++ of_kind kind (others_of V4 x)) none ∙ append-nil (found_list (placed first)) in
    let answer = found_from first (of_kind kind (others_in V4 area)) all in
    record { first_is = answer.0; none = answer.1 } where
      found_from : (first : Option (ℕ × Bor (List ℕ))) (found : List Placed) → found ≡ found_list (placed first) → (placed first ≡ slice_get found 0) × (None ≡ option_map (λ (o : Placed). o.place) (slice_get found 1))
      found_from None found all = rw all (refl, refl)
      found_from (Some one) found all = rw all (refl, refl)

-- ---- the copy of those that are left

pub joined-append : (xs ys : List Placed) → joined (xs ++ ys) ≡ joined xs ++ joined ys
joined-append xs ys = ap concat (map-append (λ (o : Placed). o.octets) xs ys) ∙ concat-append (map (λ (o : Placed). o.octets) xs) (map (λ (o : Placed). o.octets) ys)

-- these were copied, and these octets are left
pub record IsCopied (kind : ℕ) (area rest kept : List ℕ) : Type 0 where
  pub at : ℕ
  pub todo : List Placed
  pub left : IsLeft V4 at rest todo
  pub whole : kept ++ joined (without_kind kind (others_of V4 todo)) ≡ kept_without kind area

pub copied_first : (kind : ℕ) (area kept : List ℕ) → IsWholeList V4 area → length area < 65536 → kept ≡ [] → IsCopied kind area area kept
copied_first kind area kept whole small none = record {
  at = 20;
  todo = (options_from V4 20 area).options;
  left = whole_left V4 area whole small;
  whole = ap (λ (x : List ℕ). x ++ kept_without kind area) none;
}

-- an option that is kept, or isn't
one_without : (kind : ℕ) (p : Placed) → joined (without_kind kind (others_of V4 (p ∷ []))) ≡ part_without kind p.octets
one_without kind p = by_tests (is_other V4 p) (eqb (type_octet p.octets) kind) refl where
  by_tests : (b d : Bool) → eqb (type_octet p.octets) kind ≡ d → joined (without_kind kind (map (aligned V4) (cond b (p ∷ []) []))) ≡ cond (b && not d) p.octets []
  by_tests true true e = rw e refl
  by_tests true false e = rw e (append-nil p.octets)
  by_tests false d e = refl

module _ (kind : ℕ) (area rest kept : List ℕ) (size : ℕ) (option after : List ℕ) (s : IsCopied kind area rest kept)
    (is : step_of V4 rest ≡ step.Option size) (front : option ≡ take size rest) (back : after ≡ drop size rest) where
  one_more : kept ++ (part_without kind option ++ joined (without_kind kind (others_of V4 (turn V4 s.at rest s.todo size option after s.left is front back).more))) ≡ kept_without kind area
  one_more =
      let t = turn V4 s.at rest s.todo size option after s.left is front back in
      let p : Placed = record { place = s.at; octets = option } in
      let todo_is : joined (without_kind kind (others_of V4 s.todo)) ≡ part_without kind option ++ joined (without_kind kind (others_of V4 t.more)) =
      ap (λ (x : List Placed). joined (without_kind kind x)) t.todo_is
      ∙ ap joined (filter-append (λ o. not (eqb (type_octet o.octets) kind)) (others_of V4 (p ∷ [])) (others_of V4 t.more))
      ∙ joined-append (without_kind kind (others_of V4 (p ∷ []))) (without_kind kind (others_of V4 t.more))
      ∙ ap (λ (x : List ℕ). x ++ joined (without_kind kind (others_of V4 t.more))) (one_without kind p) in
      ap (λ (x : List ℕ). kept ++ x) (sym todo_is) ∙ s.whole

  pub copied_more : (new : List ℕ) → new ≡ kept ++ part_without kind option → IsCopied kind area after new
  copied_more new new_is =
      let t = turn V4 s.at rest s.todo size option after s.left is front back in
      let rest_of = joined (without_kind kind (others_of V4 t.more)) in
      record { at = s.at + size; todo = t.more; left = t.left; whole = ap (λ (x : List ℕ). x ++ rest_of) new_is ∙ append_assoc kept (part_without kind option) rest_of ∙ one_more }

  -- no room for this one, none for all
  pub copied_over : (room : ℕ) → room < length kept + length (part_without kind option) → room < length (kept_without kind area)
  copied_over room over =
      let t = turn V4 s.at rest s.todo size option after s.left is front back in
      let part = part_without kind option in
      let rest_of = joined (without_kind kind (others_of V4 t.more)) in
      omega (arith, over, ap length (sym one_more), length-append kept (part ++ rest_of), length-append part rest_of)

pub copied_all : (kind : ℕ) (area rest kept : List ℕ) (s : Step) → IsCopied kind area rest kept → s ≡ step_of V4 rest → ((x : ℕ) → s ≡ step.Option x → ⊥) → kept ≡ kept_without kind area
copied_all kind area rest kept s so_far e stop =
    let none = finish V4 so_far.at rest so_far.todo s so_far.left e stop in
    sym (append-nil kept) ∙ ap (λ (x : List Placed). kept ++ joined (without_kind kind (others_of V4 x))) (sym none) ∙ so_far.whole

-- ---- what the copy is as a list of options

-- the options of another type are whole, and kept
abbrev pub Stays : Placed → Type 0
Stays o = IsOption V4 o.octets × (is_other V4 o ≡ true)

map_stays : (xs : List Placed) → All (λ (o : Placed). IsOption V4 o.octets) xs → All (IsOption V4) (map (λ (o : Placed). o.octets) xs)
map_stays [] all = All-nil (IsOption V4)
map_stays (o ∷ xs) all = All-cons (IsOption V4) o.octets (map (λ (o : Placed). o.octets) xs) (All-head (λ (o : Placed). IsOption V4 o.octets) o xs all) (map_stays xs (All-tail (λ (o : Placed). IsOption V4 o.octets) o xs all))

same_aligned : (xs : List Placed) → map (aligned V4) xs ≡ xs
same_aligned [] = refl
same_aligned (x ∷ xs) = ap (λ (l : List Placed). x ∷ l) (same_aligned xs)

-- options one after another are others where they were
again_others : (at : ℕ) (xs : List Placed) → All (λ o. is_other V4 o ≡ true) xs → others_of V4 (placed_from at (map (λ (o : Placed). o.octets) xs)) ≡ placed_from at (map (λ (o : Placed). o.octets) xs)
unfolding placed_from
again_others at [] all = refl
again_others at (x ∷ xs) all =
    let p : Placed = record { place = at; octets = x.octets } in
    let kept : is_other V4 p ≡ true = All-head (λ o. is_other V4 o ≡ true) x xs all in
    rw kept (ap (λ (l : List Placed). p ∷ l) (again_others (at + length x.octets) xs (All-tail (λ o. is_other V4 o ≡ true) x xs all)))

-- the copy is a list of options, whose octets are those of the options that were kept
pub record IsAgain (kept : List ℕ) (xs : List Placed) : Type 0 where
  pub whole : IsWholeList V4 kept
  pub others : others_in V4 kept ≡ placed_from 20 (map (λ (o : Placed). o.octets) xs)

again : (xs : List Placed) → All (λ (o : Placed). IsOption V4 o.octets) xs → All (λ o. is_other V4 o ≡ true) xs → IsAgain (joined xs) xs
again xs are kept =
    let options = map (λ (o : Placed). o.octets) xs in
    let list : options_from V4 20 (joined xs) ≡ record { options = placed_from 20 options; broken = None } =
    ap (options_from V4 20) (sym (append-nil (concat options))) ∙ listed_whole V4 20 options [] (map_stays xs are) refl in
    record {
      whole = ap (λ (l : Listed). l.broken) list;
      others = ap (λ (l : Listed). others_of V4 l.options) list ∙ again_others 20 xs kept;
    }

pub kept_again : (kind : ℕ) (area : List ℕ) → IsAgain (kept_without kind area) (without_kind kind (others_in V4 area))
kept_again kind area =
    let options = (options_from V4 20 area).options in
    let without = λ (o : Placed). not (eqb (type_octet o.octets) kind) in
    let below = options_below V4 20 (20 + length area) area (λ some. omega arith) in
    let are = λ (o : Placed). IsOption V4 o.octets in
    let all : All are options = All-weaker (IsBelow V4 (20 + length area)) are (λ o h. h.0) options below in
    let others_is : others_in V4 area ≡ filter (is_other V4) options = same_aligned (filter (is_other V4) options) in
    again (without_kind kind (others_in V4 area))
    (All-filter without are (others_in V4 area) (subst (All are) (sym others_is) (All-filter (is_other V4) are options all)))
    (All-filter without (λ o. is_other V4 o ≡ true) (others_in V4 area) (subst (All (λ o. is_other V4 o ≡ true)) (sym others_is) (filter_passes (is_other V4) options)))

-- ---- the packet with another option first

-- in version 4 there is no padding between options
packed4 : (free : ℕ) (xs : List Placed) → packed V4 free xs ≡ joined xs
unfolding packed
packed4 free [] = refl
packed4 free (x ∷ xs) = (λ i. padding V4 (gap4 x.place free i) ++ x.octets ++ packed4 (free + gap_to 1 x.place free + length x.octets) xs i)

joined_again : (at : ℕ) (options : List (List ℕ)) → joined (placed_from at options) ≡ concat options
unfolding placed_from
joined_again at [] = refl
joined_again at (o ∷ options) = ap (λ (x : List ℕ). o ++ x) (joined_again (at + length o) options)

module _ (f : Fields4) (option payload : List ℕ) (xs : List Placed) where
  -- the option in the place of a label option, before the copy of these
  abbrev copied : Headers
  copied = packet4 f (Some option) (placed_from 20 (map (λ (o : Placed). o.octets) xs)) payload

  -- the option before these
  abbrev led : Headers
  led = led_by option (packet4 f None xs payload)

  led_kept : kept_options copied ≡ kept_options led
  unfolding kept_options packed
  led_kept =
      packed4-front (20 + length option) (placed_from 20 (map (λ (o : Placed). o.octets) xs)) ∙ ap (λ (x : List ℕ). option ++ x) (joined_again 20 (map (λ (o : Placed). o.octets) xs)) ∙ sym (packed4-front (20 + length option) xs) where
        packed4-front : (free : ℕ) (ys : List Placed) → option ++ packed V4 free ys ≡ option ++ joined ys
        packed4-front free ys = ap (λ (x : List ℕ). option ++ x) (packed4 free ys)

  -- what is written of a packet with these fields and these options
  abbrev with_kept : List ℕ → List ℕ
  with_kept kept =
      let area = filled V4 20 kept in
      let checked = λ (c : ℕ). fixed4 (packet4 f None [] payload) (length area) c ++ area in
      checked (65535 - ones_sum (checked 0)) ++ payload

  pub led_octets : packet_octets copied ≡ packet_octets led
  unfolding packet_octets
  led_octets = ap with_kept led_kept

  pub led_room : rebuilt_room copied ≡ rebuilt_room led
  unfolding rebuilt_room
  led_room = ap length led_kept

  pub led_length : rebuilt_length copied ≡ rebuilt_length led
  unfolding rebuilt_length
  led_length = ap (λ (k : List ℕ). 20 + length (filled V4 20 k) + length payload) led_kept

  pub led_over : 40 < length (joined xs) → 40 < rebuilt_room led
  unfolding rebuilt_room kept_options packed
  led_over over = omega (arith, over, length-append option (packed V4 (20 + length option) xs), ap length (packed4 (20 + length option) xs))

-- ---- what is written is the packet with the option in place of those of its type

module _ (f : Fields4) (kind : ℕ) (option area : List ℕ) (now : Headers) (hops : ℕ) (fields : (o : Option (List ℕ)) → packet4 f o now.others now.payload ≡ rewritten now o hops) (same : hops ≡ now.hops)
    (others_are : others_in V4 area ≡ now.others) where
  left : List Placed
  left = without_kind kind now.others

  swapped_is : led_by option (packet4 f None left now.payload) ≡ swapped_kind kind option now
  unfolding left
  swapped_is = ap (λ (p : Headers). led_by option (record p { others = left })) (fields None) ∙ ap (λ (n : ℕ). led_by option (record (rewritten now None n) { others = left })) same

  -- what has no room alone
  pub swapped_over : 40 < length (kept_without kind area) → 40 < rebuilt_room (swapped_kind kind option now)
  unfolding left
  swapped_over over =
      subst (λ (p : Headers). 40 < rebuilt_room p) swapped_is
      (led_over f option now.payload left (subst (λ (others : List Placed). 40 < length (joined (without_kind kind others))) others_are over))

  module _ (kept payload : List ℕ) (kept_is : kept ≡ kept_without kind area) (payload_is : payload ≡ now.payload) where
    written_as : packet4 f (Some option) (others_in V4 kept) payload ≡ copied f option now.payload left
    unfolding left
    written_as =
        let others : others_in V4 kept ≡ placed_from 20 (map (λ (o : Placed). o.octets) left) =
        ap (others_in V4) kept_is ∙ (kept_again kind area).others ∙ ap (λ (x : List Placed). placed_from 20 (map (λ (o : Placed). o.octets) (without_kind kind x))) others_are in
        λ i. packet4 f (Some option) (others i) (payload_is i)

    pub swapped_octets : packet_octets (packet4 f (Some option) (others_in V4 kept) payload) ≡ packet_octets (swapped_kind kind option now)
    swapped_octets = ap packet_octets written_as ∙ led_octets f option now.payload left ∙ ap packet_octets swapped_is

    pub swapped_room : rebuilt_room (packet4 f (Some option) (others_in V4 kept) payload) ≡ rebuilt_room (swapped_kind kind option now)
    swapped_room = ap rebuilt_room written_as ∙ led_room f option now.payload left ∙ ap rebuilt_room swapped_is

    pub swapped_length : rebuilt_length (packet4 f (Some option) (others_in V4 kept) payload) ≡ rebuilt_length (swapped_kind kind option now)
    swapped_length = ap rebuilt_length written_as ∙ led_length f option now.payload left ∙ ap rebuilt_length swapped_is

pub kept_whole : (kind : ℕ) (area kept : List ℕ) → kept ≡ kept_without kind area → IsWholeList V4 kept
kept_whole kind area kept is = subst (IsWholeList V4) (sym is) (kept_again kind area).whole
