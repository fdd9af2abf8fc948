-- A walk over a list of options: one option more.
use Rattle.std.proofs.Common.{◌≡◌, ℕ, ◌+◌, ◌≤◌, Bool, true, false, ◌&&◌, ◌||◌, cond, List, [], ◌∷◌, ◌++◌, length, map, filter, take, drop, Option, Some, None, refl, sym, ap, subst, ◌∙◌, append_assoc, arith, length-drop}
use Rattle.std.specs.Prelude.{slice_get, is_some}
use Rattle.std.specs.Option.{option_map, option_or}
use Rattle.std.specs.Bool.{then_some}
use Rattle.std.specs.Borrow.{Bor}
use Rattle.std.proofs.lemmas.List.{append-nil}
use Rattle.std.proofs.lemmas.List.Elements.{filter-append}
use Rattle.ip_headers.specs.declared.version.Version.{Version}
use Rattle.ip_headers.specs.declared.fault.HeadFault.{HeadFault}
use Rattle.ip_headers.specs.declared.fault.HeadKind.TheVariants.{OptionList}
use Rattle.ip_headers.specs.declared.options.Step.TheVariants as step
use Rattle.ip_headers.specs.declared.options.Found.{Found}
use Rattle.ip_headers.specs.Options.{Placed, Listed, ends_list, is_whole, announced, options_from, is_label, is_jumbo, is_other, aligned, labels_of, has_any}
use Rattle.ip_headers.specs.inside.Walk.{step_of, Finds}
use Rattle.ip_headers.proofs.Lists.{option_size, listed_end, listed_broken, listed_option}

-- ---- what a step says

-- an option of this size stands in front
pub record IsNext (version : Version) (rest : List ℕ) (size : ℕ) : Type 0 where
  pub goes_on : ends_list version rest ≡ false
  pub whole : is_whole version rest ≡ true
  pub size_is : size ≡ announced version rest

pick : (e w : Bool) (n size : ℕ) → cond e step.End (cond w (step.Option n) step.Broken) ≡ step.Option size → (e ≡ false) × (w ≡ true) × (size ≡ n)
pick true w n size h = absurd cc
pick false true n size h = (refl, refl, cc)
pick false false n size h = absurd cc

pub is_next : (version : Version) (rest : List ℕ) (size : ℕ) → step_of version rest ≡ step.Option size → IsNext version rest size
is_next version rest size e = let h = pick (ends_list version rest) (is_whole version rest) (announced version rest) size e in record { goes_on = h.0; whole = h.1; size_is = h.2 }

pub next_size : (version : Version) (rest : List ℕ) (size : ℕ) → step_of version rest ≡ step.Option size → (1 ≤ size) × (size ≤ length rest)
next_size version rest size e =
    let n = is_next version rest size e in
    let s = option_size version rest n.goes_on n.whole in
    (omega (arith, s.0, n.size_is), omega (arith, s.1, n.size_is))

pick_end : (e w : Bool) (n : ℕ) → cond e step.End (cond w (step.Option n) step.Broken) ≡ step.End → e ≡ true
pick_end true w n h = refl
pick_end false true n h = absurd cc
pick_end false false n h = absurd cc

pick_broken : (e w : Bool) (n : ℕ) → cond e step.End (cond w (step.Option n) step.Broken) ≡ step.Broken → (e ≡ false) × (w ≡ false)
pick_broken true w n h = absurd cc
pick_broken false true n h = absurd cc
pick_broken false false n h = (refl, refl)

-- these options, and then a list
abbrev pub behind : List Placed → Listed → Listed
behind past list = record { options = past ++ list.options; broken = list.broken }

-- the options at a place, where a step found one
pub one_more : (version : Version) (place : ℕ) (rest : List ℕ) (size : ℕ) (option after : List ℕ) → step_of version rest ≡ step.Option size → option ≡ take size rest → after ≡ drop size rest
    → options_from version place rest ≡ behind (record { place = place; octets = option } ∷ []) (options_from version (place + size) after)
one_more version place rest size option after e front back =
    let n = is_next version rest size e in
    listed_option version place rest n.goes_on n.whole
    ∙ (λ i. behind (record { place = place; octets = (ap (λ (k : ℕ). take k rest) (sym n.size_is) ∙ sym front) i } ∷ []) (options_from version (place + sym n.size_is i) ((ap (λ (k : ℕ). drop k rest) (sym n.size_is) ∙ sym back) i)))

pub at_end : (version : Version) (place : ℕ) (rest : List ℕ) → step_of version rest ≡ step.End → options_from version place rest ≡ record { options = []; broken = None }
at_end version place rest e = listed_end version place rest (pick_end (ends_list version rest) (is_whole version rest) (announced version rest) e)

pub at_broken : (version : Version) (place : ℕ) (rest : List ℕ) → step_of version rest ≡ step.Broken → options_from version place rest ≡ record { options = []; broken = Some (record { octet = place + 1; kind = OptionList }) }
at_broken version place rest e = let h = pick_broken (ends_list version rest) (is_whole version rest) (announced version rest) e in listed_broken version place rest h.0 h.1

-- ---- what was found, with one option more

option_map-or : {X Y : Type 0} (h : X → Y) (a : Option X) (b : Bool) (x : X) → option_map h (option_or a (then_some b x)) ≡ option_or (option_map h a) (then_some b (h x))
option_map-or h None true x = refl
option_map-or h None false x = refl
option_map-or h (Some y) b x = refl

pub is_some-map : {X Y : Type 0} (h : X → Y) (a : Option X) → is_some (option_map h a) ≡ is_some a
is_some-map h None = refl
is_some-map h (Some x) = refl

get-0-push : {X : Type 0} (xs : List X) (b : Bool) (x : X) → slice_get (xs ++ cond b (x ∷ []) []) 0 ≡ option_or (slice_get xs 0) (then_some b x)
get-0-push [] true x = refl
get-0-push [] false x = refl
get-0-push (y ∷ xs) b x = refl

get-1-push : {X : Type 0} (xs : List X) (b : Bool) (x : X) → slice_get (xs ++ cond b (x ∷ []) []) 1 ≡ option_or (slice_get xs 1) (then_some (b && is_some (slice_get xs 0)) x)
get-1-push [] true x = refl
get-1-push [] false x = refl
get-1-push (y ∷ []) true x = refl
get-1-push (y ∷ []) false x = refl
get-1-push (y ∷ z ∷ xs) b x = refl

any-push : (h : Placed → Placed) (xs : List Placed) (b : Bool) (x : Placed) → has_any (map h (xs ++ cond b (x ∷ []) [])) ≡ has_any (map h xs) || b
any-push h [] true x = refl
any-push h [] false x = refl
any-push h (y ∷ xs) b x = refl

pub Finds-push : (version : Version) (options : List Placed) (found new : Found) (at : ℕ) (option : Bor (List ℕ)) (bl bs bj bo : Bool)
    → Finds version options found
    → bl ≡ is_label version (record { place = at; octets = option.now }) → bs ≡ bl && is_some found.label
    → bj ≡ is_jumbo version (record { place = at; octets = option.now }) → bo ≡ is_other version (record { place = at; octets = option.now })
    → new.label ≡ option_or found.label (then_some bl (at, option)) → new.second ≡ option_or found.second (then_some bs at)
    → new.jumbo ≡ option_or found.jumbo (then_some bj at) → new.has_others ≡ found.has_others || bo
    → Finds version (options ++ record { place = at; octets = option.now } ∷ []) new
Finds-push version options found new at option bl bs bj bo f il is ij io label_is second_is jumbo_is others_is =
    let p : Placed = record { place = at; octets = option.now } in
    let ls = labels_of version options in
    let js = filter (is_jumbo version) options in
    let seen : is_some found.label ≡ is_some (slice_get ls 0) = sym (is_some-map (λ (x : ℕ × Bor (List ℕ)). let q : Placed = record { place = x.0; octets = x.1.now } in q) found.label) ∙ ap (λ (o : Option Placed). is_some o) f.label in
    record {
      label = rw label_is (option_map-or (λ (x : ℕ × Bor (List ℕ)). let q : Placed = record { place = x.0; octets = x.1.now } in q) found.label bl (at, option)
          ∙ rw (f.label, il) (sym (get-0-push ls (is_label version p) p) ∙ ap (λ (x : List Placed). slice_get x 0) (sym (filter-append (is_label version) options (p ∷ [])))));
      second = rw (second_is, f.second, is, seen, il) (sym (option_map-or (λ (o : Placed). o.place) (slice_get ls 1) (is_label version p && is_some (slice_get ls 0)) p)
          ∙ ap (option_map (λ (o : Placed). o.place)) (sym (get-1-push ls (is_label version p) p) ∙ ap (λ (x : List Placed). slice_get x 1) (sym (filter-append (is_label version) options (p ∷ [])))));
      jumbo = rw (jumbo_is, f.jumbo, ij) (sym (option_map-or (λ (o : Placed). o.place) (slice_get js 0) (is_jumbo version p) p)
          ∙ ap (option_map (λ (o : Placed). o.place)) (sym (get-0-push js (is_jumbo version p) p) ∙ ap (λ (x : List Placed). slice_get x 0) (sym (filter-append (is_jumbo version) options (p ∷ [])))));
      others = rw (others_is, f.others, io) (sym (any-push (aligned version) (filter (is_other version) options) (is_other version p) p)
          ∙ ap (λ (x : List Placed). has_any (map (aligned version) x)) (sym (filter-append (is_other version) options (p ∷ []))));
    }

-- ---- the walk

-- the walk so far: these options were passed, and what was found in them
pub record IsSoFar (version : Version) (area : List ℕ) (first : ℕ) (found : Found) (at : ℕ) (rest : List ℕ) : Type 0 where
  pub past : List Placed
  pub finds : Finds version past found
  pub goes : options_from version first area ≡ behind past (options_from version at rest)
  pub place : at + length rest ≡ first + length area

pub IsSoFar-more : (version : Version) (area : List ℕ) (first : ℕ) (found : Found) (at : ℕ) (rest : List ℕ) (size : ℕ) (option after : List ℕ) (new : Found)
    → IsSoFar version area first found at rest → step_of version rest ≡ step.Option size → option ≡ take size rest → after ≡ drop size rest
    → ((options : List Placed) → Finds version options found → Finds version (options ++ record { place = at; octets = option } ∷ []) new)
    → IsSoFar version area first new (at + size) after
IsSoFar-more version area first found at rest size option after new so_far e front back finds =
    let p : Placed = record { place = at; octets = option } in
    let more = options_from version (at + size) after in
    record {
      past = so_far.past ++ p ∷ [];
      finds = finds so_far.past so_far.finds;
      goes = so_far.goes ∙ ap (behind so_far.past) (one_more version at rest size option after e front back) ∙ (λ i. record { options = sym (append_assoc so_far.past (p ∷ []) more.options) i; broken = more.broken });
      place = omega (arith, so_far.place, next_size version rest size e, ap length back, length-drop size rest);
    }

-- where it ends
pub walked : (version : Version) (area : List ℕ) (first : ℕ) (found : Found) (at : ℕ) (rest : List ℕ) → IsSoFar version area first found at rest → step_of version rest ≡ step.End
    → ((options_from version first area).broken ≡ None) × Finds version (options_from version first area).options found
walked version area first found at rest so_far e =
    let all : options_from version first area ≡ record { options = so_far.past; broken = None } =
    so_far.goes ∙ ap (behind so_far.past) (at_end version at rest e) ∙ (λ i. record { options = append-nil so_far.past i; broken = None }) in
    (ap (λ (l : Listed). l.broken) all, subst (λ (l : Listed). Finds version l.options found) (sym all) so_far.finds)

pub breaks : (version : Version) (area : List ℕ) (first : ℕ) (found : Found) (at : ℕ) (rest : List ℕ) (f : HeadFault) → IsSoFar version area first found at rest → step_of version rest ≡ step.Broken
    → f ≡ record { octet = at + 1; kind = OptionList } → (options_from version first area).broken ≡ Some f
breaks version area first found at rest f so_far e is =
    ap (λ (l : Listed). l.broken) so_far.goes ∙ ap (λ (l : Listed). l.broken) (at_broken version at rest e) ∙ ap Some (sym is)
