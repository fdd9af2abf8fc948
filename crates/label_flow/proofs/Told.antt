-- Packets that stand at a number of what was told to be left.
use Rattle.std.proofs.Common.{◌≡◌, ◌≢◌, ℕ, zero, suc, ◌+◌, ◌-◌, ◌*◌, ◌<◌, ◌≤◌, min, ⊎_elim, All, List, [], ◌∷◌, ◌++◌, length, take, drop, Some, None, Option, refl, sym, ◌∙◌, ap, arith, append_assoc, take-take}
use Rattle.std.proofs.lemmas.Bool.{cases_eq}
use Rattle.std.proofs.lemmas.List.{length-append, take-append-drop, length-take, length-drop, length-take-le, take_all}
use Rattle.std.proofs.lemmas.List.Elements.{All-take, All-drop}
use Rattle.std.proofs.Math.Seq.{drop-nil}
use Rattle.captures.specs.declared.packet_in.PacketIn.{PacketIn}
use Rattle.label_flow.specs.Feed.{AreFetched, AreBegun}
use Rattle.label_flow.specs.inside.Work.{part_at}
use Rattle.label_flow.specs.inside.Crew.{IsTold, IsShort, IsAt}

abbrev first_or : PacketIn → List PacketIn → PacketIn
first_or p [] = p
first_or p (x ∷ xs) = x

abbrev behind : List PacketIn → List PacketIn
behind [] = []
behind (x ∷ xs) = xs

pub told_none : (told : Option (List PacketIn)) (n : ℕ) → IsTold told n []
told_none None n = tt
told_none (Some all) n = refl

drop_front : (ps rest : List PacketIn) (n : ℕ) → length ps ≡ n → drop n (ps ++ rest) ≡ rest
drop_front [] rest zero is = refl
drop_front [] rest (suc n) is = absurd (omega (arith, is))
drop_front (p ∷ ps) rest zero is = absurd (omega (arith, is))
drop_front (p ∷ ps) rest (suc n) is = drop_front ps rest n (omega (arith, is))

take_front : (ps rest : List PacketIn) → take (length ps) (ps ++ rest) ≡ ps
take_front [] rest = refl
take_front (p ∷ ps) rest = ap (λ zs. p ∷ zs) (take_front ps rest)

-- the first of such packets stand there too
pub told_take : (told : Option (List PacketIn)) (n m : ℕ) (ps : List PacketIn) → m ≤ length ps → IsTold told n ps → IsTold told n (take m ps)
told_take None n m ps few h = tt
told_take (Some all) n m ps few h =
    let len : length (take m ps) ≡ m = length-take-le m ps few in
    ap (take m) h ∙ take-take m (length ps) (drop n all) few ∙ ap (λ (k : ℕ). take k (drop n all)) (sym len)

front_of : (m : ℕ) (ps xs : List PacketIn) → ps ≡ take (length ps) xs → take m ps ≡ take (length (take m ps)) xs
front_of zero ps xs is = refl
front_of (suc m) [] xs is = refl
front_of (suc m) (p ∷ ps) [] is = absurd (cc (is))
front_of (suc m) (p ∷ ps) (x ∷ xs) is = ap (λ y. y ∷ take m ps) (ap (first_or p) is) ∙ ap (λ zs. x ∷ zs) (front_of m ps xs (ap behind is))

back_of : (at : ℕ) (ps xs : List PacketIn) → at ≤ length ps → ps ≡ take (length ps) xs → drop at ps ≡ take (length (drop at ps)) (drop at xs)
back_of zero ps xs inside is = is
back_of (suc at) [] xs inside is = absurd (omega (arith, inside))
back_of (suc at) (p ∷ ps) [] inside is = absurd (cc (is))
back_of (suc at) (p ∷ ps) (x ∷ xs) inside is = back_of at ps xs (omega (arith, inside)) (ap behind is)

both_of : (ps qs xs : List PacketIn) → ps ≡ take (length ps) xs → qs ≡ take (length qs) (drop (length ps) xs) → ps ++ qs ≡ take (length (ps ++ qs)) xs
both_of [] qs xs is then = then
both_of (p ∷ ps) qs [] is then = absurd (cc (is))
both_of (p ∷ ps) qs (x ∷ xs) is then = ap (λ y. y ∷ (ps ++ qs)) (ap (first_or p) is) ∙ ap (λ zs. x ∷ zs) (both_of ps qs xs (ap behind is) then)

drop_on : (n at : ℕ) (xs : List PacketIn) → drop at (drop n xs) ≡ drop (n + at) xs
drop_on zero at xs = ap (λ (k : ℕ). drop k xs) (omega arith)
drop_on (suc n) at [] = drop-nil at ∙ sym (drop-nil (suc n + at))
drop_on (suc n) at (x ∷ xs) =
    let next : suc (n + at) ≡ suc n + at = omega arith in
    drop_on n at xs ∙ ap (λ (k : ℕ). drop k (x ∷ xs)) next

-- what is cut out of a batch for the part at some place
pub part_cut : (place end : ℕ) (xs : List PacketIn) → end ≡ min (length xs) (place * 128 + 128) → take (end - place * 128) (drop (place * 128) xs) ≡ part_at place xs
part_cut place end xs is = ⊎_elim
    (λ (whole : end - place * 128 ≡ 128). ap (λ (k : ℕ). take k (drop (place * 128) xs)) whole)
    (λ (isnt : end - place * 128 ≢ 128).
    let rest = drop (place * 128) xs in
    take_all (end - place * 128) rest (omega (arith, is, isnt, length-drop (place * 128) xs)) ∙ sym (take_all 128 rest (omega (arith, is, isnt, length-drop (place * 128) xs))))
    (cases_eq (end - place * 128) 128)

pub part_within : (place : ℕ) (xs : List PacketIn) → place * 128 ≤ length xs → place * 128 + length (part_at place xs) ≤ length xs
part_within place xs inside = omega (arith, inside, length-take 128 (drop (place * 128) xs), length-drop (place * 128) xs)

pub part_short : (place : ℕ) (xs : List PacketIn) → All IsShort xs → All IsShort (part_at place xs)
part_short place xs h = All-take IsShort 128 (drop (place * 128) xs) (All-drop IsShort (place * 128) xs h)

-- the part of a batch at some place stands behind the parts before it
pub part_told : (told : Option (List PacketIn)) (n at : ℕ) (ps : List PacketIn) → at * 128 ≤ length ps → IsTold told n ps → IsTold told (n + at * 128) (part_at at ps)
part_told None n at ps inside h = tt
part_told (Some all) n at ps inside h =
    front_of 128 (drop (at * 128) ps) (drop (n + at * 128) all)
    (back_of (at * 128) ps (drop n all) inside h ∙ ap (take (length (drop (at * 128) ps))) (drop_on n (at * 128) all))

-- what stands behind others stands with them where they stand
pub told_append : (told : Option (List PacketIn)) (n : ℕ) (ps qs : List PacketIn) → IsTold told n ps → IsTold told (n + length ps) qs → IsTold told n (ps ++ qs)
told_append None n ps qs h k = tt
told_append (Some all) n ps qs h k = both_of ps qs (drop n all) h (k ∙ ap (take (length qs)) (sym (drop_on n (length ps) all)))

-- the parts up to some place, and the one there
pub parts_more : (place : ℕ) (ps : List PacketIn) → place * 128 < length ps → length (take ((place + 1) * 128) ps) ≡ length (take (place * 128) ps) + length (part_at place ps)
parts_more place ps inside =
    omega (arith, length-take (place * 128) ps, length-take ((place + 1) * 128) ps, length-take 128 (drop (place * 128) ps), length-drop (place * 128) ps)

-- what is left where all agree, and where this batch was fetched
pub batch_told : (told left new : Option (List PacketIn)) (n : ℕ) (batch : List PacketIn) → IsAt told left n → AreFetched left batch new → IsTold told n batch
batch_told None left new n batch h f = tt
batch_told (Some all) None new n batch h f = absurd h.fetched
batch_told (Some all) (Some rest) None n batch h f = absurd f
batch_told (Some all) (Some rest) (Some new) n batch h f =
    let here : drop n all ≡ batch ++ new = ap (drop n) h.fetched ∙ drop_front h.packets rest n h.count_is ∙ f in
    sym (ap (take (length batch)) here ∙ take_front batch new)

pub part_begun : (told left : Option (List PacketIn)) (n : ℕ) (ps : List PacketIn) → IsAt told left n → IsTold told n ps → AreBegun left ps
part_begun told None n ps h t = tt
part_begun None (Some rest) n ps h t = absurd (cc (h.fetched))
part_begun (Some all) (Some rest) n ps h t =
    let here : drop n all ≡ rest = ap (drop n) h.fetched ∙ drop_front h.packets rest n h.count_is in
    (drop (length ps) rest, sym (ap (λ zs. zs ++ drop (length ps) rest) (t ∙ ap (take (length ps)) here) ∙ take-append-drop (length ps) rest))

pub whole_fetched : (told left new : Option (List PacketIn)) (n : ℕ) (batch ps : List PacketIn) → IsAt told left n → AreFetched left batch new → IsTold told n ps → length ps ≡ length batch
    → AreFetched left ps new
whole_fetched told None new n batch ps h f t len = f
whole_fetched None (Some rest) new n batch ps h f t len = absurd (cc (h.fetched))
whole_fetched (Some all) (Some rest) None n batch ps h f t len = absurd f
whole_fetched (Some all) (Some rest) (Some new) n batch ps h f t len =
    let here : drop n all ≡ rest = ap (drop n) h.fetched ∙ drop_front h.packets rest n h.count_is in
    let same : ps ≡ batch = t ∙ ap (λ (k : ℕ). take k (drop n all)) len ∙ ap (take (length batch)) (here ∙ f) ∙ take_front batch new in
    f ∙ ap (λ zs. zs ++ new) (sym same)

pub at_start : (told left : Option (List PacketIn)) → left ≡ told → IsAt told left 0
at_start told left is = record { packets = []; count_is = refl; fetched = start told left is }
  where
    start : (told left : Option (List PacketIn)) → left ≡ told → AreFetched told [] left
    start None left is = is
    start (Some all) None is = absurd (cc (is))
    start (Some all) (Some rest) is = cc (is)

fetched_append : (a b c : Option (List PacketIn)) (ps qs : List PacketIn) → AreFetched a ps b → AreFetched b qs c → AreFetched a (ps ++ qs) c
fetched_append None None c ps qs h k = k
fetched_append None (Some b) c ps qs h k = absurd (cc (h))
fetched_append (Some a) None c ps qs h k = absurd h
fetched_append (Some a) (Some b) None ps qs h k = absurd k
fetched_append (Some a) (Some b) (Some c) ps qs h k = h ∙ ap (λ zs. ps ++ zs) k ∙ sym (append_assoc ps qs c)

pub at_more : (told left new : Option (List PacketIn)) (n : ℕ) (batch : List PacketIn) → IsAt told left n → AreFetched left batch new → IsAt told new (n + length batch)
at_more told left new n batch h f = record {
  packets = h.packets ++ batch;
  count_is = omega (arith, length-append h.packets batch, h.count_is);
  fetched = fetched_append told left new h.packets batch h.fetched f;
}
