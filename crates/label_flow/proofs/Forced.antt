-- Where no step comes beside a flow, its packets have one list of versions.
use Rattle.std.proofs.Common.{◌≡◌, ℕ, ◌+◌, ◌<◌, ◌≤◌, ◌%◌, Bool, true, false, List, [], ◌∷◌, ◌++◌, All, nat_eq, cond, refl, sym, ◌∙◌, ap, subst, le_trans, arith, append_assoc}
use Rattle.std.proofs.lemmas.Bool.Decides.{nat_tests}
use Rattle.std.proofs.lemmas.List.{append-nil}
use Rattle.std.proofs.lemmas.List.Elements.{All-nil, All-cons, All-head, All-tail, All-append}
use Rattle.std.proofs.lemmas.Nat.{mod_below}
use Rattle.label_commands.specs.declared.flow_lines.hop.Hop.{Hop}
use Rattle.shared_tables.specs.Plan.{PlanState}
use Rattle.captures.specs.declared.packet_in.PacketIn.{PacketIn}
use Rattle.label_flow.specs.packet_walk.Walk.{Rises}
use Rattle.label_flow.proofs.packet_walk.Law.{walks_are_cut_in_one_way}
use Rattle.label_flow.specs.Round.{pick}
use Rattle.label_flow.specs.Schedule.{in_a_row, AreLawful}
use Rattle.label_flow.proofs.Dealt.{AreSeen, all_seen}
use Rattle.label_flow.proofs.EachWalk.{cons_same}

same : (n : ℕ) → nat_eq n n ≡ true
same n = grind (arith, nat_tests)

-- ---- versions that are all one

abbrev Are : ℕ → List ℕ → Type 0
Are v xs = All (λ x. x ≡ v) xs

-- numbers that rise from one to the same
level : (v x : ℕ) (xs : List ℕ) → v ≤ x → Rises x v xs → (x ≡ v) × Are v xs
level v x [] low h = (omega (arith, low, h), All-nil (λ (y : ℕ). y ≡ v))
level v x (y ∷ xs) low h =
    let behind = level v y xs (le_trans low h.0) h.1 in
    (omega (arith, low, h.0, behind.0), All-cons (λ (z : ℕ). z ≡ v) y xs behind.0 behind.1)

front_of : (v : ℕ) (xs ys : List ℕ) → Are v (xs ++ ys) → Are v xs
front_of v [] ys all = All-nil (λ (x : ℕ). x ≡ v)
front_of v (x ∷ xs) ys all =
    let P = λ (y : ℕ). y ≡ v in
    All-cons P x xs (All-head P x (xs ++ ys) all) (front_of v xs ys (All-tail P x (xs ++ ys) all))

behind_of : (v : ℕ) (xs ys : List ℕ) → Are v (xs ++ ys) → Are v ys
behind_of v [] ys all = all
behind_of v (x ∷ xs) ys all = behind_of v xs ys (All-tail (λ (y : ℕ). y ≡ v) x (xs ++ ys) all)

-- one more in front is one more behind
moved : (v : ℕ) (xs : List ℕ) → Are v xs → v ∷ xs ≡ xs ++ v ∷ []
moved v [] all = refl
moved v (x ∷ xs) all =
    let P = λ (y : ℕ). y ≡ v in
    let first : x ≡ v = All-head P x xs all in
    cons_same (sym first) (cons_same first refl ∙ moved v xs (All-tail P x xs all))

swapped : (v : ℕ) (xs ys : List ℕ) → Are v xs → Are v ys → xs ++ ys ≡ ys ++ xs
swapped v [] ys a b = sym (append-nil ys)
swapped v (x ∷ xs) ys a b =
    let P = λ (y : ℕ). y ≡ v in
    let first : x ≡ v = All-head P x xs a in
    let rest : xs ++ ys ≡ ys ++ xs = swapped v xs ys (All-tail P x xs a) b in
    let here : x ∷ ys ≡ ys ++ x ∷ [] = subst (λ (n : ℕ). n ∷ ys ≡ ys ++ n ∷ []) (sym first) (moved v ys b) in
    cons_same refl rest ∙ ap (λ (t : List ℕ). t ++ xs) here ∙ append_assoc ys (x ∷ []) xs

-- packets that are judged under one version have one list of versions
row_forced : (plan : PlanState) (hops : List Hop) (v : ℕ) (ps : List PacketIn) (xs ys : List (List ℕ)) → AreSeen plan hops ps xs → AreSeen plan hops ps ys → Are v (in_a_row xs) → Are v (in_a_row ys) → xs ≡ ys
row_forced plan hops v [] [] [] x y a b = refl
row_forced plan hops v [] [] (d ∷ ys) x y a b = absurd y
row_forced plan hops v [] (c ∷ xs) ys x y a b = absurd x
row_forced plan hops v (p ∷ ps) [] ys x y a b = absurd x
row_forced plan hops v (p ∷ ps) (c ∷ xs) [] x y a b = absurd y
row_forced plan hops v (p ∷ ps) (c ∷ xs) (d ∷ ys) x y a b =
    cons_same
    (walks_are_cut_in_one_way plan hops p c d d c x.0.0 y.0.0 x.0.1 y.0.1 (swapped v c d (front_of v c (in_a_row xs) a) (front_of v d (in_a_row ys) b)) x.0.2 y.0.2)
    (row_forced plan hops v ps xs ys x.1 y.1 (behind_of v c (in_a_row xs) a) (behind_of v d (in_a_row ys) b))

-- ---- what each worker's versions are, all are

level_here : (v : ℕ) (b : Bool) (x : List ℕ) (xs : List (List ℕ)) → b ≡ true → Are v (in_a_row (cond b (x ∷ xs) xs)) → Are v x
level_here v true x xs is all = front_of v x (in_a_row xs) all
level_here v false x xs is all = absurd cc

level_behind : (v : ℕ) (b : Bool) (x : List ℕ) (xs : List (List ℕ)) → Are v (in_a_row (cond b (x ∷ xs) xs)) → Are v (in_a_row xs)
level_behind v true x xs all = behind_of v x (in_a_row xs) all
level_behind v false x xs all = all

each_level : (v w n : ℕ) (xs : List (List ℕ)) → 0 < w → ((k : ℕ) → k < w → Are v (in_a_row (pick k w n xs))) → Are v (in_a_row xs)
each_level v w n [] some each = All-nil (λ (x : ℕ). x ≡ v)
each_level v w n (x ∷ xs) some each =
    All-append (λ (y : ℕ). y ≡ v) x (in_a_row xs)
    (level_here v (nat_eq (n % w) (n % w)) x (pick (n % w) w (n + 1) xs) (same (n % w)) (each (n % w) (mod_below n w some)))
    (each_level v w (n + 1) xs some (λ k less. level_behind v (nat_eq (n % w) k) x (pick k w (n + 1) xs) (each k less)))

-- ---- the law

module _ (plan : PlanState) (hops : List Hop) (w v : ℕ) (packets : List PacketIn) (seen : List (List ℕ)) (some : 0 < w) (lawful : AreLawful plan hops w v v packets seen) where
  seen_all : AreSeen plan hops packets seen
  seen_all = all_seen plan hops w 0 packets seen some lawful.count lawful.walks

  all_level : Are v (in_a_row seen)
  all_level = each_level v w 0 seen some (λ k less. (level v v (in_a_row (pick k w 0 seen)) (omega arith) (lawful.rises k less)).1)

pub forced : (plan : PlanState) (hops : List Hop) (w w' v : ℕ) (packets : List PacketIn) (seen seen' : List (List ℕ)) → 0 < w → 0 < w' → AreLawful plan hops w v v packets seen → AreLawful plan hops w' v v packets seen'
    → seen ≡ seen'
forced plan hops w w' v packets seen seen' some some' x y =
    row_forced plan hops v packets seen seen' (seen_all plan hops w v packets seen some x) (seen_all plan hops w' v packets seen' some' y) (all_level plan hops w v packets seen some x) (all_level plan hops w' v packets seen' some' y)
