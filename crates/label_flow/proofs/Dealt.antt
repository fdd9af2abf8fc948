-- The looks of workers, and the packets that they are for.
use Rattle.std.proofs.Common.{◌≡◌, ⊎_elim, ℕ, ◌+◌, ◌<◌, ◌%◌, Bool, true, false, List, [], ◌∷◌, ◌++◌, length, nat_eq, cond, refl, sym, ◌∙◌, ap, arith}
use Rattle.std.specs.List.{AllZip}
use Rattle.std.proofs.lemmas.Bool.{cases_eq}
use Rattle.std.proofs.lemmas.Bool.Decides.{nat_tests}
use Rattle.std.proofs.lemmas.Nat.{mod_below}
use Rattle.label_commands.specs.declared.flow_lines.hop.Hop.{Hop}
use Rattle.shared_tables.specs.Plan.{PlanState}
use Rattle.captures.specs.declared.packet_in.PacketIn.{PacketIn}
use Rattle.label_flow.specs.Round.{pick}
use Rattle.label_flow.specs.Schedule.{IsSeen, AreJudged, in_a_row, left_to}

-- each of these packets has its versions
abbrev pub AreSeen : PlanState → List Hop → List PacketIn → List (List ℕ) → Type 0
AreSeen plan hops packets seen = AllZip (IsSeen plan hops) packets seen

same : (n : ℕ) → nat_eq n n ≡ true
same n = grind (arith, nat_tests)

-- ---- of one worker, and of all

mine : (b : Bool) (versions rest here : List ℕ) (later : List (List ℕ)) → b ≡ true → here ≡ versions ++ rest → cond b rest here ≡ in_a_row later → here ≡ in_a_row (cond b (versions ∷ later) later)
mine true versions rest here later is front behind = front ∙ ap (λ (vs : List ℕ). versions ++ vs) behind
mine false versions rest here later is front behind = absurd cc

other : (b : Bool) (versions rest here : List ℕ) (later : List (List ℕ)) → b ≡ false → cond b rest here ≡ in_a_row later → here ≡ in_a_row (cond b (versions ∷ later) later)
other true versions rest here later is behind = absurd cc
other false versions rest here later is behind = behind

mine_left : (b : Bool) (versions here : List ℕ) (later : List (List ℕ)) → b ≡ true → cond b (in_a_row later) here ≡ in_a_row later
mine_left true versions here later is = refl
mine_left false versions here later is = absurd cc

other_left : (b : Bool) (versions rest here : List ℕ) (later : List (List ℕ)) → b ≡ false → here ≡ in_a_row (cond b (versions ∷ later) later) → cond b rest here ≡ in_a_row later
other_left true versions rest here later is all = absurd cc
other_left false versions rest here later is all = all

in_front : (b : Bool) (versions here : List ℕ) (later : List (List ℕ)) → b ≡ true → here ≡ in_a_row (cond b (versions ∷ later) later) → here ≡ versions ++ in_a_row later
in_front true versions here later is all = all
in_front false versions here later is all = absurd cc

-- ---- what workers find goes to their packets

pub rows_are : (plan : PlanState) (hops : List Hop) (w n : ℕ) (ps : List PacketIn) (looks : ℕ → List ℕ) (seen : List (List ℕ)) → AreJudged plan hops w n ps looks seen
    → (k : ℕ) → looks k ≡ in_a_row (pick k w n seen)
rows_are plan hops w n [] looks [] h k = h k
rows_are plan hops w n [] looks (vs ∷ seen) h k = absurd h
rows_are plan hops w n (p ∷ ps) looks [] h k = absurd h
rows_are plan hops w n (p ∷ ps) looks (vs ∷ seen) h k =
    let behind = rows_are plan hops w (n + 1) ps (left_to (n % w) h.0 looks) seen h.3 k in
    let later = pick k w (n + 1) seen in
    ⊎_elim (λ (is : n % w ≡ k). let front : looks k ≡ vs ++ h.0 = ap looks (sym is) ∙ h.1 in
    mine (nat_eq (n % w) k) vs h.0 (looks k) later (grind (arith, nat_tests)) front behind)
    (λ (isnt : n % w ≡ k → ⊥). other (nat_eq (n % w) k) vs h.0 (looks k) later (grind (arith, nat_tests)) behind)
    (cases_eq (n % w) k)

pub each_seen : (plan : PlanState) (hops : List Hop) (w n : ℕ) (ps : List PacketIn) (looks : ℕ → List ℕ) (seen : List (List ℕ)) → AreJudged plan hops w n ps looks seen → AreSeen plan hops ps seen
each_seen plan hops w n [] looks [] h = tt
each_seen plan hops w n [] looks (vs ∷ seen) h = absurd h
each_seen plan hops w n (p ∷ ps) looks [] h = absurd h
each_seen plan hops w n (p ∷ ps) looks (vs ∷ seen) h = (h.2, each_seen plan hops w (n + 1) ps (left_to (n % w) h.0 looks) seen h.3)

pub judged_by : (plan : PlanState) (hops : List Hop) (w n : ℕ) (ps : List PacketIn) (looks : ℕ → List ℕ) (seen : List (List ℕ)) → AreSeen plan hops ps seen
    → ((k : ℕ) → looks k ≡ in_a_row (pick k w n seen)) → AreJudged plan hops w n ps looks seen
judged_by plan hops w n [] looks [] x rows = rows
judged_by plan hops w n [] looks (vs ∷ seen) x rows = absurd x
judged_by plan hops w n (p ∷ ps) looks [] x rows = absurd x
judged_by plan hops w n (p ∷ ps) looks (vs ∷ seen) x rows =
    let now = n % w in
    let rest = in_a_row (pick now w (n + 1) seen) in
    let behind : (k : ℕ) → left_to now rest looks k ≡ in_a_row (pick k w (n + 1) seen) = λ k.
    ⊎_elim (λ (is : now ≡ k). ap (λ (j : ℕ). cond (nat_eq now k) (in_a_row (pick j w (n + 1) seen)) (looks k)) is ∙ mine_left (nat_eq now k) vs (looks k) (pick k w (n + 1) seen) (grind (arith, nat_tests)))
    (λ (isnt : now ≡ k → ⊥). other_left (nat_eq now k) vs rest (looks k) (pick k w (n + 1) seen) (grind (arith, nat_tests)) (rows k))
    (cases_eq now k) in
    (rest, in_front (nat_eq now now) vs (looks now) (pick now w (n + 1) seen) (same now) (rows now), x.0, judged_by plan hops w (n + 1) ps (left_to now rest looks) seen x.1 behind)

-- ---- the packets of each worker, and all packets

pub as_many : (plan : PlanState) (hops : List Hop) (ps : List PacketIn) (seen : List (List ℕ)) → AreSeen plan hops ps seen → length seen ≡ length ps
as_many plan hops [] [] x = refl
as_many plan hops [] (vs ∷ seen) x = absurd x
as_many plan hops (p ∷ ps) [] x = absurd x
as_many plan hops (p ∷ ps) (vs ∷ seen) x = omega (arith, as_many plan hops ps seen x.1)

pub seen_of : (plan : PlanState) (hops : List Hop) (k w n : ℕ) (ps : List PacketIn) (seen : List (List ℕ)) → AreSeen plan hops ps seen → AreSeen plan hops (pick k w n ps) (pick k w n seen)
seen_of plan hops k w n [] [] x = tt
seen_of plan hops k w n [] (vs ∷ seen) x = absurd x
seen_of plan hops k w n (p ∷ ps) [] x = absurd x
seen_of plan hops k w n (p ∷ ps) (vs ∷ seen) x =
    let more = seen_of plan hops k w (n + 1) ps seen x.1 in
    elim (nat_eq (n % w) k) as (λ b. AreSeen plan hops (cond b (p ∷ pick k w (n + 1) ps) (pick k w (n + 1) ps)) (cond b (vs ∷ pick k w (n + 1) seen) (pick k w (n + 1) seen))) [ true ↦ (x.0, more) | false ↦ more ]

seen_here : (plan : PlanState) (hops : List Hop) (b : Bool) (p : PacketIn) (ps qs : List PacketIn) (vs : List ℕ) (xs ys : List (List ℕ)) → b ≡ true → AreSeen plan hops (cond b (p ∷ ps) qs) (cond b (vs ∷ xs) ys) → IsSeen plan hops p vs
seen_here plan hops true p ps qs vs xs ys is x = x.0
seen_here plan hops false p ps qs vs xs ys is x = absurd cc

seen_behind : (plan : PlanState) (hops : List Hop) (b : Bool) (p : PacketIn) (ps : List PacketIn) (vs : List ℕ) (xs : List (List ℕ)) → AreSeen plan hops (cond b (p ∷ ps) ps) (cond b (vs ∷ xs) xs) → AreSeen plan hops ps xs
seen_behind plan hops true p ps vs xs x = x.1
seen_behind plan hops false p ps vs xs x = x

pub all_seen : (plan : PlanState) (hops : List Hop) (w n : ℕ) (ps : List PacketIn) (seen : List (List ℕ)) → 0 < w → length seen ≡ length ps
    → ((k : ℕ) → k < w → AreSeen plan hops (pick k w n ps) (pick k w n seen)) → AreSeen plan hops ps seen
all_seen plan hops w n [] [] some count each = tt
all_seen plan hops w n [] (vs ∷ seen) some count each = absurd (omega (arith, count))
all_seen plan hops w n (p ∷ ps) [] some count each = absurd (omega (arith, count))
all_seen plan hops w n (p ∷ ps) (vs ∷ seen) some count each =
    let now = n % w in (
      seen_here plan hops (nat_eq now now) p (pick now w (n + 1) ps) (pick now w (n + 1) ps) vs (pick now w (n + 1) seen) (pick now w (n + 1) seen) (same now) (each now (mod_below n w some)),
      all_seen plan hops w (n + 1) ps seen some (omega (arith, count)) (λ k less. seen_behind plan hops (nat_eq now k) p (pick k w (n + 1) ps) vs (pick k w (n + 1) seen) (each k less)),
    )
