-- Versions along each worker's packets, packet by packet.
use Rattle.std.proofs.Common.{◌≡◌, ◌<◌, ◌≤◌, ℕ, ◌+◌, ◌%◌, Bool, true, false, cond, nat_eq, List, [], ◌∷◌, ◌++◌, refl, sym, subst, arith, le_trans}
use Rattle.std.specs.List.{AllZip}
use Rattle.std.proofs.lemmas.Bool.Decides.{nat_tests}
use Rattle.std.proofs.lemmas.Nat.{mod_below}
use Rattle.label_commands.specs.declared.flow_lines.hop.Hop.{Hop}
use Rattle.shared_tables.specs.Plan.{PlanState}
use Rattle.captures.specs.declared.packet_in.PacketIn.{PacketIn}
use Rattle.label_flow.specs.packet_walk.Walk.{IsWalkOf, Rises}
use Rattle.label_flow.specs.Pair.{PairState}
use Rattle.label_flow.specs.Schedule.{IsSeen, in_a_row, versions_in}
use Rattle.label_flow.specs.Round.{pick}
use Rattle.label_audit.specs.inside.Grammar.{last_met, meets_now}

-- ---- one list behind another

pub rises_end : (low high : ℕ) (vs : List ℕ) → Rises low high vs → low ≤ high
rises_end low high [] h = h
rises_end low high (v ∷ vs) h = le_trans h.0 (rises_end v high vs h.1)

pub last_within : (low high : ℕ) (vs : List ℕ) → Rises low high vs → last_met low vs ≤ high
last_within low high [] h = h
last_within low high (v ∷ vs) h = last_within v high vs h.1

rises_first : (low high : ℕ) (vs row : List ℕ) → Rises low high (vs ++ row) → Rises low high vs
rises_first low high [] row h = rises_end low high row h
rises_first low high (v ∷ vs) row h = (h.0, rises_first v high vs row h.1)

rises_rest : (low high : ℕ) (vs row : List ℕ) → Rises low high (vs ++ row) → Rises (last_met low vs) high row
rises_rest low high [] row h = h
rises_rest low high (v ∷ vs) row h = rises_rest v high vs row h.1

rises_both : (low high : ℕ) (vs row : List ℕ) → Rises low high vs → Rises (last_met low vs) high row → Rises low high (vs ++ row)
rises_both low high [] row h r = r
rises_both low high (v ∷ vs) row h r = (h.0, rises_both v high vs row h.1 r)

-- ---- the rows of all workers

-- each worker's versions rise from what it has met
abbrev pub RowsRise : ℕ → ℕ → ℕ → (ℕ → ℕ) → List (List ℕ) → Type 0
RowsRise w after n met seen = (k : ℕ) → k < w → Rises (met k) after (in_a_row (pick k w n seen))

same_worker : (j k : ℕ) → nat_eq j k ≡ true → j ≡ k
same_worker j k is = grind (arith, nat_tests)

module _ (w after n : ℕ) (met : ℕ → ℕ) (versions : List ℕ) (seen : List (List ℕ)) (some : 0 < w) where
  abbrev worker : ℕ
  worker = n % w

  abbrev pub met_then : ℕ → ℕ
  met_then = meets_now met worker (last_met (met worker) versions)

  abbrev Row : ℕ → Bool → Type 0
  Row k mine = Rises (met k) after (in_a_row (cond mine (versions ∷ pick k w (n + 1) seen) (pick k w (n + 1) seen)))

  abbrev Rest : ℕ → Bool → Type 0
  Rest k mine = Rises (cond mine (last_met (met worker) versions) (met k)) after (in_a_row (pick k w (n + 1) seen))

  rest_by : (k : ℕ) (mine : Bool) → nat_eq worker k ≡ mine → Row k mine → Rest k mine
  rest_by k true is h =
      subst (λ (m : ℕ). Rises (last_met (met m) versions) after (in_a_row (pick k w (n + 1) seen))) (sym (same_worker worker k is))
      (rises_rest (met k) after versions (in_a_row (pick k w (n + 1) seen)) h)
  rest_by k false is h = h

  row_by : (k : ℕ) (mine : Bool) → nat_eq worker k ≡ mine → Rises (met worker) after versions → Rest k mine → Row k mine
  row_by k true is first h =
      let same = same_worker worker k is in
      rises_both (met k) after versions (in_a_row (pick k w (n + 1) seen)) (subst (λ (m : ℕ). Rises (met m) after versions) same first)
      (subst (λ (m : ℕ). Rises (last_met (met m) versions) after (in_a_row (pick k w (n + 1) seen))) same h)
  row_by k false is first h = h

  pub rows_first : RowsRise w after n met (versions ∷ seen) → Rises (met worker) after versions
  rows_first h =
      let mine : nat_eq worker worker ≡ true = grind (arith, nat_tests) in
      rises_first (met worker) after versions (in_a_row (pick worker w (n + 1) seen)) (subst (Row worker) mine (h worker (mod_below n w some)))

  pub rows_rest : RowsRise w after n met (versions ∷ seen) → RowsRise w after (n + 1) met_then seen
  rows_rest h k less = rest_by k (nat_eq worker k) refl (h k less)

  pub rows_more : Rises (met worker) after versions → RowsRise w after (n + 1) met_then seen → RowsRise w after n met (versions ∷ seen)
  rows_more first h k less = row_by k (nat_eq worker k) refl first (h k less)

  -- what was met last is no later than the last version
  pub met_within : ((k : ℕ) → k < w → met k ≤ after) → Rises (met worker) after versions → (k : ℕ) → k < w → met_then k ≤ after
  met_within low first k less = by (nat_eq worker k) where
    by : (mine : Bool) → cond mine (last_met (met worker) versions) (met k) ≤ after
    by true = last_within (met worker) after versions first
    by false = low k less

-- ---- walks of picked packets

pub seen_each : (plan : PlanState) (hops : List Hop) (packets : List PacketIn) (pairs : List PairState)
    → AllZip (λ (packet : PacketIn) (pair : PairState). IsWalkOf plan hops packet pair.walked.versions pair.walked.end pair.octets) packets pairs → AllZip (IsSeen plan hops) packets (versions_in pairs)
seen_each plan hops [] [] all = tt
seen_each plan hops [] (pair ∷ pairs) all = absurd all
seen_each plan hops (packet ∷ packets) [] all = absurd all
seen_each plan hops (packet ∷ packets) (pair ∷ pairs) all = ((pair.walked.end, pair.octets, all.0), seen_each plan hops packets pairs all.1)

pub picked_each : {A B : Type 0} (R : A → B → Type 0) (k w n : ℕ) (xs : List A) (ys : List B) → AllZip R xs ys → AllZip R (pick k w n xs) (pick k w n ys)
picked_each R k w n [] [] all = tt
picked_each R k w n [] (y ∷ ys) all = absurd all
picked_each R k w n (x ∷ xs) [] all = absurd all
picked_each {A} {B} R k w n (x ∷ xs) (y ∷ ys) all =
    let rest = picked_each R k w (n + 1) xs ys all.1 in
    elim (nat_eq (n % w) k) as (λ mine. AllZip R (cond mine (x ∷ pick k w (n + 1) xs) (pick k w (n + 1) xs)) (cond mine (y ∷ pick k w (n + 1) ys) (pick k w (n + 1) ys))) [
      | true ↦ (all.0, rest)
      | false ↦ rest
    ]
