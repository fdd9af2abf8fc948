-- Versions that a schedule gives, and the schedule of given versions.
use Rattle.std.proofs.Common.{◌≡◌, ◌≢◌, ⊎_elim, ℕ, zero, suc, ◌+◌, ◌-◌, ◌<◌, ◌≤◌, ◌%◌, true, false, List, [], ◌∷◌, ◌++◌, replicate, nat_eq, nat_le, cond, refl, sym, ◌∙◌, ap, subst, le_refl, le_trans, arith, append-nil, add-zero}
use Rattle.std.proofs.Math.Nat.{eq-or-lt_of_le}
use Rattle.std.proofs.lemmas.Bool.{cases_lt}
use Rattle.std.proofs.lemmas.Bool.Decides.{nat_tests}
use Rattle.std.proofs.lemmas.Nat.{mod_below}
use Rattle.label_commands.specs.declared.flow_lines.hop.Hop.{Hop}
use Rattle.shared_tables.specs.Plan.{PlanState}
use Rattle.captures.specs.declared.packet_in.PacketIn.{PacketIn}
use Rattle.label_flow.specs.packet_walk.Walk.{Rises}
use Rattle.label_flow.specs.Round.{pick}
use Rattle.label_flow.specs.Schedule.{FlowEvent, step, look, looks_of, steps_in, in_a_row, AreLawful, IsPlay, times, looks_at, by_version, rows_by}
use Rattle.label_flow.proofs.Rising.{rises_lower, rises_later}
use Rattle.label_flow.proofs.Dealt.{AreSeen, rows_are, each_seen, judged_by, as_many, seen_of, all_seen}

-- what a worker finds doesn't fall
looks_rise : (k v : ℕ) (events : List FlowEvent) → Rises v (v + steps_in events) (looks_of k v events)
looks_rise k v [] = omega arith
looks_rise k v (step ∷ events) =
    let h : Rises (v + 1) (v + 1 + steps_in events) (looks_of k (v + 1) events) = looks_rise k (v + 1) events in
    let same : v + 1 + steps_in events ≡ v + suc (steps_in events) = omega arith in
    rises_lower v (v + 1) (v + suc (steps_in events)) (looks_of k (v + 1) events) (omega arith) (subst (λ (n : ℕ). Rises (v + 1) n (looks_of k (v + 1) events)) same h)
looks_rise k v (look worker ∷ events) =
    let h = looks_rise k v events in
    elim (nat_eq worker k) as (λ b. Rises v (v + steps_in events) (cond b (v ∷ looks_of k v events) (looks_of k v events))) [ true ↦ (le_refl v, h) | false ↦ h ]

pub is_lawful : (plan : PlanState) (hops : List Hop) (w before after : ℕ) (packets : List PacketIn) (events : List FlowEvent) (seen : List (List ℕ)) → IsPlay plan hops w before after packets events seen
    → AreLawful plan hops w before after packets seen
is_lawful plan hops w before after packets events seen h =
    let found : ℕ → List ℕ = λ k. looks_of k before events in
    let all : AreSeen plan hops packets seen = each_seen plan hops w 0 packets found seen h.judged in
    record {
      count = as_many plan hops packets seen all;
      walks = λ k less. seen_of plan hops k w 0 packets seen all;
      rises = λ k less.
          subst (λ (vs : List ℕ). Rises before after vs) (rows_are plan hops w 0 packets found seen h.judged k)
          (subst (λ (n : ℕ). Rises before n (looks_of k before events)) h.steps (looks_rise k before events));
    }

looks_append : (k v : ℕ) (xs ys : List FlowEvent) → looks_of k v (xs ++ ys) ≡ looks_of k v xs ++ looks_of k (v + steps_in xs) ys
looks_append k v [] ys = ap (λ n. looks_of k n ys) (sym (add-zero v))
looks_append k v (step ∷ xs) ys = looks_append k (v + 1) xs ys ∙ ap (λ n. looks_of k (v + 1) xs ++ looks_of k n ys) (omega arith)
looks_append k v (look worker ∷ xs) ys =
    let h = looks_append k v xs ys in
    let behind = looks_of k (v + steps_in xs) ys in
    elim (nat_eq worker k) as (λ b. cond b (v ∷ looks_of k v (xs ++ ys)) (looks_of k v (xs ++ ys)) ≡ cond b (v ∷ looks_of k v xs) (looks_of k v xs) ++ behind) [ true ↦ ap (λ vs. v ∷ vs) h | false ↦ h ]

steps_append : (xs ys : List FlowEvent) → steps_in (xs ++ ys) ≡ steps_in xs + steps_in ys
steps_append [] ys = omega arith
steps_append (step ∷ xs) ys = omega (arith, steps_append xs ys)
steps_append (look worker ∷ xs) ys = steps_append xs ys

no_steps : (worker n : ℕ) → steps_in (replicate n (look worker)) ≡ 0
no_steps worker zero = refl
no_steps worker (suc n) = no_steps worker n

no_steps_at : (rows : ℕ → List ℕ) (w v : ℕ) → steps_in (looks_at rows w v) ≡ 0
no_steps_at rows zero v = refl
no_steps_at rows (suc k) v = omega (arith, steps_append (looks_at rows k v) (replicate (times v (rows k)) (look k)), no_steps_at rows k v, no_steps k (times v (rows k)))

same_worker : (k v n : ℕ) → looks_of k v (replicate n (look k)) ≡ replicate n v
same_worker k v zero = refl
same_worker k v (suc n) =
    let b : nat_eq k k ≡ true = grind (arith, nat_tests) in
    let more = looks_of k v (replicate n (look k)) in
    ap (λ t. cond t (v ∷ more) more) b ∙ ap (λ vs. v ∷ vs) (same_worker k v n)

other_worker : (k j v n : ℕ) → j ≢ k → looks_of k v (replicate n (look j)) ≡ []
other_worker k j v zero other = refl
other_worker k j v (suc n) other =
    let b : nat_eq j k ≡ false = grind (arith, nat_tests) in
    let more = looks_of k v (replicate n (look j)) in
    ap (λ t. cond t (v ∷ more) more) b ∙ other_worker k j v n other

-- the looks of one worker at a version
module _ (rows : ℕ → List ℕ) (v : ℕ) where
  split_at : (k j : ℕ) → looks_of k v (looks_at rows (suc j) v) ≡ looks_of k v (looks_at rows j v) ++ looks_of k v (replicate (times v (rows j)) (look j))
  split_at k j =
      looks_append k v (looks_at rows j v) (replicate (times v (rows j)) (look j))
      ∙ ap (λ n. looks_of k v (looks_at rows j v) ++ looks_of k (v + n) (replicate (times v (rows j)) (look j))) (no_steps_at rows j v)
      ∙ ap (λ n. looks_of k v (looks_at rows j v) ++ looks_of k n (replicate (times v (rows j)) (look j))) (add-zero v)

  none_at : (w k : ℕ) → w ≤ k → looks_of k v (looks_at rows w v) ≡ []
  none_at zero k few = refl
  none_at (suc j) k few =
      split_at k j ∙ ap (λ vs. vs ++ looks_of k v (replicate (times v (rows j)) (look j))) (none_at j k (omega (arith, few)))
      ∙ other_worker k j v (times v (rows j)) (λ (e : j ≡ k). absurd (omega (arith, few, e)))

  mine_by : (k j : ℕ) (here : List ℕ) → looks_of k v (looks_at rows j v) ≡ here → j ≢ k → looks_of k v (looks_at rows (suc j) v) ≡ here
  mine_by k j here is other =
      split_at k j ∙ ap (λ vs. looks_of k v (looks_at rows j v) ++ vs) (other_worker k j v (times v (rows j)) other) ∙ append-nil (looks_of k v (looks_at rows j v)) ∙ is

  mine_last : (k : ℕ) → looks_of k v (looks_at rows (suc k) v) ≡ replicate (times v (rows k)) v
  mine_last k = split_at k k ∙ ap (λ vs. vs ++ looks_of k v (replicate (times v (rows k)) (look k))) (none_at k k (le_refl k)) ∙ same_worker k v (times v (rows k))

  mine_more : (k more : ℕ) → looks_of k v (looks_at rows (suc (k + more)) v) ≡ replicate (times v (rows k)) v
  mine_more k zero = ap (λ n. looks_of k v (looks_at rows (suc n) v)) (add-zero k) ∙ mine_last k
  mine_more k (suc more) =
      let same : k + suc more ≡ suc (k + more) = omega arith in
      ap (λ n. looks_of k v (looks_at rows (suc n) v)) same ∙ mine_by k (suc (k + more)) (replicate (times v (rows k)) v) (mine_more k more) (λ (e : suc (k + more) ≡ k). absurd (omega (arith, e)))

-- the versions from v on
abbrev from : ℕ → List ℕ → List ℕ
from v [] = []
from v (x ∷ xs) = cond (nat_le v x) (x ∷ from v xs) (from v xs)

no_times : (v x high : ℕ) (xs : List ℕ) → v < x → Rises x high xs → times v xs ≡ 0
no_times v x high [] less h = refl
no_times v x high (y ∷ ys) less h =
    let b : nat_eq y v ≡ false = grind (arith, nat_tests, h.0) in
    ap (λ t. cond t (suc (times v ys)) (times v ys)) b ∙ no_times v y high ys (omega (arith, h.0)) h.1

-- those of version v, and the later ones, of one version more
module _ (v x : ℕ) (xs : List ℕ) (rest : from v xs ≡ replicate (times v xs) v ++ from (v + 1) xs) where
  earlier : x < v → from v (x ∷ xs) ≡ replicate (times v (x ∷ xs)) v ++ from (v + 1) (x ∷ xs)
  earlier less =
      let a : nat_le v x ≡ false = grind (arith, nat_tests) in
      let b : nat_eq x v ≡ false = grind (arith, nat_tests) in
      let c : nat_le (v + 1) x ≡ false = grind (arith, nat_tests) in
      rw (a, b, c) rest

  equal : x ≡ v → from v (x ∷ xs) ≡ replicate (times v (x ∷ xs)) v ++ from (v + 1) (x ∷ xs)
  equal is =
      let a : nat_le v x ≡ true = grind (arith, nat_tests) in
      let b : nat_eq x v ≡ true = grind (arith, nat_tests) in
      let c : nat_le (v + 1) x ≡ false = grind (arith, nat_tests) in
      rw (a, b, c) (ap (λ (y : ℕ). y ∷ from v xs) is ∙ ap (λ (ys : List ℕ). v ∷ ys) rest)

  later : v < x → times v xs ≡ 0 → from v (x ∷ xs) ≡ replicate (times v (x ∷ xs)) v ++ from (v + 1) (x ∷ xs)
  later more none =
      let a : nat_le v x ≡ true = grind (arith, nat_tests) in
      let b : nat_eq x v ≡ false = grind (arith, nat_tests) in
      let c : nat_le (v + 1) x ≡ true = grind (arith, nat_tests) in
      let behind : from v xs ≡ from (v + 1) xs = rest ∙ ap (λ n. replicate n v ++ from (v + 1) xs) none in
      rw (a, b, c, none) (ap (λ (ys : List ℕ). x ∷ ys) behind)

from_split : (v low high : ℕ) (xs : List ℕ) → Rises low high xs → from v xs ≡ replicate (times v xs) v ++ from (v + 1) xs
from_split v low high [] h = refl
from_split v low high (x ∷ xs) h =
    let rest = from_split v x high xs h.1 in
    ⊎_elim (λ (less : x < v). earlier v x xs rest less)
    (λ (up : v ≤ x). ⊎_elim (λ (is : v ≡ x). equal v x xs rest (sym is)) (λ (more : v < x). later v x xs rest more (no_times v x high xs more h.1)) (eq-or-lt_of_le up))
    (cases_lt x v)

-- none is above the last version, and none below the first
from_none : (v low high : ℕ) (xs : List ℕ) → Rises low high xs → high < v → from v xs ≡ []
from_none v low high [] h above = refl
from_none v low high (x ∷ xs) h above =
    let inside : x ≤ high = rises_later x high xs h.1 in
    let b : nat_le v x ≡ false = grind (arith, nat_tests) in
    rw b (from_none v x high xs h.1 above)

from_all : (v low high : ℕ) (xs : List ℕ) → v ≤ low → Rises low high xs → from v xs ≡ xs
from_all v low high [] down h = refl
from_all v low high (x ∷ xs) down h =
    let up : v ≤ x = le_trans down h.0 in
    let b : nat_le v x ≡ true = grind (arith, nat_tests) in
    rw b (ap (λ (ys : List ℕ). x ∷ ys) (from_all v x high xs up h.1))

module _ (rows : ℕ → List ℕ) (w : ℕ) where
  mine_at : (k v : ℕ) → k < w → looks_of k v (looks_at rows w v) ≡ replicate (times v (rows k)) v
  mine_at k v less =
      let same : suc (k + (w - suc k)) ≡ w = omega (arith, less) in
      ap (λ n. looks_of k v (looks_at rows n v)) (sym same) ∙ mine_more rows v k (w - suc k)

  -- a worker's looks at a version, and those behind the next step
  next_step : (k v : ℕ) (events : List FlowEvent) → looks_of k v (looks_at rows w v ++ step ∷ events) ≡ looks_of k v (looks_at rows w v) ++ looks_of k (v + 1) events
  next_step k v events =
      looks_append k v (looks_at rows w v) (step ∷ events)
      ∙ ap (λ n. looks_of k v (looks_at rows w v) ++ looks_of k (n + 1) events) (ap (λ n. v + n) (no_steps_at rows w v) ∙ add-zero v)

  played : (k v steps low : ℕ) → k < w → Rises low (v + steps) (rows k) → looks_of k v (by_version rows w v steps) ≡ from v (rows k)
  played k v zero low less h =
      let none : from (v + 1) (rows k) ≡ [] = from_none (v + 1) low (v + 0) (rows k) h (omega arith) in
      mine_at k v less ∙ sym (from_split v low (v + 0) (rows k) h ∙ ap (λ vs. replicate (times v (rows k)) v ++ vs) none ∙ append-nil (replicate (times v (rows k)) v))
  played k v (suc steps) low less h =
      let same : v + suc steps ≡ v + 1 + steps = omega arith in
      let rest = played k (v + 1) steps low less (subst (λ (n : ℕ). Rises low n (rows k)) same h) in
      next_step k v (by_version rows w (v + 1) steps) ∙ ap (λ vs. vs ++ looks_of k (v + 1) (by_version rows w (v + 1) steps)) (mine_at k v less)
      ∙ ap (λ vs. replicate (times v (rows k)) v ++ vs) rest ∙ sym (from_split v low (v + suc steps) (rows k) h)

  idle : (k v steps : ℕ) → w ≤ k → looks_of k v (by_version rows w v steps) ≡ []
  idle k v zero few = none_at rows v w k few
  idle k v (suc steps) few =
      next_step k v (by_version rows w (v + 1) steps) ∙ ap (λ vs. vs ++ looks_of k (v + 1) (by_version rows w (v + 1) steps)) (none_at rows v w k few) ∙ idle k (v + 1) steps few

  steps_are : (v steps : ℕ) → steps_in (by_version rows w v steps) ≡ steps
  steps_are v zero = no_steps_at rows w v
  steps_are v (suc steps) = omega (arith, steps_append (looks_at rows w v) (step ∷ by_version rows w (v + 1) steps), no_steps_at rows w v, steps_are (v + 1) steps)

-- a worker that there isn't has no packet
none_of : {X : Type 0} (k w n : ℕ) (xs : List X) → 0 < w → w ≤ k → pick k w n xs ≡ []
none_of k w n [] some few = refl
none_of k w n (x ∷ xs) some few =
    let b : nat_eq (n % w) k ≡ false = grind (arith, nat_tests, mod_below n w some) in
    let more = pick k w (n + 1) xs in
    ap (λ t. cond t (x ∷ more) more) b ∙ none_of k w (n + 1) xs some few

pub is_played : (plan : PlanState) (hops : List Hop) (w before steps : ℕ) (packets : List PacketIn) (seen : List (List ℕ)) → 0 < w → AreLawful plan hops w before (before + steps) packets seen
    → IsPlay plan hops w before (before + steps) packets (by_version (rows_by w seen) w before steps) seen
is_played plan hops w before steps packets seen some h =
    let events = by_version (rows_by w seen) w before steps in
    let here : (k : ℕ) → k < w → looks_of k before events ≡ in_a_row (pick k w 0 seen) = λ k less.
    played (rows_by w seen) w k before steps before less (h.rises k less) ∙ from_all before before (before + steps) (rows_by w seen k) (le_refl before) (h.rises k less) in
    let none : (k : ℕ) → w ≤ k → looks_of k before events ≡ in_a_row (pick k w 0 seen) = λ k few. idle (rows_by w seen) w k before steps few ∙ sym (ap (λ (vs : List (List ℕ)). in_a_row vs) (none_of k w 0 seen some few)) in
    record {
      steps = ap (λ n. before + n) (steps_are (rows_by w seen) w before steps);
      judged = judged_by plan hops w 0 packets (λ k. looks_of k before events) seen (all_seen plan hops w 0 packets seen some h.count h.walks)
          (λ k. ⊎_elim (here k) (none k) (cases_lt k w));
    }
