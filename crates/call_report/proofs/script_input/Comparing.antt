-- The hops of a flow compared one after the other, over plain values.
use Rattle.std.proofs.Common.{◌≡◌, ◌≤◌, ℕ, zero, suc, ◌+◌, List, [], ◌∷◌, ◌++◌, length, drop, Option, Some, refl, sym, ap, subst, ◌∙◌, arith}
use Rattle.std.specs.Prelude.{slice_get}
use Rattle.label_commands.specs.declared.flow_lines.hop.Hop.{Hop}
use Rattle.label_commands.specs.node_readings.Reading.{NamedMeanings}
use Rattle.node_tables.specs.Tables.{TableState}
use Rattle.shared_tables.specs.Plan.{PlanState, network_after}
use Rattle.label_flow.specs.packet_walk.Stepping.{TablesAt}
use Rattle.label_flow.specs.packet_walk.Walk.{Rises}
use Rattle.call_report.specs.script_input.Neighbours.{HopState, hop_in, hop_under, EachTwo}

-- each version is at least the one in front of it, and at most the last bound
pub rises_at : (low high : ℕ) (versions : List ℕ) (k v w : ℕ) → Rises low high versions → slice_get versions k ≡ Some v → slice_get versions (suc k) ≡ Some w → (v ≤ w) × (w ≤ high)
rises_at low high [] k v w rises x y = absurd cc
rises_at low high (a ∷ []) zero v w rises x y = absurd cc
rises_at low high (a ∷ b ∷ versions) zero v w rises x y =
    let first : ◌≡◌ {A = Option ℕ} (Some a) (Some v) = x in
    let second : ◌≡◌ {A = Option ℕ} (Some b) (Some w) = y in
    let is_v : a ≡ v = cc in
    let is_w : b ≡ w = cc in
    (omega (arith, rises.1.0, is_v, is_w), omega (arith, rises_ends b high versions rises.1.1, is_w))
  where
    rises_ends : (l h : ℕ) (vs : List ℕ) → Rises l h vs → l ≤ h
    rises_ends l h [] r = r
    rises_ends l h (c ∷ vs) r = omega (arith, r.0, rises_ends c h vs r.1)
rises_at low high (a ∷ versions) (suc k) v w rises x y = rises_at a high versions k v w rises.1 x y

-- between wider bounds too
pub rises_wider : (low high low' high' : ℕ) (versions : List ℕ) → low' ≤ low → high ≤ high' → Rises low high versions → Rises low' high' versions
rises_wider low high low' high' [] l h rises = omega (arith, l, h, rises)
rises_wider low high low' high' (v ∷ versions) l h rises = (omega (arith, l, rises.0), rises_wider v high v high' versions (omega arith) h rises.1)

-- the tables of a state of this plan at this version
pub tables_at : (tables : TablesAt) (plan : PlanState) (v : ℕ) (network : List TableState) → network ≡ network_after tables.plan tables.version
    → tables.plan ≡ plan → tables.version ≡ v → network ≡ network_after plan v
tables_at tables plan v network is of_plan at = is ∙ ap (λ (p : PlanState). network_after p tables.version) of_plan ∙ ap (λ (u : ℕ). network_after plan u) at

module _ {X : Type 0} (finds : HopState → HopState → X → Type 0) (plan : PlanState) (readings : List NamedMeanings) where
  -- What is found of the hops from a place on is found of all, behind these that were found before.
  abbrev pub GoOn : List Hop → List ℕ → ℕ → List X → Type 0
  GoOn hops versions place found =
      (others : List X) → EachTwo finds plan readings (drop place hops) (drop place versions) others → EachTwo finds plan readings hops versions (found ++ others)

  abbrev pub IsFoundAt : ℕ → Hop → ℕ → Hop → X → Type 0
  IsFoundAt v left w right found = finds (hop_under plan readings v left) (hop_under plan readings w right) found

  -- what two hops come to whose nodes have these tables
  pub found_at : (left right : Hop) (v w : ℕ) (found : X) (l r : List TableState) → l ≡ network_after plan v → r ≡ network_after plan w
      → finds (hop_in l readings left) (hop_in r readings right) found → IsFoundAt v left w right found
  found_at left right v w found l r is_l is_r is =
      subst (λ (n : List TableState). finds (hop_in n readings left) (hop_under plan readings w right) found) is_l
      (subst (λ (n : List TableState). finds (hop_in l readings left) (hop_in n readings right) found) is_r is)

  -- the two at a place, in front of those behind them
  pub put_in_front : (hops : List Hop) (versions : List ℕ) (k : ℕ) (left right : Hop) (v w : ℕ) (found : X) (others : List X)
      → slice_get hops k ≡ Some left → slice_get hops (suc k) ≡ Some right → slice_get versions k ≡ Some v → slice_get versions (suc k) ≡ Some w
      → IsFoundAt v left w right found → EachTwo finds plan readings (drop (suc k) hops) (drop (suc k) versions) others
      → EachTwo finds plan readings (drop k hops) (drop k versions) (found ∷ others)
  put_in_front [] versions k left right v w found others a b c d is more = absurd cc
  put_in_front (x ∷ []) versions zero left right v w found others a b c d is more = absurd cc
  put_in_front (x ∷ y ∷ hops) [] zero left right v w found others a b c d is more = absurd cc
  put_in_front (x ∷ y ∷ hops) (s ∷ []) zero left right v w found others a b c d is more = absurd cc
  put_in_front (x ∷ y ∷ hops) (s ∷ t ∷ versions) zero left right v w found others a b c d is more =
      let a' : ◌≡◌ {A = Option Hop} (Some x) (Some left) = a in
      let b' : ◌≡◌ {A = Option Hop} (Some y) (Some right) = b in
      let c' : ◌≡◌ {A = Option ℕ} (Some s) (Some v) = c in
      let d' : ◌≡◌ {A = Option ℕ} (Some t) (Some w) = d in
      let is_left : left ≡ x = cc in
      let is_right : right ≡ y = cc in
      let is_v : v ≡ s = cc in
      let is_w : w ≡ t = cc in (
        subst (λ l. IsFoundAt s l t y found) is_left (subst (λ r. IsFoundAt s left t r found) is_right (subst (λ u. IsFoundAt u left t right found) is_v (subst (λ u. IsFoundAt v left u right found) is_w is))),
        more,
      )
  put_in_front (x ∷ hops) [] (suc k) left right v w found others a b c d is more = absurd cc
  put_in_front (x ∷ hops) (s ∷ versions) (suc k) left right v w found others a b c d is more = put_in_front hops versions k left right v w found others a b c d is more

  -- one more turn
  pub goes_on : (hops : List Hop) (versions : List ℕ) (k : ℕ) (left right : Hop) (v w : ℕ) (found : X) (before after : List X)
      → slice_get hops k ≡ Some left → slice_get hops (suc k) ≡ Some right → slice_get versions k ≡ Some v → slice_get versions (suc k) ≡ Some w
      → IsFoundAt v left w right found → after ≡ before ++ found ∷ [] → GoOn hops versions k before → GoOn hops versions (suc k) after
  goes_on hops versions k left right v w found before after a b c d is pushed on others more =
      subst (λ all. EachTwo finds plan readings hops versions all) (sym (ap (λ x. x ++ others) pushed ∙ append_one before found others))
      (on (found ∷ others) (put_in_front hops versions k left right v w found others a b c d is more))
    where
      append_one : (xs : List X) (x : X) (ys : List X) → (xs ++ x ∷ []) ++ ys ≡ xs ++ x ∷ ys
      append_one [] x ys = refl
      append_one (z ∷ xs) x ys = ap (λ zs. z ∷ zs) (append_one xs x ys)

  -- at the last hop nothing is left to be found
  one_left : (hops : List Hop) (versions : List ℕ) (k : ℕ) → length hops ≡ k + 1 → length versions ≡ k + 1 → EachTwo finds plan readings (drop k hops) (drop k versions) []
  one_left [] versions k l m = absurd (omega (arith, l))
  one_left (x ∷ []) [] zero l m = absurd (omega (arith, m))
  one_left (x ∷ []) (s ∷ []) zero l m = tt
  one_left (x ∷ []) (s ∷ t ∷ versions) zero l m = absurd (omega (arith, m))
  one_left (x ∷ y ∷ hops) versions zero l m = absurd (omega (arith, l))
  one_left (x ∷ hops) [] (suc k) l m = absurd (omega (arith, m))
  one_left (x ∷ hops) (s ∷ versions) (suc k) l m = one_left hops versions k (omega (arith, l)) (omega (arith, m))

  pub all_found : (hops : List Hop) (versions : List ℕ) (k : ℕ) (found : List X) → length hops ≡ k + 1 → length versions ≡ k + 1 → GoOn hops versions k found
      → EachTwo finds plan readings hops versions found
  all_found hops versions k found l m on = subst (λ all. EachTwo finds plan readings hops versions all) (append_none found) (on [] (one_left hops versions k l m))
    where
      append_none : (xs : List X) → xs ++ [] ≡ xs
      append_none [] = refl
      append_none (x ∷ xs) = ap (λ ys. x ∷ ys) (append_none xs)
