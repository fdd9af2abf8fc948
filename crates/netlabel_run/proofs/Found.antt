-- What neighbouring hops come to: it is determined, and all agree exactly where nothing else is found.
use Rattle.std.proofs.Common.{◌≡◌, ◌↔◌, ℕ, true, List, [], ◌∷◌, Option, Some, None, refl, ap}
use Rattle.std.specs.Prelude.{IsTrue, is_none, IfSome, IfNone}
use Rattle.std.specs.List.{list_all}
use Rattle.std.proofs.lemmas.Bool.{and_from, and_parts}
use Rattle.label_commands.specs.declared.flow_lines.hop.Hop.{Hop}
use Rattle.label_commands.specs.node_readings.Reading.{NamedMeanings}
use Rattle.label_flow.specs.declared.node_agreement.disagree.Disagree.{Disagree}
use Rattle.label_flow.specs.node_agreement.Agreement.{Agree}
use Rattle.label_flow.specs.node_agreement.First.{IsFirst}
use Rattle.label_flow.proofs.node_agreement.Law.{nodes_agree_without_a_difference, one_difference_is_first}
use Rattle.shared_tables.specs.Plan.{PlanState}
use Rattle.label_flow.specs.flow_access.Kept.{NeighboursAgree}
use Rattle.call_report.specs.script_input.Neighbours.{HopState, hop_under}
use Rattle.netlabel_run.specs.Agree.{IsFound, AreFound}

module _ (left right : HopState) where
  -- they agree
  abbrev AgreeHere : Type 0
  AgreeHere = Agree left.tables right.tables left.named right.named

  agree_or_differ : (d : Disagree) → AgreeHere → IsFirst left.tables right.tables left.named right.named d → ⊥
  agree_or_differ d agree first = (nodes_agree_without_a_difference left.tables right.tables left.named right.named).0 agree d first.difference

  pub one_found : (a b : Option Disagree) → IsFound left right a → IsFound left right b → a ≡ b
  one_found None None x y = refl
  one_found None (Some d) x y = absurd (agree_or_differ d x y)
  one_found (Some d) None x y = absurd (agree_or_differ d y x)
  one_found (Some d) (Some e) x y = ap (λ (f : Disagree). Some f) (one_difference_is_first left.tables right.tables left.named right.named d e x y)

  none_agrees : (a : Option Disagree) → is_none a ≡ true → IsFound left right a → AgreeHere
  none_agrees None none x = x
  none_agrees (Some d) none x = absurd cc

  agree_is_none : (a : Option Disagree) → IsFound left right a → AgreeHere → is_none a ≡ true
  agree_is_none None x agree = refl
  agree_is_none (Some d) x agree = absurd (agree_or_differ d agree x)

  -- what a comparison of two nodes gives, by its two clauses
  pub found_is : (found : Option Disagree) → IfNone found AgreeHere → IfSome found (IsFirst left.tables right.tables left.named right.named) → IsFound left right found
  found_is None agree first = agree
  found_is (Some d) agree first = first

module _ (plan : PlanState) (readings : List NamedMeanings) where
  all_agree : (hops : List Hop) (versions : List ℕ) (found : List (Option Disagree)) → AreFound plan readings hops versions found → IsTrue (list_all is_none found)
      → NeighboursAgree plan readings hops versions
  all_agree [] versions found x all = absurd x
  all_agree (hop ∷ []) versions found x all = tt
  all_agree (left ∷ right ∷ hops) [] found x all = absurd x
  all_agree (left ∷ right ∷ hops) (v ∷ []) found x all = absurd x
  all_agree (left ∷ right ∷ hops) (v ∷ w ∷ versions) [] x all = absurd x
  all_agree (left ∷ right ∷ hops) (v ∷ w ∷ versions) (f ∷ found) x all =
      let parts = and_parts (is_none f) (list_all is_none found) all in
      (none_agrees (hop_under plan readings v left) (hop_under plan readings w right) f parts.0 x.0, all_agree (right ∷ hops) (w ∷ versions) found x.1 parts.1)

  none_found : (hops : List Hop) (versions : List ℕ) (found : List (Option Disagree)) → AreFound plan readings hops versions found → NeighboursAgree plan readings hops versions
      → IsTrue (list_all is_none found)
  none_found [] versions found x agree = absurd x
  none_found (hop ∷ []) [] found x agree = absurd x
  none_found (hop ∷ []) (v ∷ []) [] x agree = refl
  none_found (hop ∷ []) (v ∷ []) (f ∷ found) x agree = absurd x
  none_found (hop ∷ []) (v ∷ w ∷ versions) found x agree = absurd x
  none_found (left ∷ right ∷ hops) [] found x agree = absurd x
  none_found (left ∷ right ∷ hops) (v ∷ []) found x agree = absurd x
  none_found (left ∷ right ∷ hops) (v ∷ w ∷ versions) [] x agree = absurd x
  none_found (left ∷ right ∷ hops) (v ∷ w ∷ versions) (f ∷ found) x agree =
      and_from (is_none f) (list_all is_none found)
      (agree_is_none (hop_under plan readings v left) (hop_under plan readings w right) f x.0 agree.0)
      (none_found (right ∷ hops) (w ∷ versions) found x.1 agree.1)

  pub agreement_told : (hops : List Hop) (versions : List ℕ) (found : List (Option Disagree)) → AreFound plan readings hops versions found
      → (IsTrue (list_all is_none found) ↔ NeighboursAgree plan readings hops versions)
  agreement_told hops versions found x = (all_agree hops versions found x, none_found hops versions found x)
