use Rattle.std.proofs.Common.{◌≡◌, ◌<◌, ◌+◌, ◌-◌, ℕ, suc, length, get_or, Some, refl, sym, ap, subst, ◌∙◌, arith}
use Rattle.std.specs.Prelude.{slice_get}
use Rattle.std.proofs.lemmas.Option.{slice_get-get_or, slice_get_read}
use Rattle.label_commands.specs.declared.flow_lines.hop.Hop.{Hop}
use Rattle.label_commands.specs.flow_lines.Hop.{node_of}
use Rattle.shared_tables.specs.Plan.{PlanState}
use Rattle.label_flow.specs.flow_access.Valid.{plan_of}
use Rattle.call_report.proofs.script_input.Comparing.{rises_at, tables_at, GoOn, found_at, goes_on, all_found}
use Rattle.call_report.proofs.script_input.Flows.{at_place, as_many}
use Rattle.call_report.proofs.script_input.compare.compare_hops.Goals as goal

pub forward_to-requires-clause-within : goal.forward_to-requires-clause-within
forward_to-requires-clause-within g c =
    let versions = c.args.versions.now in
    let place = c.loop-place.place in
    let back : place ≡ suc (place - 1) = omega (arith, c.loop-place.invariant.some) in
    let within : place < length versions = omega (arith, c.loop-place-test.true, c.requires.each) in
    let rise = rises_at 0 (length c.args.script.now.steps) versions (place - 1) (get_or versions (place - 1) 0) (get_or versions place 0) c.requires.rises
    (slice_get-get_or versions (place - 1) 0 (omega (arith, within)))
    (subst (λ (k : ℕ). slice_get versions k ≡ Some (get_or versions place 0)) back (slice_get-get_or versions place 0 within)) in
    omega (arith, rise.0, rise.1, ap (λ (p : PlanState). length p.steps) c.loop-place.invariant.plans.0)

pub forward_to-requires-in-loop-place-clause-later : goal.forward_to-requires-in-loop-place-clause-later
forward_to-requires-in-loop-place-clause-later g c =
    let versions = c.args.versions.now in
    let place = c.loop-place.place in
    let back : place ≡ suc (place - 1) = omega (arith, c.loop-place.invariant.some) in
    let within : place < length versions = omega (arith, c.loop-place-test.true, c.requires.each) in
    let at_v : slice_get versions (place - 1) ≡ Some (get_or versions (place - 1) 0) = slice_get-get_or versions (place - 1) 0 (omega (arith, within)) in
    let rise = rises_at 0 (length c.args.script.now.steps) versions (place - 1) (get_or versions (place - 1) 0) (get_or versions place 0) c.requires.rises
    at_v (subst (λ (k : ℕ). slice_get versions k ≡ Some (get_or versions place 0)) back (slice_get-get_or versions place 0 within)) in
    omega (arith, rise.0, (c.loop-place.invariant.left (get_or versions (place - 1) 0) at_v).1)

pub forward_to-requires-in-loop-place-clause-within : goal.forward_to-requires-in-loop-place-clause-within
forward_to-requires-in-loop-place-clause-within g c =
    let versions = c.args.versions.now in
    let place = c.loop-place.place in
    let back : place ≡ suc (place - 1) = omega (arith, c.loop-place.invariant.some) in
    let within : place < length versions = omega (arith, c.loop-place-test.true, c.requires.each) in
    let rise = rises_at 0 (length c.args.script.now.steps) versions (place - 1) (get_or versions (place - 1) 0) (get_or versions place 0) c.requires.rises
    (slice_get-get_or versions (place - 1) 0 (omega (arith, within)))
    (subst (λ (k : ℕ). slice_get versions k ≡ Some (get_or versions place 0)) back (slice_get-get_or versions place 0 within)) in
    omega (arith, rise.1, ap (λ (p : PlanState). length p.steps) c.loop-place.invariant.plans.1)

pub compare-requires-clause-left : goal.compare-requires-clause-left
compare-requires-clause-left g c =
    let script = c.args.script.now in
    let hops = c.args.hops.now in
    let place = c.loop-place.place in
    let left = c.index-hops-place.result in
    let at_left : slice_get hops (place - 1) ≡ Some left = slice_get_read hops (length hops) (place - 1) left refl (omega (arith, c.loop-place-test.true)) c.index-hops-place.is in (
      as_many (length script.nodes) script.steps (get_or c.args.versions.now (place - 1) 0) c.network.result.now
          (tables_at c.forward_to.new.self (plan_of script) (get_or c.args.versions.now (place - 1) 0) c.network.result.now c.network.ensures
          (c.in_ok-forward_to.ensures.plan ∙ c.loop-place.invariant.plans.0) c.in_ok-forward_to.ensures.ok),
      at_place (λ (hop : Hop). node_of hop < length script.nodes) hops (place - 1) left c.requires.nodes at_left,
    )

pub compare-requires-clause-right : goal.compare-requires-clause-right
compare-requires-clause-right g c =
    let script = c.args.script.now in
    let hops = c.args.hops.now in
    let place = c.loop-place.place in
    let right = c.index-hops-place-in-loop-place.result in
    let at_right : slice_get hops place ≡ Some right = slice_get_read hops (length hops) place right refl c.loop-place-test.true c.index-hops-place-in-loop-place.is in (
      as_many (length script.nodes) script.steps (get_or c.args.versions.now place 0) c.network-in-loop-place.result.now
          (tables_at c.forward_to-in-loop-place.new.self (plan_of script) (get_or c.args.versions.now place 0) c.network-in-loop-place.result.now c.network-in-loop-place.ensures
          (c.in_ok-forward_to-2.ensures.plan ∙ c.loop-place.invariant.plans.1) c.in_ok-forward_to-2.ensures.ok),
      at_place (λ (hop : Hop). node_of hop < length script.nodes) hops place right c.requires.nodes at_right,
    )

pub loop-place-preserved : goal.loop-place-preserved
loop-place-preserved g c =
    let script = c.args.script.now in
    let plan = plan_of script in
    let hops = c.args.hops.now in
    let versions = c.args.versions.now in
    let place = c.loop-place.place in
    let left = c.index-hops-place.result in
    let right = c.index-hops-place-in-loop-place.result in
    let v = get_or versions (place - 1) 0 in
    let w = get_or versions place 0 in
    let back : place ≡ suc (place - 1) = omega (arith, c.loop-place.invariant.some) in
    let within : place < length versions = omega (arith, c.loop-place-test.true, c.requires.each) in
    let at_v : slice_get versions (place - 1) ≡ Some v = slice_get-get_or versions (place - 1) 0 (omega (arith, within)) in
    let at_w : slice_get versions place ≡ Some w = slice_get-get_or versions place 0 within in
    let next_w : slice_get versions (suc (place - 1)) ≡ Some w = subst (λ (k : ℕ). slice_get versions k ≡ Some w) back at_w in
    let rise = rises_at 0 (length script.steps) versions (place - 1) v w c.requires.rises at_v next_w in
    let at_left : slice_get hops (place - 1) ≡ Some left = slice_get_read hops (length hops) (place - 1) left refl (omega (arith, c.loop-place-test.true)) c.index-hops-place.is in
    let at_right : slice_get hops place ≡ Some right = slice_get_read hops (length hops) place right refl c.loop-place-test.true c.index-hops-place-in-loop-place.is in
    let of_left = c.in_ok-forward_to.ensures.plan ∙ c.loop-place.invariant.plans.0 in
    let of_right = c.in_ok-forward_to-2.ensures.plan ∙ c.loop-place.invariant.plans.1 in
    let is_left = tables_at c.forward_to.new.self plan v c.network.result.now c.network.ensures of_left c.in_ok-forward_to.ensures.ok in
    let is_right = tables_at c.forward_to-in-loop-place.new.self plan w c.network-in-loop-place.result.now c.network-in-loop-place.ensures of_right c.in_ok-forward_to-2.ensures.ok in
    let ahead : place + 1 - 1 ≡ place = omega arith in
    let next : suc (place - 1) ≡ place + 1 - 1 = omega (arith, c.loop-place.invariant.some) in
    record {
      some = omega arith;
      within = omega (arith, c.loop-place-test.true);
      plans = (of_left, of_right);
      left = λ u is.
          let that : slice_get versions place ≡ Some u = subst (λ (k : ℕ). slice_get versions k ≡ Some u) ahead is in
          let some_same : Some w ≡ Some u = sym at_w ∙ that in
          let same : w ≡ u = cc in
          (omega (arith, rise.0, same, c.in_ok-forward_to.ensures.ok), omega (arith, same, c.in_ok-forward_to-2.ensures.ok));
      on = subst (λ (k : ℕ). GoOn (g.C.Compares.finds) plan script.readings hops versions k c.push.new.self.items) next
          (goes_on (g.C.Compares.finds) plan script.readings hops versions (place - 1) left right v w c.compare.result c.loop-place.found.items c.push.new.self.items
          at_left (subst (λ (k : ℕ). slice_get hops k ≡ Some right) back at_right) at_v next_w
          (found_at (g.C.Compares.finds) plan script.readings left right v w c.compare.result c.network.result.now c.network-in-loop-place.result.now is_left is_right c.compare.ensures)
          c.in_ok-push.ensures.items c.loop-place.invariant.on);
    }

pub returns : goal.returns
returns g c =
    let place = c.loop-place.place in
    let last : length c.args.hops.now ≡ place - 1 + 1 = omega (arith, c.loop-place-test.false, c.loop-place.invariant.within, c.loop-place.invariant.some) in
    all_found (g.C.Compares.finds) (plan_of c.args.script.now) c.args.script.now.readings c.args.hops.now c.args.versions.now (place - 1) c.loop-place.found.items last (omega (arith, last, c.requires.each))
    c.loop-place.invariant.on
