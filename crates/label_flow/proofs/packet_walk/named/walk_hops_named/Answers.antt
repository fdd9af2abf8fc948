use Rattle.std.proofs.Common.{◌≡◌, ◌+◌, ◌<◌, ◌++◌, ◌∷◌, [], length, get_or, arith, ap, refl, sym, ◌∙◌}
use Rattle.std.proofs.lemmas.Bool.{ltb-true, ltb-false}
use Rattle.shared_tables.specs.Plan.{PlanState}
use Rattle.label_flow.proofs.packet_walk.Walks.{behind_more, goes_first, goes_more, goes_here, goes_denied, goes_out, put_length, put_all}
use Rattle.label_flow.proofs.packet_walk.ByVersions.{back_first, back_more, too_few, is_told, rises_at, rises_to, no_later, named_more}
use Rattle.label_flow.proofs.packet_walk.named.walk_hops_named.Goals as goal

pub loop-at-init : goal.loop-at-init
loop-at-init c = record {
  inside = omega arith;
  named = omega arith;
  judged = omega arith;
  plan = refl;
  later = omega arith;
  same = refl;
  rises = λ high rises. rises;
  goes = goes_first c.args.tables.now.plan c.args.hops.now c.args.packet.now c.args.tables.now.version;
  back = back_first c.args.tables.now.plan c.args.hops.now c.args.packet.now c.args.versions.now;
}

pub returns-in_default-clause-told : goal.returns-in_default-clause-told
returns-in_default-clause-told c =
    too_few _ _ _ _ _ _ _ c.loop-at.invariant.back c.loop-at-test.true (ltb-false c.loop-at.at (length c.args.versions.now) (sym c.in_default.ensures.lookup.0))

pub judge_under-requires-clause-within : goal.judge_under-requires-clause-within
judge_under-requires-clause-within c =
    let h = c.loop-at.invariant in
    let vs = c.args.versions.now in
    let at = c.loop-at.at in
    let there : at < length vs = ltb-true at (length vs) (sym c.in-Some.ensures.lookup.0) in
    let most = length c.args.tables.now.plan.steps in
    let r = rises_at c.loop-at.tables.version most vs at c.in-Some.version.now (h.rises most c.requires.rises) there c.in-Some.ensures.lookup.1 in
    omega (arith, rises_to _ _ _ r.1, ap (λ (p : PlanState). length p.steps) h.plan)

pub returns-in_err-judge_under-clause-no_later : goal.returns-in_err-judge_under-clause-no_later
returns-in_err-judge_under-clause-no_later c = λ high rises.
    let vs = c.args.versions.now in
    no_later _ high _ c.in-Some.version.now vs c.loop-at.at (c.loop-at.invariant.rises high rises) (ltb-true c.loop-at.at (length vs) (sym c.in-Some.ensures.lookup.0)) c.in-Some.ensures.lookup.1 c.judge_under.ensures.between.1

pub returns-in_err-deliver-in-Arrives-clause-no_later : goal.returns-in_err-deliver-in-Arrives-clause-no_later
returns-in_err-deliver-in-Arrives-clause-no_later c = λ high rises.
    let vs = c.args.versions.now in
    no_later _ high _ c.in-Some.version.now vs c.loop-at.at (c.loop-at.invariant.rises high rises) (ltb-true c.loop-at.at (length vs) (sym c.in-Some.ensures.lookup.0)) c.in-Some.ensures.lookup.1 c.judge_under.ensures.between.1

pub returns-in_err-leave-in-Arrives-clause-no_later : goal.returns-in_err-leave-in-Arrives-clause-no_later
returns-in_err-leave-in-Arrives-clause-no_later c = λ high rises.
    let vs = c.args.versions.now in
    no_later _ high _ c.in-Some.version.now vs c.loop-at.at (c.loop-at.invariant.rises high rises) (ltb-true c.loop-at.at (length vs) (sym c.in-Some.ensures.lookup.0)) c.in-Some.ensures.lookup.1 c.judge_under.ensures.between.1

pub returns-in-Arrives-clause-no_later : goal.returns-in-Arrives-clause-no_later
returns-in-Arrives-clause-no_later c = λ high rises.
    let vs = c.args.versions.now in
    no_later _ high _ c.in-Some.version.now vs c.loop-at.at (c.loop-at.invariant.rises high rises) (ltb-true c.loop-at.at (length vs) (sym c.in-Some.ensures.lookup.0)) c.in-Some.ensures.lookup.1 c.judge_under.ensures.between.1

pub returns-in-Denied-clause-no_later : goal.returns-in-Denied-clause-no_later
returns-in-Denied-clause-no_later c = λ high rises.
    let vs = c.args.versions.now in
    no_later _ high _ c.in-Some.version.now vs c.loop-at.at (c.loop-at.invariant.rises high rises) (ltb-true c.loop-at.at (length vs) (sym c.in-Some.ensures.lookup.0)) c.in-Some.ensures.lookup.1 c.judge_under.ensures.between.1

pub returns-in-OutOfMemory-clause-no_later : goal.returns-in-OutOfMemory-clause-no_later
returns-in-OutOfMemory-clause-no_later c = λ high rises.
    let vs = c.args.versions.now in
    no_later _ high _ c.in-Some.version.now vs c.loop-at.at (c.loop-at.invariant.rises high rises) (ltb-true c.loop-at.at (length vs) (sym c.in-Some.ensures.lookup.0)) c.in-Some.ensures.lookup.1 c.judge_under.ensures.between.1

pub returns-in_err-leave-clause-no_later : goal.returns-in_err-leave-clause-no_later
returns-in_err-leave-clause-no_later c = λ high rises. rises_to _ high _ (c.loop-at.invariant.rises high rises)

pub returns-clause-no_later : goal.returns-clause-no_later
returns-clause-no_later c = λ high rises. rises_to _ high _ (c.loop-at.invariant.rises high rises)

pub returns-in-Arrives-clause-told : goal.returns-in-Arrives-clause-told
returns-in-Arrives-clause-told c =
    let h = c.loop-at.invariant in
    let vs = c.args.versions.now in
    let at = c.loop-at.at in
    let v = c.in-Some.version.now in
    let is : v ≡ get_or vs at v = c.in-Some.ensures.lookup.1 in
    let there : at < length vs = ltb-true at (length vs) (sym c.in-Some.ensures.lookup.0) in
    let more = named_more vs at v there is in
    let judged = rw (h.plan, c.coming.ensures, rw c.deref.ensures at c.in-Arrives.is) at c.in_ok-judge_under.ensures.ok in
    let walked = goes_here _ _ _ _ _ _ _ _ _ h.goes _ _ _ _ _ _ c.loop-at-test.true c.index-hops-at.is judged c.in_ok-leave-in-Arrives.ensures in
    rw (c.told.ensures, c.in_ok-deliver-in-Arrives.ensures, c.deref-in-Arrives.ensures, c.judged_under.ensures, c.in_ok-judge_under.ensures.at)
    (is_told _ _ _ _ _ _ _ (at + 1) _ _ (omega (arith, there)) (rw more walked) (ap (λ xs. xs ++ v ∷ []) h.same ∙ sym more))

pub returns-in-Denied-clause-told : goal.returns-in-Denied-clause-told
returns-in-Denied-clause-told c =
    let h = c.loop-at.invariant in
    let vs = c.args.versions.now in
    let at = c.loop-at.at in
    let v = c.in-Some.version.now in
    let is : v ≡ get_or vs at v = c.in-Some.ensures.lookup.1 in
    let there : at < length vs = ltb-true at (length vs) (sym c.in-Some.ensures.lookup.0) in
    let more = named_more vs at v there is in
    let judged = rw (h.plan, c.coming.ensures, rw c.deref.ensures at c.in-Denied.is) at c.in_ok-judge_under.ensures.ok in
    let walked = goes_denied _ _ _ _ _ _ _ _ _ h.goes _ _ _ _ _ c.loop-at-test.true c.index-hops-at.is judged in
    rw (c.told-in-Denied.ensures, c.deny.ensures, c.judged_under.ensures, c.in_ok-judge_under.ensures.at, c.clear.ensures.items)
    (is_told _ _ _ _ _ _ _ (at + 1) _ _ (omega (arith, there)) (rw more walked) (ap (λ xs. xs ++ v ∷ []) h.same ∙ sym more))

pub loop-at-preserved : goal.loop-at-preserved
loop-at-preserved c =
    let h = c.loop-at.invariant in
    let vs = c.args.versions.now in
    let at = c.loop-at.at in
    let v = c.in-Some.version.now in
    let is : v ≡ get_or vs at v = c.in-Some.ensures.lookup.1 in
    let there : at < length vs = ltb-true at (length vs) (sym c.in-Some.ensures.lookup.0) in
    let more = named_more vs at v there is in
    let judged = rw (h.plan, c.coming.ensures, rw c.deref.ensures at c.in-Goes.is) at c.in_ok-judge_under.ensures.ok in
    record {
      inside = omega (arith, c.loop-at-test.true);
      named = omega (arith, there);
      judged = omega (arith, ap length c.judged_under.ensures, put_length c.loop-at.walked.versions at v h.judged);
      plan = c.in_ok-judge_under.ensures.plan ∙ h.plan;
      later = omega (arith, h.later, c.judge_under.ensures.between.0);
      same = rw c.judged_under.ensures (put_all c.loop-at.walked.versions at v h.judged ∙ ap (λ xs. xs ++ v ∷ []) h.same ∙ sym more);
      rises = λ high rises. rw c.in_ok-judge_under.ensures.at ((rises_at c.loop-at.tables.version high vs at v (h.rises high rises) there is).1);
      goes = rw (behind_more at c.args.packet.now c.swap.new.x.items, more, c.in_ok-judge_under.ensures.at, c.swap.ensures.x_after, c.deref_mut-in-loop-at.ensures.value)
          (goes_more _ _ _ _ _ _ _ _ _ h.goes _ _ _ _ _ c.loop-at-test.true c.index-hops-at.is judged);
      back = rw (behind_more at c.args.packet.now c.swap.new.x.items, c.swap.ensures.x_after, c.deref_mut-in-loop-at.ensures.value)
          (back_more _ _ _ _ _ _ _ h.back c.index-hops-at.result c.loop-at-test.true c.index-hops-at.is v c.in-Goes.next _ _ is judged.gave);
    }

pub returns-clause-told : goal.returns-clause-told
returns-clause-told c =
    let h = c.loop-at.invariant in
    rw (c.told-2.ensures, c.send.ensures, c.judged_by.ensures)
    (is_told _ _ _ _ _ _ _ c.loop-at.at _ _ h.named (goes_out _ _ _ _ _ _ _ _ _ h.goes _ c.loop-at-test.false c.in_ok-leave.ensures) h.same)
