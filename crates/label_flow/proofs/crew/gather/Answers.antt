use Rattle.std.proofs.Common.{rules, ◌≡◌, ◌<◌, ◌≤◌, length, length-set, get_or-set_other, refl, ◌∙◌, subst, le_refl, le_trans, arith}
use Rattle.shared_tables.specs.Board.{ViewerState}
use Rattle.label_flow.specs.Round.{IsLater}
use Rattle.label_flow.specs.inside.Crew.{IsShare}
use Rattle.label_flow.proofs.Shares.{all_shared, later_set, mine_more}
use Rattle.label_flow.proofs.Handing.{read_any}
use Rattle.label_flow.proofs.Batches.{later_same}
use Rattle.label_flow.proofs.crew.gather.Goals as goal

pub loop-at-init : goal.loop-at-init
loop-at-init g c = record {
  viewer = record { board = refl; plan = refl; seen = le_refl _ };
  inside = search rules;
  seens = search rules;
  benches = search rules;
  grown = later_same _;
  mine = search rules;
  others = search rules;
}

pub returns-clause-ok : goal.returns-clause-ok
returns-clause-ok g c =
    let h = c.loop-at.invariant in
    let r = c.requires.crew in
    let vs = c.args.crew.now.seens.items in
    let whole : length vs ≤ c.loop-at.at = omega (arith, c.loop-at-test.false, h.seens) in
    all_shared g.A.Agreed.hops g.A.Agreed.left c.args.part vs c.loop-at.crew.benches.items c.loop-at.crew.seens.items r.viewers_are.some r.all (h.benches ∙ r.same) h.seens (λ j d lt. h.mine j d (le_trans lt whole))

-- what was seen before and after the share at this place
pub returns-in_err-take_share-clause-seens : goal.returns-in_err-take_share-clause-seens
returns-in_err-take_share-clause-seens g c =
    let h = c.loop-at.invariant in
    let vs = c.loop-at.crew.seens.items in
    let v = c.index_mut-seen.result.now in
    let inside : c.loop-at.at < length vs = omega (arith, c.loop-at-test.true, h.seens) in
    later_set _ _ _ _ h.grown (λ d. subst (λ (y : ViewerState). IsLater y c.take_share.new.seen) (c.index_mut-seen.ensures.value ∙ read_any vs c.loop-at.at v d inside) c.take_share.ensures.seen)

pub loop-at-preserved : goal.loop-at-preserved
loop-at-preserved g c =
    let h = c.loop-at.invariant in
    let vs = c.loop-at.crew.seens.items in
    let at = c.loop-at.at in
    let v = c.index_mut-seen.result.now in
    let b = c.args.part in
    let x = c.take_share.new.seen in
    let inside : at < length vs = omega (arith, c.loop-at-test.true, h.seens) in
    let here = c.requires.part in
    let share : IsShare g.A.Agreed.hops g.A.Agreed.left at b.workers b.base b.count v c.take_share.new.bench x =
    rw (here.workers, here.base, here.count) (search (c.in_ok-take_share.ensures.ok, rules)) in
    let later = c.take_share.ensures.later in
    record {
      viewer = record { board = later.board ∙ h.viewer.board; plan = later.plan ∙ h.viewer.plan; seen = le_trans h.viewer.seen later.seen };
      inside = omega (arith, inside, h.seens);
      seens = length-set vs at x ∙ h.seens;
      benches = length-set c.loop-at.crew.benches.items at c.take_share.new.bench ∙ h.benches;
      grown = later_set _ _ _ _ h.grown (λ d. subst (λ (y : ViewerState). IsLater y x) (c.index_mut-seen.ensures.value ∙ read_any vs at v d inside) c.take_share.ensures.seen);
      mine = mine_more _ _ _ _ _ at c.args.crew.now.seens.items vs c.loop-at.crew.benches.items v x c.take_share.new.bench inside (omega (arith, inside, h.seens, h.benches, c.requires.crew.same)) c.index_mut-seen.ensures.value h.others h.mine share;
      others = λ k d le. get_or-set_other vs at k x d (λ (t : k ≡ at). absurd (omega (arith, le, t))) ∙ h.others k d (omega (arith, le));
    }
