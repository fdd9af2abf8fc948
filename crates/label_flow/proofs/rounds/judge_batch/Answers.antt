use Rattle.std.proofs.Common.{rules, ◌≡◌, ℕ, ◌+◌, ◌*◌, ◌<◌, ◌≤◌, None, OnOk, List, [], length, take, ap, sym, subst, ◌∙◌, refl, le_refl, le_trans, arith, append-nil}
use Rattle.std.proofs.lemmas.List.{length-take}
use Rattle.std.specs.Arc.{arc_value}
use Rattle.label_flow.specs.Pair.{PairState}
use Rattle.label_flow.specs.declared.work.Batch.{Batch}
use Rattle.label_flow.specs.inside.Work.{part_at, TakesRound}
use Rattle.label_flow.specs.inside.Crew.{IsTold}
use Rattle.label_flow.proofs.Told.{told_none, parts_more}
use Rattle.label_flow.proofs.Parts.{parts_join}
use Rattle.label_flow.proofs.Batches.{later_same, later_later, later_length, viewers_later, none_round}
use Rattle.label_flow.proofs.rounds.judge_batch.Goals as goal

pub returns-in_default-clause-seens : goal.returns-in_default-clause-seens
returns-in_default-clause-seens g c = later_same _

pub returns-in_default-clause-took : goal.returns-in_default-clause-took
returns-in_default-clause-took g c was hist took =
    let T : List PairState → Type 0 = λ rs. g.Q.Feed.took was c.args.feed.now rs in
    ([], [], none_round _ _ _ _ (later_same _), tt, subst T (sym (append-nil hist)) took, (told_none _ _, tt))

pub loop-place-init : goal.loop-place-init
loop-place-init g c =
    let r = c.read_ahead.ensures in
    record {
      inside = omega arith;
      viewer = record { board = refl; plan = refl; seen = le_refl _ };
      later = later_same _;
      benches = refl;
      ready = r.ready;
      hops = r.hops;
      left = r.left;
      stop = r.stop;
      due = omega (arith, r.due, c.requires.feed.due_is);
      took = λ was hist took.
          let T : List PairState → Type 0 = λ rs. g.Q.Feed.took was c.read_ahead.new.self rs in
          ([], [], none_round _ _ _ _ (later_same _), tt, subst T (sym (append-nil hist)) (r.took was hist took), (told_none _ _, refl));
    }

pub part_round-requires-clause-crew : goal.part_round-requires-clause-crew
part_round-requires-clause-crew g c κs within =
    let h = c.loop-place.invariant in
    let r = c.requires.crew in
    let len = later_length _ _ h.later in
    record {
      all = ap (λ (b : Batch). b.workers) c.deref-in-loop-place.ensures ∙ r.all ∙ sym len;
      same = h.benches ∙ r.same ∙ sym len;
      trays_are = r.trays_are ∙ sym len;
      viewers_are = viewers_later _ _ _ h.later r.viewers_are;
    }

pub part_round-requires-clause-due : goal.part_round-requires-clause-due
part_round-requires-clause-due g c κs within =
    let place = c.loop-place.place in
    let items = (arc_value c.args.batch.now).packets.items in
    let inside : place * 128 < length items = search rules in
    let part = ap (λ (b : Batch). length (part_at place b.packets.items)) c.deref-in-loop-place.ensures in
    omega (arith, part, parts_more place items inside, length-take ((place + 1) * 128) items, c.loop-place.invariant.due)

pub returns-in-Err-clause-seens : goal.returns-in-Err-clause-seens
returns-in-Err-clause-seens g c = later_later _ _ _ c.loop-place.invariant.later c.part_round.ensures.seens

pub returns-in-Err-clause-took : goal.returns-in-Err-clause-took
returns-in-Err-clause-took g c =
    let h = c.loop-place.invariant in
    let place = c.loop-place.place in
    let b = arc_value c.args.batch.now in
    let d = c.deref-in-loop-place.result.now in
    let items = b.packets.items in
    let inside : place * 128 < length items = search rules in
    let m = length (take (place * 128) items) in
    let at : d.base + place * 128 ≡ b.base + m = omega (arith, ap (λ (q : Batch). q.base) c.deref-in-loop-place.ensures, length-take (place * 128) items, inside) in
    let left = g.A.Agreed.left in
    let hops = c.args.shift.now.flow.now.hops in
    let C : ℕ → Type 0 = λ k. OnOk c.part_round.result (k ≡ length (part_at place d.packets.items)) in
    let vs = c.args.crew.now.seens.items in
    let us = c.loop-place.crew.seens.items in
    let ws = c.part_round.new.crew.seens.items in
    let then = subst (λ (n : ℕ). TakesRound g.Q.Feed.took c.loop-place.feed c.part_round.new.feed hops n None (λ ps. IsTold left n ps × C (length ps)) us ws) at c.part_round.ensures.took in
    parts_join g.Q.Feed.took c.args.feed.now c.loop-place.feed c.part_round.new.feed hops left b.base m C (λ k. Unit {0}) vs us ws h.later (λ k has. tt) h.took then

pub loop-place-preserved : goal.loop-place-preserved
loop-place-preserved g c =
    let h = c.loop-place.invariant in
    let e = c.in_default-part_round.ensures in
    let place = c.loop-place.place in
    let b = arc_value c.args.batch.now in
    let d = c.deref-in-loop-place.result.now in
    let items = b.packets.items in
    let inside : place * 128 < length items = search rules in
    let m = length (take (place * 128) items) in
    let at : d.base + place * 128 ≡ b.base + m = omega (arith, ap (λ (q : Batch). q.base) c.deref-in-loop-place.ensures, length-take (place * 128) items, inside) in
    let part : length (part_at place d.packets.items) ≡ length (part_at place items) = ap (λ (q : Batch). length (part_at place q.packets.items)) c.deref-in-loop-place.ensures in
    let more = parts_more place items inside in
    let left = g.A.Agreed.left in
    let hops = c.args.shift.now.flow.now.hops in
    let C : ℕ → Type 0 = λ k. k ≡ length (part_at place d.packets.items) in
    let D : ℕ → Type 0 = λ k. k ≡ length (take ((place + 1) * 128) items) in
    let vs = c.args.crew.now.seens.items in
    let us = c.loop-place.crew.seens.items in
    let ws = c.part_round.new.crew.seens.items in
    let then = subst (λ (n : ℕ). TakesRound g.Q.Feed.took c.loop-place.feed c.part_round.new.feed hops n None (λ ps. IsTold left n ps × C (length ps)) us ws) at e.took in
    record {
      inside = omega (arith, inside, c.requires.here.few);
      viewer = record { board = e.later.board ∙ h.viewer.board; plan = e.later.plan ∙ h.viewer.plan; seen = le_trans h.viewer.seen e.later.seen };
      later = later_later _ _ _ h.later e.seens;
      benches = e.benches ∙ h.benches;
      ready = e.feed.is_ready;
      hops = e.feed.hops_stay ∙ h.hops;
      left = e.left ∙ h.left;
      stop = e.feed.ok.1 ∙ h.stop;
      due = omega (arith, e.feed.ok.0, part, more, h.due);
      took = parts_join g.Q.Feed.took c.args.feed.now c.loop-place.feed c.part_round.new.feed hops left b.base m C D vs us ws h.later (λ k is. ap (λ (x : ℕ). m + x) (is ∙ part) ∙ sym more) h.took then;
    }

pub returns-clause-took : goal.returns-clause-took
returns-clause-took g c was hist took =
    let h = c.loop-place.invariant in
    let place = c.loop-place.place in
    let items = (arc_value c.args.batch.now).packets.items in
    let t = h.took was hist took in
    let past : length items ≤ place * 128 = search rules in
    let whole : length (take (place * 128) items) ≡ length items = omega (arith, length-take (place * 128) items, past) in
    (t.0, t.1, t.2, t.3, t.4, (t.5.0, t.5.1 ∙ whole))
