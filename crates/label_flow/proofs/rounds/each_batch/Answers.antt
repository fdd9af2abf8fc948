use Rattle.std.proofs.Common.{rules, ◌≡◌, ◌+◌, ℕ, List, [], ◌++◌, length, ap, sym, ◌∙◌, subst, le_refl, le_trans, arith, append-nil, append_assoc, refl}
use Rattle.std.proofs.lemmas.List.{length-append}
use Rattle.std.specs.Arc.{arc_value}
use Rattle.label_flow.specs.Pair.{PairState}
use Rattle.label_flow.specs.inside.Crew.{IsAt}
use Rattle.label_flow.proofs.Batches.{none_round, later_length, later_same, later_later, viewers_later, front_none, front-append, front_whole, front_begun, begun_part, round-append}
use Rattle.label_flow.proofs.Told.{at_start, at_more}
use Rattle.label_flow.proofs.Learning.{not_led}
use Rattle.label_flow.proofs.rounds.each_batch.Goals as goal

pub returns-in_default-clause-led : goal.returns-in_default-clause-led
returns-in_default-clause-led g c = not_led _ _ _ _ _ _ _ _ _ _ _ _ (later_same _) refl c.requires.feed.is_ready

pub loop-init : goal.loop-init
loop-init g c =
    let batch = c.in-Ok.batch in
    let empty : (arc_value batch).packets.items ≡ [] = c.in-Ok.ensures.2 in
    let none : (arc_value batch).base + length (arc_value batch).packets.items ≡ 0 = omega (arith, c.in-Ok.ensures.1, ap length empty) in
    record {
      viewer = record { board = refl; plan = refl; seen = le_refl _ };
      later = later_same _;
      benches = c.requires.lead.benches_are;
      workers = search rules;
      few = omega (arith, ap length empty);
      due = c.requires.feed.due_is;
      ready = c.requires.feed.is_ready;
      hops = refl;
      stop = refl;
      at = subst (λ (n : ℕ). IsAt g.A.Agreed.left (g.Q.Feed.left c.args.feed.now) n) (sym none) (at_start _ _ c.requires.lead.left_is);
      took = λ was hist took.
          let T : List PairState → Type 0 = λ rs. g.Q.Feed.took was c.args.feed.now rs in
          ([], [], none_round _ _ _ _ (later_same _), sym none, front_none _, subst T (sym (append-nil hist)) took);
    }

pub batch_round-requires-clause-crew : goal.batch_round-requires-clause-crew
batch_round-requires-clause-crew g c κs within =
    let h = c.loop.invariant in
    let len = later_length _ _ h.later in
    record { all = h.workers ∙ sym len; same = h.benches ∙ sym len; trays_are = c.requires.lead.trays_are ∙ sym len; viewers_are = viewers_later _ _ _ h.later c.requires.lead.viewers_are }

pub batch_round-requires-clause-feed : goal.batch_round-requires-clause-feed
batch_round-requires-clause-feed g c κs within =
    let h = c.loop.invariant in
    record { hops_are = h.hops ∙ c.requires.feed.hops_are; due_is = h.due; is_ready = h.ready }

pub loop-preserved : goal.loop-preserved
loop-preserved g c =
    let h = c.loop.invariant in
    let e = c.in-Ok-true.ensures in
    let old = arc_value c.loop.batch in
    let new = arc_value c.batch_round.new.batch in
    let n = old.base + length old.packets.items in
    record {
      viewer = record { board = e.later.board ∙ h.viewer.board; plan = e.later.plan ∙ h.viewer.plan; seen = le_trans h.viewer.seen e.later.seen };
      later = later_later _ _ _ h.later e.seens;
      benches = e.benches ∙ h.benches;
      workers = e.workers ∙ h.workers;
      few = e.ok.0;
      due = e.feed.ok.0;
      ready = e.feed.is_ready;
      hops = e.feed.hops_stay ∙ h.hops;
      stop = e.feed.ok.1 ∙ h.stop;
      at = subst (λ (m : ℕ). IsAt g.A.Agreed.left (g.Q.Feed.left c.batch_round.new.feed) (m + length new.packets.items)) (sym e.base) (at_more _ _ _ _ _ h.at e.ok.1);
      took = λ was hist took.
          let T : List PairState → Type 0 = λ rs. g.Q.Feed.took was c.batch_round.new.feed rs in
          let t = h.took was hist took in
          let u = e.took was (hist ++ t.1) t.5 in (
            t.0 ++ u.0,
            t.1 ++ u.1,
            round-append _ 0 n t.0 u.0 t.1 u.1 _ _ _ (omega (arith, t.3)) h.later t.2 u.2,
            omega (arith, t.3, length-append t.0 u.0, u.5.1, e.base),
            front-append _ _ _ _ _ t.4 u.5.0,
            subst T (append_assoc hist t.1 u.1) u.4,
          );
    }

pub returns-in-Ok-false-clause-led : goal.returns-in-Ok-false-clause-led
returns-in-Ok-false-clause-led g c =
    let h = c.loop.invariant in
    let e = c.in-Ok-false.ensures in
    let n = (arc_value c.loop.batch).base + length (arc_value c.loop.batch).packets.items in
    let none = e.none (search rules) in
    record {
      later = later_later _ _ _ h.later e.seens;
      leaves = record { hops_stay = e.feed.hops_stay ∙ h.hops; is_ready = e.feed.is_ready; ok = (e.feed.ok.0, e.feed.ok.1 ∙ h.stop); err = tt };
      ok = (none.1, none.2);
      takes = λ was hist took.
          let T : List PairState → Type 0 = λ rs. g.Q.Feed.took was c.batch_round.new.feed rs in
          let t = h.took was hist took in
          let u = e.took was (hist ++ t.1) t.5 in
          let whole = front-append _ _ _ _ _ t.4 u.5.0 in (
            t.0 ++ u.0,
            t.1 ++ u.1,
            round-append _ 0 n t.0 u.0 t.1 u.1 _ _ _ (omega (arith, t.3)) h.later t.2 u.2,
            front_begun _ _ _ whole,
            subst T (append_assoc hist t.1 u.1) u.4,
            front_whole _ _ _ whole none.1,
          );
    }

pub returns-in-Err-clause-led : goal.returns-in-Err-clause-led
returns-in-Err-clause-led g c =
    let h = c.loop.invariant in
    let e = c.in-Err.ensures in
    let n = (arc_value c.loop.batch).base + length (arc_value c.loop.batch).packets.items in
    record {
      later = later_later _ _ _ h.later e.seens;
      leaves = record { hops_stay = e.feed.hops_stay ∙ h.hops; is_ready = e.feed.is_ready; ok = tt; err = rw h.stop at e.feed.err };
      ok = tt;
      takes = λ was hist took.
          let T : List PairState → Type 0 = λ rs. g.Q.Feed.took was c.batch_round.new.feed rs in
          let t = h.took was hist took in
          let u = e.took was (hist ++ t.1) t.5 in (
            t.0 ++ u.0,
            t.1 ++ u.1,
            round-append _ 0 n t.0 u.0 t.1 u.1 _ _ _ (omega (arith, t.3)) h.later t.2 u.2,
            begun_part _ _ _ _ 0 t.4 u.3,
            subst T (append_assoc hist t.1 u.1) u.4,
            tt,
          );
    }
