use Rattle.std.proofs.Common.{rules, ◌≡◌, ℕ, List, [], length, ap, sym, subst, arith, append-nil}
use Rattle.std.specs.Arc.{arc_value}
use Rattle.label_flow.specs.Pair.{PairState}
use Rattle.label_flow.specs.Round.{IsRound}
use Rattle.label_flow.specs.inside.Crew.{IsTold}
use Rattle.label_flow.proofs.Told.{batch_told, part_begun, whole_fetched}
use Rattle.label_flow.proofs.Batches.{none_round, later_same, begun_none}
use Rattle.label_flow.proofs.rounds.batch_round.Goals as goal

pub judge_batch-requires-clause-here : goal.judge_batch-requires-clause-here
judge_batch-requires-clause-here g c κs within =
    let f = c.in-Ok-true.ensures in
    record {
      few = f.ok.few;
      numbers = omega (arith, f.base.0, f.base.1, f.ok.few, c.requires.few);
      told = rw f.base.1 (batch_told _ _ _ _ _ c.requires.at f.ok.front);
      short = f.ok.octets;
    }

pub returns-in-Ok-clause-took : goal.returns-in-Ok-clause-took
returns-in-Ok-clause-took g c was hist took =
    let f = c.in-Ok-true.ensures in
    let t = c.in-Ok.ensures.took was hist (c.fetch_next.ensures.took was hist took) in
    let vs = c.args.crew.now.seens.items in
    let us = c.judge_batch.new.crew.seens.items in
    let round = subst (λ (n : ℕ). IsRound c.args.shift.now.flow.now.hops n t.0 t.1 vs us) f.base.1 t.2 in
    let told = subst (λ (n : ℕ). IsTold g.A.Agreed.left n t.0) f.base.1 t.5.0 in
    (t.0, t.1, round, part_begun _ _ _ t.0 c.requires.at told, t.4, (rw c.in-Ok.ensures.left (whole_fetched _ _ _ _ _ t.0 c.requires.at f.ok.front told t.5.1), t.5.1))

pub returns-in-Err-judge_batch-clause-took : goal.returns-in-Err-judge_batch-clause-took
returns-in-Err-judge_batch-clause-took g c was hist took =
    let f = c.in-Ok-true.ensures in
    let t = c.judge_batch.ensures.took was hist (c.fetch_next.ensures.took was hist took) in
    let vs = c.args.crew.now.seens.items in
    let us = c.judge_batch.new.crew.seens.items in
    let round = subst (λ (n : ℕ). IsRound c.args.shift.now.flow.now.hops n t.0 t.1 vs us) f.base.1 t.2 in
    let told = subst (λ (n : ℕ). IsTold g.A.Agreed.left n t.0) f.base.1 t.5.0 in
    (t.0, t.1, round, part_begun _ _ _ t.0 c.requires.at told, t.4, tt)

pub returns-in-Ok-false-clause-seens : goal.returns-in-Ok-false-clause-seens
returns-in-Ok-false-clause-seens g c = later_same _

pub returns-in-Ok-false-clause-took : goal.returns-in-Ok-false-clause-took
returns-in-Ok-false-clause-took g c was hist took =
    let T : List PairState → Type 0 = λ rs. g.Q.Feed.took was c.fetch_next.new.feed rs in
    let f = c.in-Ok-false.ensures in
    let none : (arc_value c.fetch_next.new.batch).packets.items ≡ [] = search rules in
    ([], [], none_round _ _ _ _ (later_same _), begun_none _, subst T (sym (append-nil hist)) (c.fetch_next.ensures.took was hist took), (rw none at f.ok.front, sym (ap length none)))

pub returns-in-Err-clause-seens : goal.returns-in-Err-clause-seens
returns-in-Err-clause-seens g c = later_same _

pub returns-in-Err-clause-took : goal.returns-in-Err-clause-took
returns-in-Err-clause-took g c was hist took =
    let T : List PairState → Type 0 = λ rs. g.Q.Feed.took was c.fetch_next.new.feed rs in
    ([], [], none_round _ _ _ _ (later_same _), begun_none _, subst T (sym (append-nil hist)) (c.fetch_next.ensures.took was hist took), tt)
