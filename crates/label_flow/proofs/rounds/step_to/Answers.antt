use Rattle.std.proofs.Common.{◌≡◌, ◌+◌, ap, ◌∙◌, arith}
use Rattle.shared_tables.specs.Board.{PublisherState}
use Rattle.label_flow.proofs.rounds.step_to.Goals as goal

pub loop-publisher-preserved : goal.loop-publisher-preserved
loop-publisher-preserved g c =
    let h = c.loop-publisher.invariant in
    let e = c.in_ok-step.ensures.ok in
    let v : c.step.new.self.version ≡ c.loop-publisher.publisher.version + 1 = ap (λ (b : PublisherState). b.version) e in
    record {
      board = ap (λ (b : PublisherState). b.board) e ∙ h.board;
      plan = ap (λ (b : PublisherState). b.plan) e ∙ h.plan;
      later = omega (arith, v, h.later);
      within = omega (arith, v, c.loop-publisher-test.true, c.requires);
    }
