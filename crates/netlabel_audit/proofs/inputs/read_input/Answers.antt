use Rattle.std.proofs.Common.{ℕ, List, sym, subst, ◌∙◌, arith}
use Rattle.std.specs.Prelude.{IsTrue}
use Rattle.captures.specs.Reader.{left_of, IsTaken}
use Rattle.netlabel_audit.proofs.Reading.{octets_now, amid_next, reads_further}
use Rattle.netlabel_audit.proofs.inputs.read_input.Goals as goal

pub loop-head-preserved : goal.loop-head-preserved
loop-head-preserved g c =
    let head = c.loop-head in
    let start = g.D.Depot.state c.args.depot.now in
    let now = g.D.Depot.state head.depot in
    let held = start.held c.args.name.now in
    let clauses = rw c.in-Ok-Some.field-0-is at c.in-Ok-Some.ensures in
    record {
      amid = λ told.
          let amid = head.invariant.amid told in
          let octets = octets_now c.args.most held head.reader head.left amid c.args.name.now now.held head.invariant.name (head.invariant.frame.kept told c.args.name.now) in
          let taken = subst (λ (file : List ℕ). IsTaken c.in-Ok-Some._head c.next.new.into (left_of head.reader file) (left_of c.next.new.self file)) octets
          (clauses.answer (subst IsTrue (sym head.invariant.frame.told) told)) in
          amid_next c.args.most held head.reader head.left amid (λ zero. omega (arith, zero, c.if-left-eq0.false)) c.next.new.self taken.0 taken.3 clauses.format;
      ready = clauses.ready;
      name = clauses.name ∙ head.invariant.name;
      frame = reads_further c.args.name.now head.reader start now (g.D.Depot.state c.next.new.depot) _ head.invariant.frame head.invariant.name clauses.frame;
    }
