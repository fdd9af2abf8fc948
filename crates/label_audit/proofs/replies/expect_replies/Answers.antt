use Rattle.std.proofs.Common.{◌≡◌, List, ℕ, [], true, false, sym, ◌∙◌, subst, arith}
use Rattle.std.specs.Prelude.{IsTrue}
use Rattle.std.proofs.lemmas.Result.{err_from_is_err_and}
use Rattle.call_report.specs.Lines.Reply.{reply_line_at}
use Rattle.label_audit.specs.inside.Reading.{StandsIn, file_of}
use Rattle.label_audit.proofs.Frames.{read_none, read_memory, read_on, read_ok, read_file, read_told}
use Rattle.label_audit.proofs.ExpectedReplies.{none_expected, next_expected, replies_fail}
use Rattle.label_audit.proofs.replies.expect_replies.Goals as goal

pub loop-replies-init : goal.loop-replies-init
loop-replies-init g c =
    record {
      low = omega arith;
      within = c.requires.within.0;
      tables = c.requires.tables;
      read = λ names. read_none c.requires.keeps;
      expected = λ tells. none_expected (file_of (g.D.Depot.state c.args.depot.now) c.args.report.now) c.args.script.now.nodes c.args.script.now.steps c.args.replies.now.done c.args.place.now (c.requires.stands tells);
    }

pub returns-in_err-write_next-clause-read : goal.returns-in_err-write_next-clause-read
returns-in_err-write_next-clause-read g c = λ names.
    let p = err_from_is_err_and c.from_residual.result c.from_residual.ensures.1 in
    rw (p.1, p.2) (read_memory (c.loop-replies.invariant.read names))

pub expect-requires-clause-keeps : goal.expect-requires-clause-keeps
expect-requires-clause-keeps g c = let none : List (List ℕ) = [] in (c.loop-replies.invariant.read none).keeps

pub expect-requires-clause-stands : goal.expect-requires-clause-stands
expect-requires-clause-stands g c = λ tells.
    let none : List (List ℕ) = [] in
    let inv = c.loop-replies.invariant in
    let first = subst IsTrue (inv.read none).only.told tells in
    subst (λ (f : List ℕ). StandsIn f c.loop-replies.place) (sym (read_file (inv.read none) first)) (inv.expected first).2

pub returns-in_err-expect-clause-read : goal.returns-in_err-expect-clause-read
returns-in_err-expect-clause-read g c = λ names.
    let p = err_from_is_err_and c.from_residual-in_err-expect.result c.from_residual-in_err-expect.ensures.1 in
    rw (p.1, p.2) (read_on (c.loop-replies.invariant.read names) (c.in_err-expect.ensures.read names))

pub returns-then-not-branch-clause-read : goal.returns-then-not-branch-clause-read
returns-then-not-branch-clause-read g c = λ names.
    read_ok (read_on (c.loop-replies.invariant.read names) (c.in_ok-expect.ensures.read names))

pub returns-then-not-branch-clause-expected : goal.returns-then-not-branch-clause-expected
returns-then-not-branch-clause-expected g c = λ tells.
    let none : List (List ℕ) = [] in
    let inv = c.loop-replies.invariant in
    let file = file_of (g.D.Depot.state c.args.depot.now) c.args.report.now in
    let names = c.args.script.now.nodes in
    let steps = c.args.script.now.steps in
    let from = c.args.replies.now.done in
    let done = c.loop-replies.replies.done in
    let line : c.deref.result.now ≡ reply_line_at names steps done = c.deref.ensures.value ∙ c.in_ok-write_next.ensures.line in
    let e = rw ((read_file (inv.read none) tells), line, c.if-not-branch.true) at (c.in_ok-expect.ensures.expected (read_told (inv.read none) tells)) in
    replies_fail file names steps from done c.args.upto c.args.place.now c.expect.new.place inv.low (omega (arith, c.loop-replies-test.true))
    (next_expected file names steps from done c.args.place.now c.loop-replies.place c.expect.new.place false inv.low (inv.expected tells) e)

pub loop-replies-preserved : goal.loop-replies-preserved
loop-replies-preserved g c =
    let none : List (List ℕ) = [] in
    let inv = c.loop-replies.invariant in
    let names = c.args.script.now.nodes in
    let steps = c.args.script.now.steps in
    let done = c.loop-replies.replies.done in
    let next = c.in_ok-write_next.ensures in
    let line : c.deref.result.now ≡ reply_line_at names steps done = c.deref.ensures.value ∙ next.line in
    record {
      low = omega (arith, inv.low, next.done);
      within = omega (arith, c.loop-replies-test.true, next.done);
      tables = rw next.done next.tables;
      read = λ more. read_ok (read_on (inv.read more) (c.in_ok-expect.ensures.read more));
      expected = λ tells.
          let e = rw ((read_file (inv.read none) tells), line, c.if-not-branch.false) at (c.in_ok-expect.ensures.expected (read_told (inv.read none) tells)) in
          (rw (sym next.done) at (next_expected (file_of (g.D.Depot.state c.args.depot.now) c.args.report.now) names steps c.args.replies.now.done done c.args.place.now c.loop-replies.place c.expect.new.place true inv.low (inv.expected tells) e));
    }

pub returns-clause-read : goal.returns-clause-read
returns-clause-read g c = λ names.
    read_ok (c.loop-replies.invariant.read names)

pub returns-clause-expected : goal.returns-clause-expected
returns-clause-expected g c = λ tells.
    let last : c.loop-replies.replies.done ≡ c.args.upto = omega (arith, c.loop-replies-test.false, c.loop-replies.invariant.within) in
    rw last at (c.loop-replies.invariant.expected tells)

pub returns-clause-done : goal.returns-clause-done
returns-clause-done g c = λ met. omega (arith, c.loop-replies-test.false, c.loop-replies.invariant.within)

pub returns-clause-tables : goal.returns-clause-tables
returns-clause-tables g c = λ met.
    let last : c.loop-replies.replies.done ≡ c.args.upto = omega (arith, c.loop-replies-test.false, c.loop-replies.invariant.within) in
    rw last at c.loop-replies.invariant.tables
