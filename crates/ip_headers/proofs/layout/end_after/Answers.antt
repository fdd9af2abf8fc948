use Rattle.std.proofs.Common.{rules, arith}
use Rattle.ip_headers.proofs.Layouts.{kept_none, length-kept_one}
use Rattle.ip_headers.proofs.layout.end_after.Goals as goal

pub returns-then-not-is_other-clause-value : goal.returns-then-not-is_other-clause-value
returns-then-not-is_other-clause-value c =
    rw (kept_none c.args.version c.args.free c.args.place c.args.option.now (search rules)) (omega arith)

pub returns-clause-value : goal.returns-clause-value
returns-clause-value c =
    rw (length-kept_one c.args.version c.args.free c.args.place c.args.option.now (search rules), c.gap_to.ensures.value, c.alignment-unit.ensures) (omega arith)
