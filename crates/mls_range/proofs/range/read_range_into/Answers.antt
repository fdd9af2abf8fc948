use Rattle.std.proofs.Common.{sym, ◌∙◌}
use Rattle.mls_range.proofs.Values.{range_value, no_range_value}
use Rattle.mls_range.proofs.range.read_range_into.Goals as goal

pub returns-then-is_err-clause-value : goal.returns-then-is_err-clause-value
returns-then-is_err-clause-value c =
    no_range_value c.read_ends-read.result c.args.text.now _ (sym c.is_err.ensures.value ∙ c.if-is_err.true) c.read_ends-read.ensures.err

pub returns-else-is_err-clause-value : goal.returns-else-is_err-clause-value
returns-else-is_err-clause-value c =
    let read = c.read_ends-read in
    range_value read.result c.args.text.now (record { low = read.new.low; high = read.new.high }) read.ensures.ok read.ensures.ordered read.ensures.roomy read.ensures.err
