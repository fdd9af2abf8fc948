use Rattle.std.proofs.Common.{sym, ap, ◌∙◌}
use Rattle.std.specs.Prelude.{option_copied}
use Rattle.static_law.proofs.Links.{covered_by_none, may_label, low_entry, covered_by_all}
use Rattle.static_law.proofs.link.covers.Goals as goal

pub returns-then-is_empty-clause-covered : goal.returns-then-is_empty-clause-covered
returns-then-is_empty-clause-covered c =
    covered_by_none c.args.left.now c.args.right.now c.args.out_interface.now c.args.in_interface.now c.args.left_reading.now c.args.right_reading.now c.statics.result.now c.counting-entries.result c.statics.ensures c.counting-entries.ensures c.in_default.ensures.agree
    c.if-is_empty.ensures

pub returns-in_default-find_range-clause-reason : goal.returns-in_default-find_range-clause-reason
returns-in_default-find_range-clause-reason c = (
  may_label c.args.left.now c.args.right.now c.args.out_interface.now c.args.in_interface.now c.args.left_reading.now c.args.right_reading.now c.statics.result.now c.counting-entries.result c.statics.ensures c.counting-entries.ensures c.in_default.ensures.agree
      (sym c.accepts.ensures ∙ c.if-not-accepts.false) c.if-is_empty.ensures,
  sym c.find_range.ensures ∙ ap option_copied c.in_default-find_range.is,
)

pub returns-in-Some-first_low-clause-reason : goal.returns-in-Some-first_low-clause-reason
returns-in-Some-first_low-clause-reason c =
    let may = may_label c.args.left.now c.args.right.now c.args.out_interface.now c.args.in_interface.now c.args.left_reading.now c.args.right_reading.now c.statics.result.now c.counting-entries.result c.statics.ensures c.counting-entries.ensures c.in_default.ensures.agree
    (sym c.accepts.ensures ∙ c.if-not-accepts.false) c.if-is_empty.ensures in
    low_entry c.args.left.now c.args.right.now c.args.out_interface.now c.args.in_interface.now c.args.left_reading.now c.args.right_reading.now c.statics.result.now c.counting-entries.result c.statics.ensures c.counting-entries.ensures c.in_default.ensures.agree
    c.in-Some-find_range.range.now (sym c.find_range.ensures ∙ ap option_copied c.in-Some-find_range.is) c.high.result.now c.high.ensures.high c.in-Some-first_low.index may c.in-Some-first_low.ensures

pub returns-in-None-clause-covered : goal.returns-in-None-clause-covered
returns-in-None-clause-covered c =
    covered_by_all c.args.left.now c.args.right.now c.args.out_interface.now c.args.in_interface.now c.args.left_reading.now c.args.right_reading.now c.statics.result.now c.counting-entries.result c.statics.ensures c.counting-entries.ensures c.in_default.ensures.agree
    c.in-Some-find_range.range.now (sym c.find_range.ensures ∙ ap option_copied c.in-Some-find_range.is) c.high.result.now c.high.ensures.high c.in-None.ensures
