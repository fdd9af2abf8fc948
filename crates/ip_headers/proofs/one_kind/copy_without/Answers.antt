use Rattle.std.proofs.Common.{sym, ◌∙◌}
use Rattle.std.proofs.lemmas.Result.{err_from_is_err_and}
use Rattle.ip_headers.proofs.Swaps.{copied_first, copied_more, copied_over, copied_all}
use Rattle.ip_headers.proofs.one_kind.copy_without.Goals as goal

pub loop-size-init : goal.loop-size-init
loop-size-init o c = copied_first c.args.kind c.args.area.now c.args.kept.now.items c.requires.whole c.requires.small c.requires.empty

pub loop-size-preserved : goal.loop-size-preserved
loop-size-preserved o c =
    copied_more c.args.kind c.args.area.now c.loop-size.rest.now c.loop-size.kept.items c.in-Option.size c.split_at.result.0.now c.split_at.result.1.now
    c.loop-size.invariant (sym c.step.ensures ∙ c.in-Option.is) c.split_at.ensures.front c.split_at.ensures.back c.copy_option.new.kept.items c.in_ok-copy_option.ensures.ok

pub returns-in_err-copy_option-clause-err : goal.returns-in_err-copy_option-clause-err
returns-in_err-copy_option-clause-err o c =
    let p = err_from_is_err_and c.from_residual.result c.from_residual.ensures.1 in
    let h = c.in_err-copy_option.ensures.err in
    rw (p.1, p.2) (
      h.0,
      copied_over c.args.kind c.args.area.now c.loop-size.rest.now c.loop-size.kept.items c.in-Option.size c.split_at.result.0.now c.split_at.result.1.now
          c.loop-size.invariant (sym c.step.ensures ∙ c.in-Option.is) c.split_at.ensures.front c.split_at.ensures.back o.row.N h.1,
    )

pub returns : goal.returns
returns o c = record { ok = copied_all c.args.kind c.args.area.now c.loop-size.rest.now c.loop-size.kept.items _ c.loop-size.invariant c.step.ensures c.in_default.not-Option; err = tt }
