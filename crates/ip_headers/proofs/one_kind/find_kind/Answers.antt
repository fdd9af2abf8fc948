use Rattle.std.proofs.Common.{rules, sym, ◌∙◌}
use Rattle.ip_headers.proofs.Swaps.{sought_first, sought_other, sought_one, sought_second, sought_all}
use Rattle.ip_headers.proofs.one_kind.find_kind.Goals.{then-option-kind+else-is_some, else-option-kind}
use Rattle.ip_headers.proofs.one_kind.find_kind.Goals as goal

pub loop-size-init : goal.loop-size-init
loop-size-init c = sought_first c.args.kind c.args.area.now _ c.requires.whole c.requires.small c.first_place-at.ensures

pub loop-size-preserved : goal.loop-size-preserved
loop-size-preserved c = elim c.if-option-kind.branch [
  | then-option-kind+else-is_some w ↦
      rw w.first-is (sought_one c.args.kind c.args.area.now c.loop-size.first c.loop-size.at c.loop-size.rest.now c.in-Option.size c.split_at.result.0 c.split_at.result.1.now
      c.loop-size.invariant (sym c.step.ensures ∙ c.in-Option.is) c.split_at.ensures.front c.split_at.ensures.back c.requires.other (search rules) (search rules))
  | else-option-kind w ↦
      rw w.first-is (sought_other c.args.kind c.args.area.now c.loop-size.first c.loop-size.at c.loop-size.rest.now c.in-Option.size c.split_at.result.0 c.split_at.result.1.now
      c.loop-size.invariant (sym c.step.ensures ∙ c.in-Option.is) c.split_at.ensures.front c.split_at.ensures.back (search rules))
]

pub returns-then-is_some-clause-second : goal.returns-then-is_some-clause-second
returns-then-is_some-clause-second c =
    sought_second c.args.kind c.args.area.now c.loop-size.first c.loop-size.at c.loop-size.rest.now c.in-Option.size c.split_at.result.0 c.split_at.result.1.now
    c.loop-size.invariant (sym c.step.ensures ∙ c.in-Option.is) c.split_at.ensures.front c.split_at.ensures.back c.requires.other (search rules) (search rules)

pub returns : goal.returns
returns c =
    let answer = sought_all c.args.kind c.args.area.now c.loop-size.first c.loop-size.at c.loop-size.rest.now _ c.loop-size.invariant c.step.ensures c.in_default.not-Option in
    record { first = answer.first_is; second = answer.none }
