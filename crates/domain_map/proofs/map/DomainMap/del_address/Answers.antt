use Rattle.std.proofs.Common.{◌≡◌, Some, sym, ap, ◌∙◌, subst, slice_get, remove, arith}
use Rattle.std.specs.Map.{values_of}
use Rattle.indexmap.specs.IndexMap.{set_value_at}
use Rattle.domain_map.specs.inside.Fewer.{LeavesOf}
use Rattle.domain_map.proofs.Rules.{deleted_none, deleted_last, deleted_one, set-same, length-set}
use Rattle.domain_map.proofs.map.DomainMap.del_address.Goals as goal

pub invariant_of-self : goal.invariant_of-self
invariant_of-self c = omega (arith, length-set c.self.inside.rules.entries c.args.place c.remove-left.new.self, c.self.invariant)

pub invariant_of-self-then-left-gt0 : goal.invariant_of-self-then-left-gt0
invariant_of-self-then-left-gt0 c = omega (arith, length-set c.self.inside.rules.entries c.args.place c.remove-left.new.self, c.self.invariant)

pub invariant_of-self-2 : goal.invariant_of-self-2
invariant_of-self-2 c = omega (arith, length-set c.self.inside.rules.entries c.args.place c.remove-left.new.self, c.self.invariant, c.shift_remove_index.ensures.len)

pub returns-in_default-clause-unknown : goal.returns-in_default-clause-unknown
returns-in_default-clause-unknown c =
    let is : slice_get (values_of c.args.self.now) c.args.place ≡ Some c.in-Some.rule.now = ap (λ es. slice_get (values_of es) c.args.place) (sym c.self.view_is) ∙ sym c.in-Some.ensures.value in
    deleted_none c.args.self.now c.args.key.now c.args.place c.in-Some.rule.now c.requires is c.args.prefix.now c.in_default.ensures.0

pub returns-in_default-clause-err : goal.returns-in_default-clause-err
returns-in_default-clause-err c =
    set-same c.self.inside.rules.entries c.args.place c.remove-left.new.self (sym c.in-Some.ensures.value ∙ ap Some (sym c.in_default.ensures.1)) ∙ c.self.view_is

pub returns-then-left-gt0-clause-ok : goal.returns-then-left-gt0-clause-ok
returns-then-left-gt0-clause-ok c =
    let is : slice_get (values_of c.args.self.now) c.args.place ≡ Some c.in-Some.rule.now = ap (λ es. slice_get (values_of es) c.args.place) (sym c.self.view_is) ∙ sym c.in-Some.ensures.value in
    deleted_one c.args.self.now c.args.key.now c.args.place c.in-Some.rule.now c.requires is c.args.prefix.now c.remove-left.new.self c.in-Some-left.left c.in-Some-left.ensures c.if-left-gt0.true
    ∙ ap (λ es. Some (set_value_at es c.args.place c.remove-left.new.self)) (sym c.self.view_is)

pub returns-clause-ok : goal.returns-clause-ok
returns-clause-ok c =
    let is : slice_get (values_of c.args.self.now) c.args.place ≡ Some c.in-Some.rule.now = ap (λ es. slice_get (values_of es) c.args.place) (sym c.self.view_is) ∙ sym c.in-Some.ensures.value in
    let last = subst (LeavesOf c.in-Some.rule.now c.args.prefix.now c.remove-left.new.self) (omega (arith, c.if-left-gt0.false)) c.in-Some-left.ensures in
    deleted_last c.args.self.now c.args.key.now c.args.place c.in-Some.rule.now c.requires is c.args.prefix.now c.remove-left.new.self c.remove-left.new.self last
    ∙ ap (λ es. Some (remove (set_value_at es c.args.place c.remove-left.new.self) c.args.place)) (sym c.self.view_is) ∙ ap Some (sym c.shift_remove_index.ensures.entries)
