use Rattle.std.proofs.Common.{◌≡◌, Some, Ok, Err, Result, sym, ap, ◌∙◌, slice_get, arith}
use Rattle.std.specs.Prelude.{OnOk, OnErr, IfErr}
use Rattle.std.specs.Map.{values_of}
use Rattle.indexmap.specs.IndexMap.{set_value_at}
use Rattle.domain_map.proofs.Rules.{added_ok, added_refused, set-same, length-set}
use Rattle.domain_map.proofs.map.DomainMap.add_to.Goals as goal

on_ok : {T E : Type 0} (r : Result T E) (P Q : Type 0) → (P → Q) → OnOk r P → OnOk r Q
on_ok (Ok x) P Q f p = f p
on_ok (Err x) P Q f p = tt

on_err : {T E : Type 0} (r : Result T E) (P Q : Type 0) → (P → Q) → OnErr r P → OnErr r Q
on_err (Ok x) P Q f p = tt
on_err (Err x) P Q f p = f p

if_err : {T E : Type 0} (r : Result T E) (P Q : E → Type 0) → ((e : E) → P e → Q e) → IfErr r P → IfErr r Q
if_err (Ok x) P Q f p = tt
if_err (Err x) P Q f p = f x p

pub invariant_of-self : goal.invariant_of-self
invariant_of-self c = omega (arith, length-set c.self.inside.rules.entries c.args.place c.add.new.self, c.self.invariant)

pub returns-clause-ok : goal.returns-clause-ok
returns-clause-ok c =
    let is : slice_get (values_of c.args.self.now) c.args.place ≡ Some c.in-Some.rule.now = ap (λ es. slice_get (values_of es) c.args.place) (sym c.self.view_is) ∙ sym c.in-Some.ensures.value in
    on_ok c.add.result _ _ (λ made. added_ok c.args.self.now c.args.key.now c.args.place c.in-Some.rule.now c.requires is c.args.prefix c.args.protocol c.add.new.self made
    ∙ ap (λ es. Ok (set_value_at es c.args.place c.add.new.self)) (sym c.self.view_is)) c.add.ensures.ok

pub returns-clause-refused : goal.returns-clause-refused
returns-clause-refused c =
    let is : slice_get (values_of c.args.self.now) c.args.place ≡ Some c.in-Some.rule.now = ap (λ es. slice_get (values_of es) c.args.place) (sym c.self.view_is) ∙ sym c.in-Some.ensures.value in
    if_err c.add.result _ _ (λ fault h. added_refused c.args.self.now c.args.key.now c.args.place c.in-Some.rule.now c.requires is c.args.prefix c.args.protocol fault h) c.add.ensures.refused

pub returns-clause-err : goal.returns-clause-err
returns-clause-err c =
    on_err c.add.result _ _ (λ same. set-same c.self.inside.rules.entries c.args.place c.add.new.self (sym c.in-Some.ensures.value ∙ ap Some (sym same)) ∙ c.self.view_is) c.add.ensures.err
