use Rattle.std.proofs.Common.{◌≡◌, ◌<◌, ap, sym, subst, ◌∙◌, length, get_or, slice_get, arith}
use Rattle.std.proofs.lemmas.List.{get_or_default}
use Rattle.mls_label.specs.declared.cat_set.Run.{Run}
use Rattle.mls_label.specs.Runs.{runs_of}
use Rattle.mls_label.specs.inside.Kept.{cats_of, AreApart}
use Rattle.mls_label.proofs.Inside.{shown_at}
use Rattle.mls_label.proofs.Runs.{length-runs_of, runs_of-cats_of}
use Rattle.mls_label.proofs.Splice.{apart_at}
use Rattle.mls_label.proofs.cat_set.CatSet.run.Goals as goal

none : Run
none = record { first = 0; last = 0 }

apart : (c : goal.After-as_slice-runs) → AreApart 0 c.as_slice-runs.result.now
apart c = subst (AreApart 0) (sym c.as_slice-runs.ensures) c.self.invariant.apart

seen : (c : goal.After-as_slice-runs) → cats_of c.as_slice-runs.result.now ≡ c.args.self.now
seen c = ap cats_of c.as_slice-runs.ensures ∙ c.self.view_is

within : (c : goal.After-as_slice-runs) → c.args.i < length c.as_slice-runs.result.now
within c = omega (arith, c.requires, length-runs_of 0 c.as_slice-runs.result.now (apart c), ap (λ s. length (runs_of s)) (seen c))

pub offset_bounds-runs-i : goal.offset_bounds-runs-i
offset_bounds-runs-i c = omega (arith, within c, c.as_slice-runs.type_inv)

pub bounds-runs-i : goal.bounds-runs-i
bounds-runs-i c = within c

pub returns-clause-run : goal.returns-clause-run
unfolding none
returns-clause-run c =
    let runs = c.as_slice-runs.result.now in
    let r = get_or runs c.args.i none in
    let shown = ap runs_of (sym (seen c.before)) ∙ runs_of-cats_of 0 runs (apart c.before) in
    ap (λ xs. slice_get xs c.args.i) shown ∙ shown_at runs c.args.i r (within c.before) (get_or_default runs c.args.i none r (within c.before))

pub returns-clause-order : goal.returns-clause-order
unfolding none
returns-clause-order c = (apart_at 0 c.as_slice-runs.result.now c.args.i none (apart c.before) (within c.before)).1

pub returns-clause-categories : goal.returns-clause-categories
unfolding none
returns-clause-categories c = (apart_at 0 c.as_slice-runs.result.now c.args.i none (apart c.before) (within c.before)).2
