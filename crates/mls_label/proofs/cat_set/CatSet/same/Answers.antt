use Rattle.std.proofs.Common.{◌≡◌, ◌&&◌, eqb, ap, sym, ◌∙◌, Decides}
use Rattle.std.proofs.lemmas.Bool.{and_parts, and_from, eqb-true, eq-eqb}
use Rattle.std.proofs.lemmas.Slice.Eq.{slice_eq-Decides}
use Rattle.mls_label.specs.declared.cat_set.Run.{Run}
use Rattle.mls_label.specs.inside.Kept.{cats_of}
use Rattle.mls_label.proofs.Runs.{kept_same}
use Rattle.mls_label.proofs.cat_set.CatSet.same.Goals as goal

run_eq : (a b : Run) → Decides (eqb a.first b.first && eqb a.last b.last) (a ≡ b)
run_eq a b = (
  λ e.
      let both = and_parts (eqb a.first b.first) (eqb a.last b.last) e in
      let first : a.first ≡ b.first = eqb-true a.first b.first both.0 in
      let last : a.last ≡ b.last = eqb-true a.last b.last both.1 in
      λ i. record { first = first i; last = last i },
  λ e.
      and_from (eqb a.first b.first) (eqb a.last b.last) (eq-eqb a.first b.first (ap (λ (r : Run). r.first) e)) (eq-eqb a.last b.last (ap (λ (r : Run). r.last) e)),
)

pub returns : goal.returns
returns c =
    let slices : Decides c.eq.result (c.as_slice.result.now ≡ c.as_slice-2.result.now) = slice_eq-Decides {A = Run} run_eq c.as_slice.result.now c.as_slice-2.result.now c.eq.result c.eq.ensures in (
      λ e. sym c.self.view_is ∙ ap cats_of (sym c.as_slice.ensures ∙ (slices.0 e ∙ c.as_slice-2.ensures)) ∙ c.other.view_is,
      λ e. slices.1 (c.as_slice.ensures ∙ kept_same c.self.inside.runs c.other.inside.runs c.self.invariant.apart c.other.invariant.apart (c.self.view_is ∙ (e ∙ sym c.other.view_is)) ∙ sym c.as_slice-2.ensures),
    )
