use Rattle.std.proofs.Common.{ℕ, inl, inr, subst, arith}
use Rattle.std.specs.Prelude.{Contains, option_copied}
use Rattle.std.proofs.lemmas.Bool.{cases_eq}
use Rattle.static_law.proofs.Places.{none_contained, within, where_none}
use Rattle.static_law.proofs.entries.Entries.is_empty.Goals as goal

pub loop-place-preserved : goal.loop-place-preserved
loop-place-preserved c = λ place entry lt there.
    elim (cases_eq place c.loop-place.place) [
      | inl same ↦ where_none _ _ c.high_at.result c.if-is_some.ensures c.high_at.ensures.there entry (subst (λ (k : ℕ). Contains c.args.self.now (k, entry)) same there)
      | inr ne ↦ c.loop-place.invariant place entry (omega (arith, lt, ne)) there
    ]

pub returns : goal.returns
returns c = none_contained c.args.self.now (λ place entry there.
    let lt = within c.self.inside.statics.now (option_copied c.self.inside.interface) c.args.self.now c.self.view_is place entry there in
    c.loop-place.invariant place entry (omega (arith, lt, c.loop-place-test.false, c.count-place-end.ensures)) there)
