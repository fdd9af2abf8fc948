use Rattle.std.proofs.Common.{refl, sym, ap, ◌∙◌, arith}
use Rattle.std.specs.Prelude.{option_copied}
use Rattle.domain_map.specs.declared.static_map.StaticEntry.{StaticEntry}
use Rattle.static_law.proofs.Places.{not_behind, not_of_another, is_there, is_one}
use Rattle.static_law.proofs.entries.Entries.high_at.Goals as goal

pub returns-then-place-count-clause-there : goal.returns-then-place-count-clause-there
returns-then-place-count-clause-there c = λ entry there.
    not_behind c.self.inside.statics.now (option_copied c.self.inside.interface) c.args.self.now c.self.view_is c.args.place entry (omega (arith, c.count.ensures, c.if-place-count.true)) there

pub returns-then-not-are_one-clause-there : goal.returns-then-not-are_one-clause-there
returns-then-not-are_one-clause-there c = λ entry there.
    not_of_another c.self.inside.statics.now (option_copied c.self.inside.interface) c.args.self.now c.self.view_is c.args.place _ entry c.entry.ensures.entry (sym c.are_one.ensures ∙ c.if-not-are_one.true) there

pub returns-clause-there : goal.returns-clause-there
returns-clause-there c =
    (_, is_there c.self.inside.statics.now (option_copied c.self.inside.interface) c.args.self.now c.self.view_is c.args.place _ c.entry.ensures.entry (sym c.are_one.ensures ∙ c.if-not-are_one.false), refl)

pub returns-clause-one : goal.returns-clause-one
returns-clause-one c = λ entry there.
    ap (λ (e : StaticEntry). e.high) (is_one c.self.inside.statics.now (option_copied c.self.inside.interface) c.args.self.now c.self.view_is c.args.place _ entry c.entry.ensures.entry there)
