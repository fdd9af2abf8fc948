use Rattle.std.proofs.Common.{true, cond, Some, suc, sym, ap, ◌∙◌, drop, add-one}
use Rattle.std.specs.Map.{lookup}
use Rattle.std.specs.Option.{option_copied}
use Rattle.domain_map.specs.Domains.{same_domain}
use Rattle.domain_map.proofs.Rules.{drop_step}
use Rattle.domain_map.proofs.named.first_named.Goals as goal

pub returns-then-is_named : goal.returns-then-is_named
returns-then-is_named g c =
    let test = same_domain (option_copied c.args.name) in
    let value = c.entry_at.result.1.now in
    sym (c.loop-place.invariant ∙ ap (lookup test) (drop_step c.args.entries.now.entries c.loop-place.place _ c.entry_at.ensures)
    ∙ ap (λ hit. cond hit (Some value) (lookup test (drop (suc c.loop-place.place) c.args.entries.now.entries))) (sym c.is_named.ensures ∙ c.if-is_named.true))

pub loop-place-preserved : goal.loop-place-preserved
loop-place-preserved g c =
    let test = same_domain (option_copied c.args.name) in
    let value = c.entry_at.result.1.now in
    c.loop-place.invariant ∙ ap (lookup test) (drop_step c.args.entries.now.entries c.loop-place.place _ c.entry_at.ensures)
    ∙ ap (λ hit. cond hit (Some value) (lookup test (drop (suc c.loop-place.place) c.args.entries.now.entries))) (sym c.is_named.ensures ∙ c.if-is_named.false)
    ∙ ap (λ n. lookup test (drop n c.args.entries.now.entries)) (sym (add-one c.loop-place.place))
