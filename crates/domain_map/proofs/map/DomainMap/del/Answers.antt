use Rattle.std.proofs.Common.{◌≡◌, Some, true, is_some, sym, ap, ◌∙◌}
use Rattle.std.specs.List.{position}
use Rattle.std.specs.Map.{keys_of}
use Rattle.domain_map.specs.Domains.{same_domain, rule_of, deleted}
use Rattle.domain_map.proofs.Rules.{deleted_at}
use Rattle.domain_map.proofs.map.DomainMap.del.Goals as goal

pub returns-in-None-clause-ok : goal.returns-in-None-clause-ok
returns-in-None-clause-ok c =
    let ds = c.self.inside.rules.entries in
    let d = c.key_of-key.result in
    let there : position (same_domain d) (keys_of ds) ≡ Some c.in-Some.place = sym c.in-Some.ensures.index in
    let some : is_some (rule_of ds d) ≡ true = sym c.in-Some.ensures.found in
    (λ i. deleted (sym c.self.view_is i) (sym c.key_of-key.ensures i) (c.in-None.is i)) ∙ deleted_at ds d c.in-Some.place there some ∙ ap Some (sym c.shift_remove_index.ensures.entries)
