use Rattle.std.proofs.Common.{◌<◌, ◌≤◌, Ok, sym, ap, ◌∙◌, length, arith}
use Rattle.indexmap.specs.IndexMap.{insert_entry}
use Rattle.domain_map.specs.Domains.{same_domain}
use Rattle.domain_map.proofs.Rules.{new_full, new_added}
use Rattle.domain_map.proofs.map.DomainMap.add_entry.Goals as goal

pub returns-then-len-eq-MOST_DOMAINS-clause-refused : goal.returns-then-len-eq-MOST_DOMAINS-clause-refused
returns-then-len-eq-MOST_DOMAINS-clause-refused c =
    let full : 256 ≤ length c.args.self.now = omega (arith, c.len.ensures.len, c.if-len-eq-MOST_DOMAINS.true, ap length c.self.view_is) in
    new_full c.args.self.now c.args.key c.requires c.args.prefix c.args.protocol full

pub returns-in-Ok-clause-ok : goal.returns-in-Ok-clause-ok
returns-in-Ok-clause-ok c =
    let few : length c.args.self.now < 256 = omega (arith, c.len.ensures.len, c.self.invariant, c.if-len-eq-MOST_DOMAINS.false, ap length c.self.view_is) in
    new_added c.args.self.now c.args.key c.requires c.args.prefix c.args.protocol c.in_ok-rule.rule few c.in_ok-rule.ensures
    ∙ ap (λ es. Ok (insert_entry same_domain es c.args.key c.in_ok-rule.rule)) (sym c.self.view_is) ∙ ap Ok (sym c.in-Ok.ensures.entries)
