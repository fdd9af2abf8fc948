use Rattle.std.proofs.Common.{remove, length, sym, ap, ◌∙◌}
use Rattle.domain_map.specs.declared.rule.Rule.TheVariants.{Addresses}
use Rattle.domain_map.specs.Domains.{fewer}
use Rattle.domain_map.proofs.Lookups.{no_fewer, fewer_left}
use Rattle.domain_map.proofs.rule.Rule.remove.Goals as goal

pub returns-in_err-at-in-Addresses : goal.returns-in_err-at-in-Addresses
returns-in_err-at-in-Addresses c =
    let none = no_fewer c.in-Addresses.list c.args.prefix.now (sym c.in_err-at-in-Addresses.ensures) in
    rw c.from_residual.ensures (ap (λ rule. fewer rule c.args.prefix.now) c.in-Addresses.is ∙ none, sym c.in-Addresses.is)

pub returns-in_ok-at-in-Addresses : goal.returns-in_ok-at-in-Addresses
returns-in_ok-at-in-Addresses c = record {
  addresses = remove c.in-Addresses.list c.in_ok-at-in-Addresses.at;
  fewer_is = ap (λ rule. fewer rule c.args.prefix.now) c.in-Addresses.is ∙ fewer_left c.in-Addresses.list c.args.prefix.now c.in_ok-at-in-Addresses.at (sym c.in_ok-at-in-Addresses.ensures);
  count = c.len.ensures.len ∙ ap length c.remove.ensures;
  new_is = ap Addresses c.remove.ensures;
}
