use Rattle.std.proofs.Common.{sym, ◌∙◌, Some}
use Rattle.domain_map.specs.Protocol.{has_doi}
use Rattle.domain_map.proofs.Lookups.{any-map}
use Rattle.domain_map.proofs.rule.Rule.names_doi.Goals as goal

pub returns-in-Addresses : goal.returns-in-Addresses
returns-in-Addresses c =
    rw c.in-Addresses.is (c.names_doi.ensures ∙ sym (any-map (λ e. (Some e.0, e.1)) (λ line. has_doi c.args.proto c.args.doi line.1) c.in-Addresses.list))
