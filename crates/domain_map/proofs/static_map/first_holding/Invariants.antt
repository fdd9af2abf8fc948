use Rattle.std.proofs.Common.{◌≡◌, ◌&&◌, length, find, map}
use Rattle.std.specs.Option.{option_copied}
use Rattle.domain_map.specs.address_text.Prefix.{holds}
use Rattle.domain_map.specs.declared.order.Ranked.{Ranked}
use Rattle.domain_map.specs.Domains.{same_domain}
use Rattle.domain_map.specs.inside.Order.{Tells}
use Rattle.domain_map.specs.inside.Ranking.{passes_at}
use Rattle.domain_map.proofs.static_map.first_holding.Given as goal

-- nothing so far passes
abbrev pub invariant-loop-rest : goal.invariant-loop-rest
invariant-loop-rest l = let test = λ (r : Ranked). passes_at (λ e. same_domain (option_copied l.interface) e.interface && holds e.prefix l.address) l.entries r.place in record {
  tells : Tells (map (λ e. e.prefix.bits) l.entries) l.rest;
  found : find test l.order ≡ find test l.rest;
}

abbrev pub decreases-loop-rest : goal.decreases-loop-rest
decreases-loop-rest l = length l.rest
