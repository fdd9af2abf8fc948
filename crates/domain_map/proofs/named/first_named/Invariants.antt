use Rattle.std.proofs.Common.{◌≡◌, drop}
use Rattle.std.specs.Option.{option_copied}
use Rattle.std.specs.Map.{lookup}
use Rattle.domain_map.specs.Domains.{same_domain}
use Rattle.domain_map.proofs.named.first_named.Given as goal

-- no entry so far has the name
abbrev pub invariant-loop-place : goal.invariant-loop-place
invariant-loop-place g l = lookup (same_domain (option_copied l.name)) l.entries.entries ≡ lookup (same_domain (option_copied l.name)) (drop l.place l.entries.entries)
