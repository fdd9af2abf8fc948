use Rattle.std.proofs.Common.{◌≡◌, Some, None, drop, take}
use Rattle.std.specs.Option.{option_copied}
use Rattle.std.specs.Map.{lookup}
use Rattle.domain_map.specs.Domains.{same_domain}
use Rattle.domain_map.proofs.named.first_or_default.Given as goal

-- no entry so far has the name, and the default one is the one of those so far
abbrev pub invariant-loop-place : goal.invariant-loop-place
invariant-loop-place g l = record {
  named : lookup (same_domain (Some l.name)) l.entries.entries ≡ lookup (same_domain (Some l.name)) (drop l.place l.entries.entries);
  default : option_copied l.default ≡ lookup (same_domain None) (take l.place l.entries.entries);
}
