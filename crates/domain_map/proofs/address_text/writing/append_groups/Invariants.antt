use Rattle.std.proofs.Common.{◌≡◌, ◌∷◌, ◌++◌, take, flat_map}
use Rattle.std.specs.Net.Text.{hex}
use Rattle.domain_map.proofs.address_text.writing.append_groups.Given as goal

-- the groups so far are written, each behind a colon
abbrev pub invariant-loop-group : goal.invariant-loop-group
invariant-loop-group l = l.out.items ≡ l.initial.out.items ++ flat_map (λ t. 58 ∷ hex t) (take l.group-index l.others)
