use Rattle.std.proofs.Common.{ℕ, ◌<◌, Contains}
use Rattle.domain_map.specs.declared.static_map.StaticEntry.{StaticEntry}
use Rattle.static_law.proofs.entries.Entries.is_empty.Given as goal

abbrev pub invariant-loop-place : goal.invariant-loop-place
invariant-loop-place l = (place : ℕ) (entry : StaticEntry) → place < l.place → Contains l.self (place, entry) → ⊥
