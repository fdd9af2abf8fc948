use Rattle.std.proofs.Common.{ℕ, ◌<◌, Contains}
use Rattle.domain_map.specs.declared.static_map.StaticEntry.{StaticEntry}
use Rattle.label_commands.specs.node_readings.Meaning.{meaning_of}
use Rattle.static_law.specs.Covered.{MeansNoLess}
use Rattle.static_law.proofs.entries.Entries.first_low.Given as goal

abbrev pub invariant-loop-place : goal.invariant-loop-place
invariant-loop-place l = (place : ℕ) (entry : StaticEntry) → place < l.place → Contains l.self (place, entry) → MeansNoLess l.reading (meaning_of l.least_reading l.least) entry
