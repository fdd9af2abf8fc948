-- Counts by their places, in words that private clauses share.
use Rattle.std.specs.Prelude.{ℕ, zero, suc, List, [], ◌∷◌}
use Rattle.netlabel_report.specs.declared.report_telling.counts.DenialPlace.{DenialPlace}
use Rattle.netlabel_report.specs.declared.report_telling.counts.DenialCount.{DenialCount}
use Rattle.netlabel_report.specs.report_telling.Counts.{Tally, risen}

-- the tally of a place with its count
abbrev pub tally_at : DenialPlace × DenialCount → Tally
tally_at entry = record { reason = entry.0.reason; name = entry.1.name; hop = entry.0.hop; node = entry.0.node; count = entry.1.count }

-- one more of a count
abbrev pub one_more : DenialCount → DenialCount
one_more denied = record { name = denied.name; count = risen denied.count }

-- one more at the place of this index
abbrev pub raised_at : List (DenialPlace × DenialCount) → ℕ → List (DenialPlace × DenialCount)
raised_at [] at = []
raised_at (entry ∷ entries) zero = (entry.0, one_more entry.1) ∷ entries
raised_at (entry ∷ entries) (suc at) = entry ∷ raised_at entries at
