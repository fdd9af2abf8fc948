use Rattle.std.proofs.Common.{◌≡◌, ◌+◌, ◌-◌, ◌≤◌, ◌++◌, length, drop}
use Rattle.static_law.specs.Cover.{links_text}
use Rattle.static_law.proofs.top.append_links.Given as goal

abbrev pub decreases-loop-place : goal.decreases-loop-place
decreases-loop-place l = length l.found - l.place

-- what is written with what is still to be written is all
abbrev pub invariant-loop-place : goal.invariant-loop-place
invariant-loop-place l = record {
  within : l.place ≤ length l.found;
  whole : l.lines.items ++ links_text (l.place + 1) (drop l.place l.found) ≡ l.initial.lines.items ++ links_text 1 l.found;
}
