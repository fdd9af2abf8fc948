use Rattle.std.proofs.Common.{◌≡◌, ◌≤◌, length, map, fold, max, find}
use Rattle.script_lines.specs.Form.{with_translations}
use Rattle.script_lines.specs.Said.{fits_row, shared_words}
use Rattle.script_lines.proofs.said.read_row.Given as goal

-- the search goes on in the rest of the rows
abbrev pub invariant-loop-rest : goal.invariant-loop-rest
invariant-loop-rest l = record {
  row : find (fits_row with_translations l.words) l.rows ≡ find (fits_row with_translations l.words) l.rest;
  most : fold max 0 (map (shared_words with_translations l.words) l.rows) ≡ fold max l.most (map (shared_words with_translations l.words) l.rest);
  within : l.most ≤ length l.words;
}

abbrev pub decreases-loop-rest : goal.decreases-loop-rest
decreases-loop-rest l = length l.rest
