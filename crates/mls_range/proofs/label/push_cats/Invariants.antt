use Rattle.std.proofs.Common.{◌≡◌, ◌+◌, ◌-◌, ◌*◌, ◌≤◌, ◌++◌, length, vec_len, vec_capacity}
use Rattle.mls_label.specs.Runs.{runs_of}
use Rattle.mls_range.specs.inside.Rest.{separated}
use Rattle.mls_range.proofs.Written.{front_terms, next_separator}
use Rattle.mls_range.proofs.label.push_cats.Given as goal

-- the terms of the first runs are written, and there is room for those of the others
abbrev pub invariant-loop-i : goal.invariant-loop-i
invariant-loop-i l = record {
  written : l.out.items ≡ l.fn.out.items ++ separated 58 (front_terms (runs_of l.cats) l.i);
  separator : l.separator ≡ next_separator 58 (front_terms (runs_of l.cats) l.i);
  room : vec_len l.out + 14 * (length (runs_of l.cats) - l.i) ≤ vec_capacity l.out;
}
