use Rattle.std.proofs.Common.{◌≡◌, drop}
use Rattle.doi_table.specs.Table.{definition_of}
use Rattle.doi_table.proofs.table.first_named.Given as goal

-- no definition so far has the name
abbrev pub invariant-loop-place : goal.invariant-loop-place
invariant-loop-place l = definition_of l.definitions.entries l.proto l.doi ≡ definition_of (drop l.place l.definitions.entries) l.proto l.doi
