use Rattle.std.proofs.Common.{◌≡◌, ◌∷◌, ◌++◌, take, flat_map}
use Rattle.script_lines.proofs.command_values.list.append_entries.Given as goal

-- the entries so far are written, each behind a comma
abbrev pub invariant-loop-entry : goal.invariant-loop-entry
invariant-loop-entry g l = l.out.items ≡ l.initial.out.items ++ flat_map (λ y. 44 ∷ g.E.ListEntry.text_of y) (take l.entry-index l.others)
