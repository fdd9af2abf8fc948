use Rattle.std.proofs.Common.{◌≡◌, map, unwrap_or}
use Rattle.label_commands.specs.Script.{no_meanings}
use Rattle.label_commands.proofs.draft.all_readings.Given as goal

abbrev pub invariant-loop-reading : goal.invariant-loop-reading
invariant-loop-reading l = l.all.items ≡ map (λ named. unwrap_or named no_meanings) l.yielded
