use Rattle.net_io.specs.Memory.{memory_state}
use Rattle.captures.specs.Reader.{IsReadable}
use Rattle.capture_tests.proofs.of_captures.frames_are.Given as goal

-- the reader stands in its file
abbrev pub invariant-loop-head : goal.invariant-loop-head
invariant-loop-head l = record { ready : IsReadable (memory_state l.depot) l.reader }
