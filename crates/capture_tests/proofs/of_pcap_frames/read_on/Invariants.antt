use Rattle.net_io.specs.Memory.{memory_state}
use Rattle.pcap_frames.specs.Reader.{IsReady}
use Rattle.capture_tests.proofs.of_pcap_frames.read_on.Given as goal

-- the reader stands in its file
abbrev pub invariant-loop-turn : goal.invariant-loop-turn
invariant-loop-turn l = record { ready : IsReady (memory_state l.depot) l.frames }
