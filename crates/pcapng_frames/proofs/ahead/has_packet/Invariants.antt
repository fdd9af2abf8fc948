use Rattle.std.proofs.Common.{◌+◌, ◌<◌, ◌^◌, length}
use Rattle.pcapng_frames.proofs.ahead.has_packet.Given as goal

abbrev pub decreases-loop-head : goal.decreases-loop-head
decreases-loop-head l = length l.rest

abbrev pub invariant-loop-head : goal.invariant-loop-head
invariant-loop-head l = l.place + length l.rest < 2 ^ 64
