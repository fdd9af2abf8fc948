use Rattle.std.proofs.Common.{◌≡◌, ◌<◌, ◌≤◌, ◌-◌, ℕ, IsTrue, vec_len, take, Ok}
use Rattle.net_io.specs.Depot.{octets_of, OnlyReads}
use Rattle.net_io.specs.declared.fault.WholeFault.TheVariants.{Failed}
use Rattle.net_io.proofs.reading.read_whole.Given as goal

abbrev pub decreases-loop-piece : goal.decreases-loop-piece
decreases-loop-piece g l = l.most - vec_len l.whole

-- so far the first octets of the file were read
abbrev pub invariant-loop-piece : goal.invariant-loop-piece
invariant-loop-piece g l =
    let before = g.D.Depot.state l.initial.depot in
    record {
      piece : 0 < vec_len l.piece;
      within : vec_len l.whole ≤ l.most;
      octets : IsTrue before.tells → l.whole.items ≡ take (vec_len l.whole) (octets_of (before.held l.name));
      frame : OnlyReads {T = ℕ} Failed (Ok 0) l.name before (g.D.Depot.state l.depot);
    }
