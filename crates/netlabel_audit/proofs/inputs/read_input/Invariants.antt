use Rattle.std.proofs.Common.{◌≡◌, ℕ, Ok}
use Rattle.std.specs.Prelude.{IsTrue}
use Rattle.net_io.specs.Depot.{OnlyReads}
use Rattle.captures.specs.Reader.{IsReadable, file_name_of}
use Rattle.netlabel_audit.specs.declared.stop.AuditStop.TheVariants.{Unread}
use Rattle.netlabel_audit.proofs.Reading.{IsAmid}
use Rattle.netlabel_audit.proofs.inputs.read_input.Given as goal

abbrev pub decreases-loop-head : goal.decreases-loop-head
decreases-loop-head g l = l.left

-- so many frames may still be read, and the reader stands in front of the next
abbrev pub invariant-loop-head : goal.invariant-loop-head
invariant-loop-head g l =
    let start = g.D.Depot.state l.fn.depot in
    let now = g.D.Depot.state l.depot in
    record {
      amid : IsTrue start.tells → IsAmid l.fn.most (start.held l.fn.name) l.reader l.left;
      ready : IsReadable now l.reader;
      name : file_name_of l.reader ≡ l.fn.name;
      frame : OnlyReads {T = ℕ} Unread (Ok 0) l.fn.name start now;
    }
