use Rattle.std.proofs.Common.{◌≡◌, ◌+◌, ◌-◌, ◌++◌, ◌<◌, ◌≤◌, ◌^◌, false, length, drop}
use Rattle.std.specs.Prelude.{◌==◌, IsTrue}
use Rattle.std.specs.List.{All}
use Rattle.net_io.specs.Depot.{octets_of}
use Rattle.net_io.specs.declared.fault.IoFault.TheVariants.{Failed}
use Rattle.net_io.specs.file_window.Window.{IsFrom}
use Rattle.netlabel_report.proofs.Depots.{IsReadSoFar}
use Rattle.netlabel_report.proofs.lines.next_line.Given as goal

-- these octets of the line were read, and the window stands behind them
abbrev pub invariant-loop-next : goal.invariant-loop-next
invariant-loop-next g l =
    let start = g.D.Depot.state l.fn.depot in
    let file = octets_of (start.held l.fn.name) in
    record {
      none : All (λ c. (c == 10) ≡ false) l.line.items;
      within : length l.line.items ≤ 1048576;
      at : l.fn.place ≤ l.place;
      text : IsTrue start.tells → drop l.fn.place file ≡ l.line.items ++ drop l.place file;
      ahead : IsTrue start.tells → IsFrom file l.place l.window;
      room : l.place + length l.window < 2 ^ 64;
      so : IsReadSoFar Failed l.fn.name start (g.D.Depot.state l.depot);
    }

abbrev pub decreases-loop-next : goal.decreases-loop-next
decreases-loop-next g l = 1048577 - length l.line.items
