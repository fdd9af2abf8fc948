use Rattle.std.proofs.Common.{◌≡◌, ◌≤◌, ◌+◌, ◌-◌, ◌<◌, ◌^◌, ℕ, [], IsTrue, Ok, length, drop}
use Rattle.std.specs.Prelude.{vec_capacity}
use Rattle.net_io.specs.Depot.{octets_of, OnlyReads}
use Rattle.net_io.specs.file_window.Window.{IsFrom}
use Rattle.pcapng_frames.specs.declared.fault.NgStop.TheVariants.{ReadFault}
use Rattle.pcapng_frames.specs.Reader.{NgChain, next_at}
use Rattle.pcapng_frames.specs.inside.Table.{KeepsTable}
use Rattle.pcapng_frames.proofs.blocks.read_frame.Given as goal

abbrev pub decreases-loop-head : goal.decreases-loop-head
decreases-loop-head g l = 2 ^ 41 - l.place

-- whole blocks lead from the start to here, and the frame that comes from here on is the one that comes from the start on
abbrev pub invariant-loop-head : goal.invariant-loop-head
invariant-loop-head g l =
    let before = g.D.Depot.state l.initial.depot in
    let file = octets_of (before.held l.name) in
    let start = l.initial.section.section in
    record {
      onward : l.initial.place ≤ l.place;
      empty : l.into.items ≡ [];
      small : l.place + length l.window < 2 ^ 64;
      later : KeepsTable l.initial.section l.section;
      memory : vec_capacity l.initial.into ≤ vec_capacity l.into;
      ahead : IsTrue before.tells → IsFrom file l.place l.window;
      chain : IsTrue before.tells → NgChain file start l.initial.place l.section.section l.place;
      answer : IsTrue before.tells → next_at l.section.section l.place (drop l.place file) ≡ next_at start l.initial.place (drop l.initial.place file);
      frame : OnlyReads {T = ℕ} ReadFault (Ok 0) l.name before (g.D.Depot.state l.depot);
    }
