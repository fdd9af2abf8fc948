use Rattle.std.proofs.Common.{◌≡◌, ◌≤◌, ◌<◌, ◌⊎◌, ◌-◌, ◌+◌, IsTrue, length, None}
use Rattle.captures.specs.Reader.{file_name_of, IsReadable}
use Rattle.script_run.specs.flow_run.inside.Source.{IsAmid, HasGot, HasOnlyRead, read_into, file_of}
use Rattle.script_run.proofs.flow_run.source.fill.Given as goal

abbrev pub decreases-loop-room : goal.decreases-loop-room
decreases-loop-room g l = 1024 - length l.source.heads.items

-- so many packets were read, one behind the other, and the reader stands in front of the next
abbrev pub invariant-loop-room : goal.invariant-loop-room
invariant-loop-room g l =
    let before = g.D.Depot.state l.fn.depot in
    let now = g.D.Depot.state l.depot in
    record {
      within : l.source.read ≤ l.source.most;
      ready : IsReadable now l.source.reader;
      amid : IsTrue before.tells → IsAmid l.source (file_of before l.fn.source);
      reads : HasOnlyRead None (file_name_of l.fn.source.reader) before now;
      got : HasGot before.tells (file_of before l.fn.source) l.fn.source l.source (read_into l.fn.source l.fn.batch.items) (read_into l.source l.batch.items);
      behind : l.source.behind ≡ None;
      few : length l.source.heads.items ≤ 1024;
      counted : length l.source.heads.items + l.fn.source.read ≡ length l.fn.source.heads.items + l.source.read;
      places : length l.source.heads.items ≤ length l.batch.items;
      some : (0 < l.room) ⊎ (0 < length l.source.heads.items);
    }
