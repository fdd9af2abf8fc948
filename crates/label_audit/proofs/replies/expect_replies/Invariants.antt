use Rattle.std.proofs.Common.{◌-◌, ◌≡◌, ◌≤◌, ℕ, List, length, Ok}
use Rattle.std.specs.Prelude.{IsTrue, true}
use Rattle.node_tables.specs.Steps.{tables_after}
use Rattle.call_report.specs.Lines.Reply.{replies_text}
use Rattle.label_audit.specs.inside.Reading.{HasRead, IsExpected, file_of}
use Rattle.label_audit.proofs.replies.expect_replies.Given as goal

abbrev pub invariant-loop-replies : goal.invariant-loop-replies
invariant-loop-replies g l =
    let before = g.D.Depot.state l.initial.depot in
    record {
      low : l.initial.replies.done ≤ l.replies.done;
      within : l.replies.done ≤ l.upto;
      tables : l.replies.network ≡ tables_after (length l.script.nodes) l.script.steps l.replies.done;
      read : (names : List (List ℕ)) → HasRead {T = Unit {0}} names (Ok tt) l.initial.report l.report before (g.D.Depot.state l.depot);
      expected : IsTrue before.tells
          → IsExpected (file_of before l.initial.report) (replies_text l.script.nodes l.script.steps l.initial.replies.done (l.replies.done - l.initial.replies.done)) l.initial.place l.place true;
    }

abbrev pub decreases-loop-replies : goal.decreases-loop-replies
decreases-loop-replies g l = l.upto - l.replies.done
