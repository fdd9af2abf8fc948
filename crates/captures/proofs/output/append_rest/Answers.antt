use Rattle.captures.proofs.Appends.{append_fails}
use Rattle.captures.proofs.output.append_rest.Goals as goal

pub returns-in-Err-clause-appended : goal.returns-in-Err-clause-appended
returns-in-Err-clause-appended g c =
    let clauses = rw c.as_slice.ensures.value at c.in-Err.ensures in
    append_fails c.in-Err.fault c.args.name.now c.args.waits.now.items (g.D.Depot.state c.args.depot.now) (g.D.Depot.state c.append_all.new.depot) c.requires clauses.err clauses.frame
