use Rattle.label_flow.specs.inside.Crew.{first_of}
use Rattle.label_flow.proofs.staff.all_batches.Given as goal

abbrev pub ghosts-with_crew : goal.ghosts-with_crew
ghosts-with_crew g a = record {
  board = (first_of a.viewers.now).board;
  plan = (first_of a.viewers.now).plan;
  hops = a.flow.now.hops;
  left = g.Q.Feed.left a.feed.now;
}
