use Rattle.call_report.specs.script_input.Neighbours.{hop_with}
use Rattle.static_law.proofs.Coverage.{link_found_is}
use Rattle.static_law.proofs.top.CoverageCompares.compare.Goals as goal

pub returns : goal.returns
returns c =
    link_found_is (hop_with c.args.left.now.hop.now c.args.left.now.tables.now c.args.left.now.reading.now) (hop_with c.args.right.now.hop.now c.args.right.now.tables.now c.args.right.now.reading.now) c.covers.result
    (rw (c.interface_out.ensures, c.interface_in.ensures) at c.covers.ensures.covered) (rw (c.interface_out.ensures, c.interface_in.ensures) at c.covers.ensures.reason)
