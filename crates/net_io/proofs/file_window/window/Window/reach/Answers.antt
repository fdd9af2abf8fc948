use Rattle.std.proofs.Common.{arith, ◌+◌, ◌++◌, ◌∙◌, ap, sym, length, take, drop, is_some}
use Rattle.net_io.specs.Depot.{octets_of}
use Rattle.net_io.specs.declared.fault.IoFault.TheVariants.{Failed}
use Rattle.net_io.proofs.Frames.{reads_on, reads_any}
use Rattle.net_io.proofs.file_window.Parts.{grows}
use Rattle.net_io.proofs.file_window.window.Window.reach.Goals as goal

pub loop-self-preserved : goal.loop-self-preserved
loop-self-preserved g c =
    let so_far = c.loop-self.invariant in
    let read = c.in_ok-read_on.ensures in
    let n = c.in_ok-read_on.field-0 in
    let name = c.args.name.now in
    let file = (g.D.Depot.state c.args.depot.now).held name in
    let at = c.args.place in
    let window = c.loop-self.self in
    record {
      grown = omega (arith, so_far.grown, read.count);
      place = read.place;
      ahead = λ told.
          grows (octets_of file) at n window c.read_on.new.self (so_far.ahead told) read.count
          (read.octets (so_far.frame.told ∙ told) ∙ ap (λ f. window ++ take n (drop (at + length window) (octets_of f))) (so_far.frame.kept told name));
      present = λ told some. ap is_some (sym (so_far.frame.kept told name)) ∙ read.present (so_far.frame.told ∙ told);
      frame = reads_any Failed _ 0 name _ _ (reads_on Failed 0 _ name _ _ _ so_far.frame read.frame);
    }
