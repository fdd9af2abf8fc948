use Rattle.std.proofs.Common.{arith, ap, sym, subst, ◌∙◌, ◌≡◌, ◌<◌, ◌≤◌, ◌+◌, ◌-◌, min, length, take, drop, length-drop, is_some}
use Rattle.std.proofs.lemmas.List.{take_rest}
use Rattle.net_io.specs.Depot.{octets_of}
use Rattle.net_io.specs.declared.fault.IoFault.TheVariants.{Failed}
use Rattle.net_io.proofs.Frames.{reads_on, reads_any}
use Rattle.net_io.proofs.Parts.{rest_more, octets_more, read_count, read_same}
use Rattle.net_io.proofs.reading.read_full.Goals as goal

pub loop-done-preserved : goal.loop-done-preserved
loop-done-preserved g c =
    let read = c.in_ok-n.ensures.ok in
    let so_far = c.loop-done.invariant in
    let buf = c.loop-done.buf in
    let part = c.read_at.new.buf in
    let d = c.loop-done.done in
    let n = c.in_ok-n.n in
    let name = c.args.name.now in
    let file = (g.D.Depot.state c.args.depot.now).held name in
    record {
      place = omega (arith, read.place);
      rest = rest_more d n c.args.buf.now buf part (omega arith) so_far.rest read.rest;
      octets = λ told.
          octets_more file c.args.at d n buf part (omega arith) (omega (arith, length-drop d buf, ap length (take_rest buf d)))
          (so_far.octets told)
          (read_same _ file (c.args.at + d) n part (so_far.frame.kept told name) (read.octets (so_far.frame.told ∙ told)));
      present = λ told some. ap is_some (sym (so_far.frame.kept told name)) ∙ read.present (so_far.frame.told ∙ told);
      frame = reads_any Failed _ 0 name _ _ (reads_on Failed 0 _ name _ _ _ so_far.frame c.in_ok-n.ensures.frame);
    }

pub returns-then-n-eq0-clause-count : goal.returns-then-n-eq0-clause-count
returns-then-n-eq0-clause-count g c = λ told.
    let read = c.in_ok-n.ensures.ok in
    let so_far = c.loop-done.invariant in
    let buf = c.loop-done.buf in
    let d = c.loop-done.done in
    let name = c.args.name.now in
    let file = (g.D.Depot.state c.args.depot.now).held name in
    let room : 0 < length (take (length buf - d) (drop d buf)) = omega (arith, length-drop d buf, ap length (take_rest buf d)) in
    let end : length (octets_of file) ≤ c.args.at + d =
    subst (λ f. length (octets_of f) ≤ c.args.at + d) (so_far.frame.kept told name) (read.end (so_far.frame.told ∙ told) c.if-n-eq0.true room) in
    let same : length buf ≡ length c.args.buf.now = omega arith in
    let count : d ≡ min (length buf) (length (octets_of file) - c.args.at) = read_count file c.args.at d buf (omega arith) (so_far.octets told) end in
    omega (arith, count)
