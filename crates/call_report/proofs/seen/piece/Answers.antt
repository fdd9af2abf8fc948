use Rattle.std.proofs.Common.{◌-◌, get_or, length, take, drop, Some, sym, ap, ◌∙◌}
use Rattle.call_report.proofs.Pieces.{piece_spans, piece_at}
use Rattle.call_report.proofs.seen.piece.Goals as goal

pub part-requires-clause-rises : goal.part-requires-clause-rises
part-requires-clause-rises c =
    let spans = piece_spans (length c.args.versions.now) 0 c.args.ends.now c.args.place c.requires.reach c.requires.within in
    rw c.start_of.ensures spans.rises

pub part-requires-clause-within : goal.part-requires-clause-within
part-requires-clause-within c = (piece_spans (length c.args.versions.now) 0 c.args.ends.now c.args.place c.requires.reach c.requires.within).within

pub returns : goal.returns
returns c =
    let versions = c.args.versions.now in
    let end = get_or c.args.ends.now c.args.place 0 in
    piece_at versions 0 c.args.ends.now c.args.place c.requires.within
    ∙ ap (λ start. Some (take (end - start) (drop start versions))) (sym c.start_of.ensures)
    ∙ ap Some (sym c.part.ensures)
