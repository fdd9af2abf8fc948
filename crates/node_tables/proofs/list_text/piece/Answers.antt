use Rattle.std.proofs.Common.{rules, arith, length, take, drop, get_or, ap, sym, ◌-◌, ◌∙◌, Some}
use Rattle.node_tables.proofs.Lines.{piece_order, piece_within, piece_at}
use Rattle.node_tables.proofs.list_text.piece.Goals as goal

pub slice_bounds-result-count : goal.slice_bounds-result-count
slice_bounds-result-count c =
    let order = piece_order 0 c.args.ends.now (length c.args.text.now) c.args.i c.requires.ends c.requires.within in
    omega (arith, c.start_of-from.ensures)

pub slice_bounds-result-start : goal.slice_bounds-result-start
slice_bounds-result-start c =
    let order = piece_order 0 c.args.ends.now (length c.args.text.now) c.args.i c.requires.ends c.requires.within in
    let within = piece_within 0 c.args.ends.now (length c.args.text.now) c.args.i c.requires.ends c.requires.within in
    search rules

pub slice_bounds-result-end : goal.slice_bounds-result-end
slice_bounds-result-end c =
    let order = piece_order 0 c.args.ends.now (length c.args.text.now) c.args.i c.requires.ends c.requires.within in
    let within = piece_within 0 c.args.ends.now (length c.args.text.now) c.args.i c.requires.ends c.requires.within in
    search rules

pub returns : goal.returns
returns c =
    let end = get_or c.args.ends.now c.args.i 0 in
    piece_at 0 c.args.ends.now c.args.text.now c.args.i c.requires.within ∙ ap (λ from. Some (take (end - from) (drop from c.args.text.now))) (sym c.start_of-from.ensures)
