use Rattle.std.proofs.Common.{◌≡◌, ◌+◌, ◌++◌, ◌∷◌, [], length, ap, ◌∙◌, arith, length-append}
use Rattle.call_report.specs.inside.Seen.{pieces_of}
use Rattle.call_report.proofs.Pieces.{reach_bound, reach_push, pieces_push}
use Rattle.call_report.proofs.seen.push_piece.Goals as goal

pub overflow_cast-size : goal.overflow_cast-size
overflow_cast-size c =
    let bound = reach_bound (length c.args.versions.now.items) 0 c.args.ends.now.items c.requires.reach in
    let size : c.size.result ≡ length c.args.versions.now.items + length c.args.piece.now =
    c.size.ensures ∙ ap length c.in_ok-append_piece.ensures.ok ∙ length-append c.args.versions.now.items c.args.piece.now in
    omega (arith, size, bound, c.requires.few, c.requires.room)

grown : (c : goal.In-Ok) → length c.append_piece.new.versions.items ≡ length c.args.versions.now.items + length c.args.piece.now
grown c = ap length c.in_ok-append_piece.ensures.ok ∙ length-append c.args.versions.now.items c.args.piece.now

pushed : (c : goal.In-Ok) → c.push.new.self.items ≡ c.args.ends.now.items ++ (length c.args.versions.now.items + length c.args.piece.now) ∷ []
pushed c = c.in-Ok.ensures.items ∙ ap (λ n. c.args.ends.now.items ++ n ∷ []) (c.size.ensures ∙ grown c)

pub returns-in-Ok-clause-reach : goal.returns-in-Ok-clause-reach
returns-in-Ok-clause-reach c =
    rw (grown c, pushed c) (reach_push (length c.args.versions.now.items) 0 (length c.args.piece.now) c.args.ends.now.items c.requires.reach c.requires.few)

pub returns-in-Ok-clause-ok : goal.returns-in-Ok-clause-ok
returns-in-Ok-clause-ok c =
    (λ i. pieces_of (c.in_ok-append_piece.ensures.ok i) 0 (pushed c i)) ∙ pieces_push c.args.versions.now.items c.args.piece.now 0 c.args.ends.now.items c.requires.reach
