use Rattle.std.proofs.Common.{◌*◌}
use Rattle.mls_label.proofs.category_bitmap.Turns.{turning_from, with_begun, turned_all, up_to_turn, behind_all, turn_begins, turn_ends}
use Rattle.mls_label.proofs.category_bitmap.read.read_word.Goals as goal
use Rattle.mls_label.proofs.category_bitmap.read.read_word.Goals.{in-Some+else-turns-eq0, in_default}

pub returns-then-turns-eq0 : goal.returns-then-turns-eq0
returns-then-turns-eq0 c =
    let t = turning_from c.args.bitmap.now c.args.cats.now c.args.begun (8 * c.args.at) c.word_at.result c.turns_of-turns.result c.is_some.result c.is_some.ensures c.requires.read c.word_at.ensures c.turns_of-turns.ensures in
    turned_all _ _ _ _ _ c.if-turns-eq0.true (with_begun _ _ _ _ _ _ c.in-Some.is t)

pub append_run-requires-clause-behind : goal.append_run-requires-clause-behind
append_run-requires-clause-behind c =
    let t = turning_from c.args.bitmap.now c.args.cats.now c.args.begun (8 * c.args.at) c.word_at.result c.turns_of-turns.result c.is_some.result c.is_some.ensures c.requires.read c.word_at.ensures c.turns_of-turns.ensures in
    behind_all _ _ _ _ (up_to_turn _ _ _ _ _ _ _ (with_begun _ _ _ _ _ _ c.in-Some.is t) c.next_turn-place.ensures)

pub loop-turns-init : goal.loop-turns-init
loop-turns-init c =
    let t = turning_from c.args.bitmap.now c.args.cats.now c.args.begun (8 * c.args.at) c.word_at.result c.turns_of-turns.result c.is_some.result c.is_some.ensures c.requires.read c.word_at.ensures c.turns_of-turns.ensures in
    elim c.match-begun.branch [
      | in-Some+else-turns-eq0 w ↦ rw (w.cats-is, w.turns-is) (turn_ends _ _ _ _ _ _ _ _ (with_begun _ _ _ _ _ _ w.in-Some.is t) w.next_turn-place.ensures w.append_run.ensures.cats w.append_run.ensures.one_more)
      | in_default w ↦ rw (w.cats-is, w.turns-is) (with_begun _ _ _ _ _ _ w.in_default.is t)
    ]

pub returns-then-behind-eq0 : goal.returns-then-behind-eq0
returns-then-behind-eq0 c = turned_all _ _ _ _ _ c.if-behind-eq0.true (turn_begins _ _ _ _ _ _ c.loop-turns.invariant c.next_turn-start.ensures)

pub append_run-requires-in-loop-turns-clause-behind :
    goal.append_run-requires-in-loop-turns-clause-behind
append_run-requires-in-loop-turns-clause-behind c =
    behind_all _ _ _ _ (up_to_turn _ _ _ _ _ _ _ (turn_begins _ _ _ _ _ _ c.loop-turns.invariant c.next_turn-start.ensures) c.next_turn-end.ensures)

pub loop-turns-preserved : goal.loop-turns-preserved
loop-turns-preserved c =
    turn_ends _ _ _ _ _ _ _ _ (turn_begins _ _ _ _ _ _ c.loop-turns.invariant c.next_turn-start.ensures) c.next_turn-end.ensures c.append_run-in-loop-turns.ensures.cats c.append_run-in-loop-turns.ensures.one_more

pub returns : goal.returns
returns c = turned_all _ _ _ _ _ c.loop-turns-test.false c.loop-turns.invariant
