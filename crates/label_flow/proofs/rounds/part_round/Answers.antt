use Rattle.std.proofs.Common.{◌≡◌, ℕ, ◌≤◌, List, [], length, take, ap, sym, subst, ◌∙◌, arith, append-nil}
use Rattle.std.proofs.lemmas.List.{length-take-le}
use Rattle.label_flow.specs.Pair.{PairState}
use Rattle.label_flow.specs.Round.{IsRound}
use Rattle.label_flow.specs.inside.Work.{AreFirst}
use Rattle.label_flow.specs.inside.Crew.{IsTold}
use Rattle.label_flow.proofs.Told.{told_none, told_take, part_within}
use Rattle.label_flow.proofs.Batches.{has_room, room_same, handed_round, none_round, on_ok}
use Rattle.label_flow.proofs.rounds.part_round.Goals as goal

pub returns-in_default-clause-took : goal.returns-in_default-clause-took
returns-in_default-clause-took g c was hist took =
    let T : List PairState → Type 0 = λ rs. g.Q.Feed.took was c.args.feed.now rs in
    ([], [], none_round _ _ _ _ c.gather.ensures.seens, tt, subst T (sym (append-nil hist)) took, (told_none _ _, tt))

pub hand_over-requires-clause-numbers : goal.hand_over-requires-clause-numbers
hand_over-requires-clause-numbers g c κs within =
    let part = part_within c.args.place c.args.batch.now.packets.items (omega (arith, c.requires.inside)) in
    omega (arith, c.part-part.ensures.base, ap length c.packets_at-packets.ensures, part, c.requires.here.numbers)

pub hand_over-requires-clause-room : goal.hand_over-requires-clause-room
hand_over-requires-clause-room g c κs within =
    let s = c.in-Ok.ensures.ok in
    let count = s.count_is ∙ c.part-part.ensures.count ∙ sym (ap length c.packets_at-packets.ensures) in
    rw c.as_slice.ensures.value (room_same _ _ s.packets _ _ count (has_room g.A.Agreed.hops _ s.packets c.args.crew.now.seens.items _ c.gather.new.crew.seens.items s.works))

pub returns-clause-took : goal.returns-clause-took
returns-clause-took g c was hist took =
    let s = c.in-Ok.ensures.ok in
    let base = c.part-part.ensures.base in
    let ds = c.gather.new.crew.benches.items in
    let vs = c.args.crew.now.seens.items in
    let us = c.gather.new.crew.seens.items in
    let t = c.hand_over.ensures.took was hist took in
    let count : length c.packets_at-packets.result.now ≡ length s.packets = ap length c.packets_at-packets.ensures ∙ sym c.part-part.ensures.count ∙ sym s.count_is in
    let few : length t.0 ≤ length s.packets = omega (arith, t.2, count) in
    let first = subst (λ xs. AreFirst (length xs) c.part-part.result.base xs t.0) c.as_slice.ensures.value t.1 in
    let round = handed_round g.A.Agreed.hops c.part-part.result.base s.packets vs ds us t.0 s.works first few in (
      take (length t.0) s.packets,
      t.0,
      rw c.requires.viewer.hops_are (subst (λ (n : ℕ). IsRound g.A.Agreed.hops n (take (length t.0) s.packets) t.0 vs us) base round),
      tt,
      t.3,
      (
        subst (λ (n : ℕ). IsTold g.A.Agreed.left n (take (length t.0) s.packets)) base (told_take _ _ _ _ few s.told),
        on_ok _ (λ (all : length t.0 ≡ length c.packets_at-packets.result.now). length-take-le (length t.0) s.packets few ∙ all ∙ ap length c.packets_at-packets.ensures) t.4,
      ),
    )
