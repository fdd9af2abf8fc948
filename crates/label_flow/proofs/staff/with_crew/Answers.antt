use Rattle.std.proofs.Common.{rules, ◌≡◌, List, [], length, refl, ap, sym, ◌∙◌, subst}
use Rattle.shared_tables.specs.Board.{ViewerState}
use Rattle.label_flow.specs.inside.Work.{HasViewers}
use Rattle.label_flow.specs.inside.Crew.{HaveLearnt, first_of}
use Rattle.label_flow.proofs.Batches.{later_same, later_length}
use Rattle.label_flow.proofs.Learning.{not_led, led_learnt, later_boards}
use Rattle.label_flow.proofs.staff.with_crew.Goals as goal

pub returns-in_default : goal.returns-in_default
returns-in_default g c = not_led _ _ _ _ _ _ _ _ _ _ _ _ (later_same _) refl c.requires.feed.is_ready

pub returns-in_default-crew_of : goal.returns-in_default-crew_of
returns-in_default-crew_of g c = not_led _ _ _ _ _ _ _ _ _ _ _ _ (later_same _) refl c.requires.feed.is_ready

pub staff-led-requires-clause-lead : goal.staff-led-requires-clause-lead
staff-led-requires-clause-lead g c κs within =
    let crew = c.in-Ok-crew_of.crew in
    let begun : crew.seens.items ≡ c.args.viewers.now = search rules in
    let benches : length crew.benches.items ≡ length c.args.viewers.now = search rules in
    let trays : c.in-Ok.trays ≡ length c.args.viewers.now = search rules in
    record {
      hops_are = (c.requires.servants 0 (first_of []) c.requires.viewers.some).hops_are;
      left_is = c.requires.left;
      viewers_are = subst (λ (vs : List ViewerState). HasViewers c.args.flow.now.hops vs) (sym begun) c.requires.viewers;
      benches_are = benches ∙ ap length (sym begun);
      trays_are = trays ∙ ap length (sym begun);
    }

pub learn_all-requires-clause-same : goal.learn_all-requires-clause-same
learn_all-requires-clause-same g c =
    let begun : c.in-Ok-crew_of.crew.seens.items ≡ c.args.viewers.now = search rules in
    let e = c.staff-led.ensures in
    ap length c.as_slice.ensures.value ∙ later_length _ _ e.led.later ∙ ap length begun ∙ sym (later_length _ _ e.later)

pub learn_all-requires-clause-board : goal.learn_all-requires-clause-board
learn_all-requires-clause-board g c = later_boards _ _ _ _ _ _ c.staff-led.ensures.later c.requires.servants

pub returns : goal.returns
returns g c =
    let q = g.Q.Feed in
    let begun : c.in-Ok-crew_of.crew.seens.items ≡ c.args.viewers.now = search rules in
    let led = c.staff-led in
    let xs = c.learn_all.new.viewers in
    let learn = subst (λ (ss : List ViewerState). HaveLearnt led.new.viewers ss xs) c.as_slice.ensures.value c.learn_all.ensures in
    led_learnt q.took q.left q.ended q.due q.stop q.hops q.ready c.args.flow.now.hops led.result c.args.feed.now led.new.feed c.args.viewers.now led.new.viewers
    c.in-Ok-crew_of.crew.seens.items led.new.crew.seens.items xs begun led.ensures.later learn led.ensures.led
