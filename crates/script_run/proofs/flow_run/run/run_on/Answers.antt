use Rattle.std.proofs.Common.{◌≡◌, List, Option, length, refl, sym, ap, subst, ◌∙◌, arith, Some}
use Rattle.captures.specs.declared.packet_in.PacketIn.{PacketIn}
use Rattle.shared_tables.specs.Plan.{PlanState}
use Rattle.label_flow.specs.Feed.{AreBegun, AreWhole}
use Rattle.script_run.specs.flow_run.inside.Feed.{last_moment}
use Rattle.script_run.specs.declared.flow_run.end.FlowPlace.{FlowPlace}
use Rattle.script_run.proofs.flow_run.Ahead.{left_unread, unread_ahead}
use Rattle.script_run.proofs.flow_run.Steps.{going_fresh}
use Rattle.script_run.proofs.flow_run.Flown.{round_walked, round_lawful, ok_none}
use Rattle.script_run.proofs.flow_run.run.run_on.Goals as goal

pub drive-driven-requires-clause-going : goal.drive-driven-requires-clause-going
drive-driven-requires-clause-going g c κs within =
    let new = c.requires.prepared.new in
    let stands = c.requires.stands in
    record {
      ready = (new.fed, going_fresh _ _ _ new.fresh stands.most stands.apart c.requires.prepared.there new.seen new.passed new.denied, unread_ahead _ _ new.fresh.heads);
      due = omega (arith, ap length new.fresh.fetched);
      behind = new.fresh.behind;
      stop = new.stop;
    }

pub returns-clause-same : goal.returns-clause-same
returns-clause-same g c =
    let a = c.drive-driven.ensures.round.taken.0 in
    let b = c.finish.ensures.same in
    (b.0 ∙ a.0, b.1 ∙ a.1, b.2 ∙ a.2, b.3 ∙ a.3)

pub returns-clause-flown : goal.returns-clause-flown
returns-clause-flown g c =
    let place = c.args.feed.now.place in
    let plan : PlanState = record { nodes = length place.names.now; steps = place.steps.now } in
    let driven = c.drive-driven.ensures in
    let ended = c.finish.ensures in
    let round = driven.round in
    let feed = c.drive-driven.new.feed in
    let same : feed.place ≡ place = round.taken.0.3 in
    let prepared = c.requires.prepared in
    let left = left_unread (g.D.Depot.state c.args.feed.now.depot.now) c.args.feed.now.source c.args.feed.now.next.items prepared.new.fresh.heads in
    let stands = c.requires.stands in
    let seats = rw (sym c.as_mut_slice-seats.ensures.value) at c.requires.board.seats in
    let count = rw (sym c.as_mut_slice-seats.ensures.value) at c.requires.board.count in
    record {
      now = last_moment g.D.Depot.state g.S.Sink.state feed c.finish.new.feed c.finish.result;
      packets = round.packets;
      pairs = round.pairs;
      taken = rw same at (ended.taken _ round.pairs round.taken.1);
      folder = refl;
      stream = refl;
      seen_is = refl;
      stop = refl;
      waits_are = rw same at ended.waits;
      whole = rw same at ended.sent;
      behind = ended.behind;
      fed = ended.fed driven.fed (λ is. stands.apart (ap (λ (p : FlowPlace). p.flow.now.output) (sym same) ∙ is ∙ ap Some (round.taken.1.source.name ∙ prepared.new.fresh.name)));
      begun = subst (λ (ps : Option (List PacketIn)). AreBegun ps round.packets) left round.begun;
      all = λ done. subst (λ (ps : Option (List PacketIn)). AreWhole ps round.packets) left (round.whole (driven.stop ∙ ok_none c.drive-driven.result (ended.done done)));
      walked = round_walked plan _ _ _ _ _ _ _ _ _ seats count stands.workers.0 stands.beside.1 stands.beside.0 round.round;
      lawful = round_lawful plan _ _ _ _ _ _ _ _ _ seats count stands.workers.0 stands.beside.1 stands.beside.0 round.round;
    }
