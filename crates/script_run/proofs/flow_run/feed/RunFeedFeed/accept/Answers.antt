use Rattle.std.proofs.Common.{rules, None, refl, inl, inr, ap, Some, arith}
use Rattle.script_run.specs.flow_run.Run.{is_denied}
use Rattle.script_run.proofs.flow_run.Steps.{taken_unkept, taken_more, ready_handed, room_accepted, head_first}
use Rattle.script_run.proofs.flow_run.feed.RunFeedFeed.accept.Goals as goal

pub keep_versions-requires : goal.keep_versions-requires
keep_versions-requires g c = room_accepted _ _ c.requires.ready.0 c.requires.ready.1 c.requires.due

pub count-requires : goal.count-requires
count-requires g c =
    let room = room_accepted _ _ c.requires.ready.0 c.requires.ready.1 c.requires.due in
    omega (arith, c.requires.ready.1.counts, room)

pub returns-in-Err-clause-cut : goal.returns-in-Err-clause-cut
returns-in-Err-clause-cut g c was h t =
    inl (t.0, taken_unkept _ _ _ _ _ _ t.1 c.in-None.is _ refl refl refl refl c.in-Err.ensures.err refl refl refl (ap Some c.in-Err.ensures.stop))

pub returns-in-Ok-hand_on-clause-took : goal.returns-in-Ok-hand_on-clause-took
returns-in-Ok-hand_on-clause-took g c was h t = (
  t.0,
  taken_more _ _ _ _ _ _ t.1 c.in-None.is c.args.walked.now c.args.packet.now _ c.index.result.now _ c.len.result c.format.ensures
      c.in-Ok.ensures.ok c.len.ensures c.count.ensures.passed c.count.ensures.denied (record { name = refl; format = refl; most = refl }) refl
      (λ file. head_first c.args.self.now.source c.index.result.now file (omega (arith, c.requires.due)) (search (rules, c.index.ensures)))
      None c.in-None.is c.in-Ok-hand_on.ensures,
)

pub returns-in-Err-hand_on-clause-cut : goal.returns-in-Err-hand_on-clause-cut
returns-in-Err-hand_on-clause-cut g c was h t =
    inr (
      t.0,
      taken_more _ _ _ _ _ _ t.1 c.in-None.is c.args.walked.now c.args.packet.now _ c.index.result.now _ c.len.result c.format.ensures
          c.in-Ok.ensures.ok c.len.ensures c.count.ensures.passed c.count.ensures.denied (record { name = refl; format = refl; most = refl }) refl
          (λ file. head_first c.args.self.now.source c.index.result.now file (omega (arith, c.requires.due)) (search (rules, c.index.ensures)))
          (Some c.in-Err-hand_on.stop) refl c.in-Err-hand_on.ensures,
    )

pub returns-in-Ok-hand_on-clause-ready : goal.returns-in-Ok-hand_on-clause-ready
returns-in-Ok-hand_on-clause-ready g c =
    ready_handed _ _ _ _ _ _ _ c.args.walked.now.versions (is_denied c.args.walked.now.end) c.requires.ready refl refl refl refl refl refl refl c.requires.due
    c.in-Ok.ensures.ok c.count.ensures.passed c.count.ensures.denied c.in-Ok-hand_on.ensures

pub returns-in-Err-hand_on-clause-ready : goal.returns-in-Err-hand_on-clause-ready
returns-in-Err-hand_on-clause-ready g c =
    ready_handed _ _ _ _ _ _ _ c.args.walked.now.versions (is_denied c.args.walked.now.end) c.requires.ready refl refl refl refl refl refl refl c.requires.due
    c.in-Ok.ensures.ok c.count.ensures.passed c.count.ensures.denied c.in-Err-hand_on.ensures
