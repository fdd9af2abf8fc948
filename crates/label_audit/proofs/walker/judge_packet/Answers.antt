use Rattle.std.proofs.Common.{◌≡◌, ◌<◌, ◌++◌, ℕ, List, [], drop, sym, ap, ◌∙◌, arith, refl}
use Rattle.std.specs.Prelude.{◌^◌}
use Rattle.label_audit.specs.inside.Reading.{file_of}
use Rattle.label_audit.proofs.Frames.{read_report, read_file, read_told}
use Rattle.label_audit.proofs.Naming.{none_named, no_walk_named, line_differs}
use Rattle.label_audit.proofs.PacketReads.{packet_read}
use Rattle.label_audit.proofs.walker.judge_packet.Goals as goal

pub returns-then-not-branch-clause-judged : goal.returns-then-not-branch-clause-judged
returns-then-not-branch-clause-judged g c = λ tells.
    let place = c.args.place.now in
    let few : place.high < 2 ^ 32 = omega (arith, c.requires.high, c.requires.steps) in (
      refl,
      none_named c.args.tables.now.plan place c.args.packet.now (drop c.args.at.now.at (file_of (g.D.Depot.state c.args.depot.now) c.args.report.now)) c.requires.hops c.requires.names few c.in_ok-versions_at.field-0 c.versions_at.new.versions.items c.if-not-branch.true (c.in_ok-versions_at.ensures.each tells),
    )

pub returns-then-not-branch-2-clause-judged : goal.returns-then-not-branch-2-clause-judged
returns-then-not-branch-2-clause-judged g c = λ tells.
    let place = c.args.place.now in
    let few : place.high < 2 ^ 32 = omega (arith, c.requires.high, c.requires.steps) in
    let none = rw c.if-not-branch-2.true at c.in_ok-write_walk.ensures.written in
    (refl, no_walk_named c.args.tables.now.plan place c.args.packet.now (drop c.args.at.now.at (file_of (g.D.Depot.state c.args.depot.now) c.args.report.now)) c.requires.hops c.requires.names few c.in_ok-versions_at.field-0 c.versions_at.new.versions.items (c.in_ok-versions_at.ensures.each tells) none)

pub returns-in-Stands-clause-judged : goal.returns-in-Stands-clause-judged
returns-in-Stands-clause-judged g c = λ tells.
    let place = c.args.place.now in
    let at = c.args.at.now in
    let file = file_of (g.D.Depot.state c.args.depot.now) c.args.report.now in
    let few : place.high < 2 ^ 32 = omega (arith, c.requires.high, c.requires.steps) in
    let line = c.write_walk.new.walker.line.items in
    let w = rw c.if-not-branch-2.false at c.in_ok-write_walk.ensures.written in
    let v = c.in_ok-versions_at.ensures in
    let none : List (List ℕ) = [] in
    let read = read_report none c.args.report.now c.versions_at.new.self v.keeps v.name v.frame in
    let met = rw c.in-Stands.is at (c.in_ok-meets.ensures.met (read_told read tells)) in
    let is : drop at.at file ≡ line ++ met.0 = ap (drop at.at) (sym (read_file read tells)) ∙ met.1 ∙ ap (λ t. t ++ met.0) c.deref.ensures.value in
    let text : c.deref-in-Stands.result.now ≡ line = c.deref-in-Stands.ensures.value in
    packet_read c.args.tables.now.plan place c.args.packet.now file at c.behind.result c.args.tables.now.version c.write_walk.new.tables.version c.write_walk.new.walker.is_denied c.in_ok-versions_at.field-0 c.versions_at.new.versions.items line met.0 c.requires.hops c.requires.names few
    (c.requires.stands tells) (v.each tells) w is (rw text at c.behind.ensures.at) (rw text at c.behind.ensures.lines)

pub returns-in-Differs-clause-judged : goal.returns-in-Differs-clause-judged
returns-in-Differs-clause-judged g c = λ tells.
    let place = c.args.place.now in
    let at = c.args.at.now in
    let few : place.high < 2 ^ 32 = omega (arith, c.requires.high, c.requires.steps) in
    let w = rw c.if-not-branch-2.false at c.in_ok-write_walk.ensures.written in
    let v = c.in_ok-versions_at.ensures in
    let none : List (List ℕ) = [] in
    let read = read_report none c.args.report.now c.versions_at.new.self v.keeps v.name v.frame in
    let met = rw ((read_file read tells), c.deref.ensures.value) at (rw c.in-Differs.is at (c.in_ok-meets.ensures.met (read_told read tells))) in
    (refl, line_differs c.args.tables.now.plan place c.args.packet.now (drop at.at (file_of (g.D.Depot.state c.args.depot.now) c.args.report.now)) c.requires.hops c.requires.names few c.in_ok-versions_at.field-0 c.versions_at.new.versions.items c.write_walk.new.walker.line.items c.args.tables.now.version c.write_walk.new.tables.version c.write_walk.new.walker.is_denied (v.each tells) w _ met)
