use Rattle.std.proofs.Common.{ℕ, List, [], ◌∷◌, map, length, Ok, true, false, sym, ap, ◌∙◌, subst, arith}
use Rattle.std.specs.Prelude.{IsTrue, Contains}
use Rattle.std.proofs.lemmas.Result.{err_from_is_err_and}
use Rattle.captures.specs.Frame.{packet_in}
use Rattle.captures.specs.Reader.{FramesLeft, file_name_of}
use Rattle.label_audit.specs.inside.Reading.{HasRead, StandsIn, file_of}
use Rattle.label_audit.specs.inside.Flow.{left_by, IsReadOn}
use Rattle.label_audit.proofs.Frames.{read_on, read_ok, read_err, read_capture, read_same, read_file, read_told, only_ok}
use Rattle.label_audit.proofs.Captures.{reader_on, left_same}
use Rattle.label_audit.proofs.PacketsJudged.{there_is, only_name, one_frame, step_judged}
use Rattle.label_audit.proofs.flow.judge_packets.Goals as goal

pub returns-in_err-next_packet-clause-read : goal.returns-in_err-next_packet-clause-read
returns-in_err-next_packet-clause-read g c = λ names one.
    let inv = c.loop-judge.invariant in
    let r1 = c.loop-judge.report in
    let p = err_from_is_err_and c.from_residual.result c.from_residual.ensures.1 in
    let first : HasRead {T = Unit {0}} names (Ok tt) c.args.report.now r1 (g.D.Depot.state c.args.depot.now) (g.D.Depot.state c.loop-judge.depot) = record { keeps = inv.keeps; name = inv.name; only = only_ok inv.same } in
    rw (p.1, p.2) (read_err (read_on first (read_capture names r1 inv.keeps (subst (Contains names) (sym inv.reader) one) c.in_err-next_packet.ensures.frame)))

pub returns-in-End-clause-judged : goal.returns-in-End-clause-judged
returns-in-End-clause-judged g c = λ tells held most line flows at_line.
    let inv = c.loop-judge.invariant in
    let none = subst (IsReadOn (left_by (g.D.Depot.state c.loop-judge.depot) c.loop-judge.reader) c.next_packet.new.packet (left_by (g.D.Depot.state c.next_packet.new.depot) c.next_packet.new.reader)) c.in-End.is (c.in_ok-next_packet.ensures.answer (subst IsTrue (sym inv.same.told) tells)) in
    rw none at (inv.judged tells held most line flows at_line)

pub returns-in_err-judge_next-clause-read : goal.returns-in_err-judge_next-clause-read
returns-in_err-judge_next-clause-read g c = λ names one.
    let inv = c.loop-judge.invariant in
    let r1 = c.loop-judge.report in
    let p = err_from_is_err_and c.from_residual-in_err-judge_next.result c.from_residual-in_err-judge_next.ensures.1 in
    let first : HasRead {T = Unit {0}} names (Ok tt) c.args.report.now r1 (g.D.Depot.state c.args.depot.now) (g.D.Depot.state c.loop-judge.depot) = record { keeps = inv.keeps; name = inv.name; only = only_ok inv.same } in
    let upto = read_on first (read_capture names r1 inv.keeps (subst (Contains names) (sym inv.reader) one) c.in_ok-next_packet.ensures.frame) in
    rw (p.1, p.2) (read_on upto (c.in_err-judge_next.ensures.read names))

pub returns-then-not-branch-clause-read : goal.returns-then-not-branch-clause-read
returns-then-not-branch-clause-read g c = λ names one.
    let inv = c.loop-judge.invariant in
    let r1 = c.loop-judge.report in
    let first : HasRead {T = Unit {0}} names (Ok tt) c.args.report.now r1 (g.D.Depot.state c.args.depot.now) (g.D.Depot.state c.loop-judge.depot) = record { keeps = inv.keeps; name = inv.name; only = only_ok inv.same } in
    let upto = read_on first (read_capture names r1 inv.keeps (subst (Contains names) (sym inv.reader) one) c.in_ok-next_packet.ensures.frame) in
    read_ok (read_on upto (c.in_ok-judge_next.ensures.read names))

pub returns-then-not-branch-clause-judged : goal.returns-then-not-branch-clause-judged
returns-then-not-branch-clause-judged g c = λ tells held most line flows at_line.
    let start = g.D.Depot.state c.args.depot.now in
    let now = g.D.Depot.state c.loop-judge.depot in
    let mid = g.D.Depot.state c.next_packet.new.depot in
    let inv = c.loop-judge.invariant in
    let r0 = c.args.report.now in
    let r1 = c.loop-judge.report in
    let names : List (List ℕ) = file_name_of c.loop-judge.reader ∷ [] in
    let first : HasRead {T = Unit {0}} names (Ok tt) r0 r1 start now = record { keeps = inv.keeps; name = inv.name; only = only_ok inv.same } in
    let upto = read_on first (read_capture names r1 inv.keeps (only_name (file_name_of c.loop-judge.reader)) c.in_ok-next_packet.ensures.frame) in
    let one = subst (IsReadOn (left_by now c.loop-judge.reader) c.next_packet.new.packet (left_by mid c.next_packet.new.reader)) c.in-Packet.is (c.in_ok-next_packet.ensures.answer (subst IsTrue (sym inv.same.told) tells)) in
    let packets = map packet_in (left_by mid c.next_packet.new.reader).frames in
    step_judged c.args.script.now (length c.args.judge.now.tables.items) held c.args.flow most line flows c.args.judge.now.counts c.loop-judge.judge.counts c.judge_next.new.judge.counts c.args.judge.now.tables.items c.loop-judge.judge.tables.items c.judge_next.new.judge.tables.items
    (map packet_in (left_by start c.args.reader.now).frames) (map packet_in (left_by now c.loop-judge.reader).frames) packets c.next_packet.new.packet (length c.loop-judge.judge.tables.items) (file_of start r0) (file_of mid r1)
    c.args.at.now c.loop-judge.at c.judge_next.new.at false c.in_ok-judge_next.field-0 inv.tables.many (read_file upto tells) one.0 c.if-not-branch.true (inv.judged tells held most line flows at_line) (c.in_ok-judge_next.ensures.judged (read_told upto tells) packets held most line flows at_line)

pub loop-judge-preserved : goal.loop-judge-preserved
loop-judge-preserved g c =
    let start = g.D.Depot.state c.args.depot.now in
    let now = g.D.Depot.state c.loop-judge.depot in
    let mid = g.D.Depot.state c.next_packet.new.depot in
    let after = g.D.Depot.state c.judge_next.new.depot in
    let inv = c.loop-judge.invariant in
    let script = c.args.script.now in
    let r0 = c.args.report.now in
    let r1 = c.loop-judge.report in
    let reader = c.next_packet.new.reader in
    let names : List (List ℕ) = file_name_of c.loop-judge.reader ∷ [] in
    let first : HasRead {T = Unit {0}} names (Ok tt) r0 r1 start now = record { keeps = inv.keeps; name = inv.name; only = only_ok inv.same } in
    let upto = read_on first (read_capture names r1 inv.keeps (only_name (file_name_of c.loop-judge.reader)) c.in_ok-next_packet.ensures.frame) in
    let last = c.in_ok-judge_next.ensures.read names in
    let all = read_on upto last in
    let moved = read_same last in
    let more = c.in_ok-judge_next.ensures.more c.if-not-branch.false in
    let told = λ (tells : IsTrue start.tells). subst IsTrue (sym inv.same.told) tells in
    let told_mid = λ (tells : IsTrue start.tells). read_told upto tells in
    let one = λ (tells : IsTrue start.tells). subst (IsReadOn (left_by now c.loop-judge.reader) c.next_packet.new.packet (left_by mid reader)) c.in-Packet.is (c.in_ok-next_packet.ensures.answer (told tells)) in
    let left = λ (tells : IsTrue start.tells). left_same mid after reader moved (told_mid tells) in
    let packets = map packet_in (left_by mid reader).frames in
    let file_is = λ (tells : IsTrue start.tells). read_file upto tells in
    record {
      same = read_same all;
      name = all.name;
      keeps = all.keeps;
      reader = c.in_ok-next_packet.ensures.name ∙ inv.reader;
      ready = reader_on mid after reader moved c.in_ok-next_packet.ensures.ready;
      few = (omega (arith, more, c.loop-judge-test.true), c.in_ok-judge_next.ensures.counts.0, c.in_ok-judge_next.ensures.counts.1);
      tables = (rw inv.tables.many at c.in_ok-judge_next.ensures.tables);
      fault = λ tells. ap (λ (l : FramesLeft). l.fault) (left tells) ∙ (one tells).1 ∙ inv.fault tells;
      count = λ tells. omega (arith, more, inv.count tells, one_frame (left_by now c.loop-judge.reader).frames (left_by mid reader).frames c.next_packet.new.packet (one tells).0, ap (λ (l : FramesLeft). length l.frames) (left tells));
      judged = λ tells held most line flows at_line.
          (rw (sym (left tells)) at (step_judged script (length c.args.judge.now.tables.items) held c.args.flow most line flows c.args.judge.now.counts c.loop-judge.judge.counts c.judge_next.new.judge.counts c.args.judge.now.tables.items c.loop-judge.judge.tables.items c.judge_next.new.judge.tables.items
          (map packet_in (left_by start c.args.reader.now).frames) (map packet_in (left_by now c.loop-judge.reader).frames) packets c.next_packet.new.packet (length c.loop-judge.judge.tables.items) (file_of start r0) (file_of mid r1)
          c.args.at.now c.loop-judge.at c.judge_next.new.at true c.in_ok-judge_next.field-0 inv.tables.many (file_is tells) (one tells).0 c.if-not-branch.false (inv.judged tells held most line flows at_line)
          (c.in_ok-judge_next.ensures.judged (told_mid tells) packets held most line flows at_line)));
      stands = λ tells.
          let found = there_is script.flows c.args.flow c.requires.flow in
          let none = found.0 ∷ [] in
          let there = rw c.if-not-branch.false at (c.in_ok-judge_next.ensures.judged (told_mid tells) packets mid.held 0 found.0 none found.1) in
          subst (λ (f : List ℕ). StandsIn f c.judge_next.new.at) (file_is tells) there.1;
    }
