use Rattle.std.proofs.Common.{◌≡◌, map, length, sym, ap, ◌∙◌, subst, arith}
use Rattle.std.specs.Prelude.{IsTrue, Contains}
use Rattle.std.proofs.lemmas.Option.{same_Some}
use Rattle.std.proofs.lemmas.List.{length-map}
use Rattle.std.proofs.lemmas.Result.{err_from_is_err_and, IfOk-weaker}
use Rattle.captures.specs.Frame.{packet_in}
use Rattle.captures.specs.Reader.{file_name_of}
use Rattle.label_audit.specs.inside.Flow.{left_by, inputs_of, capture_packets, HasBegunReading}
use Rattle.label_audit.proofs.Frames.{read_on, read_err, read_capture, read_file, read_told}
use Rattle.label_audit.proofs.CaptureJudged.{flow_here, input_named, none_begun, no_fault, few_frames, packets_left}
use Rattle.label_audit.proofs.flow.judge_capture.Goals as goal

pub returns-in_err-begin_capture-clause-read : goal.returns-in_err-begin_capture-clause-read
returns-in_err-begin_capture-clause-read g c =
    let script = c.args.script.now in
    let fl = c.index-as_slice-flow.result in
    let here = flow_here c.args.flow fl c.as_slice.ensures c.requires.flow c.index-as_slice-flow.is in
    let p = err_from_is_err_and c.from_residual.result c.from_residual.ensures.1 in
    rw (p.1, p.2) (read_err (read_capture (inputs_of script) c.args.report.now c.requires.keeps (input_named script.flows c.args.flow fl here) c.in_err-begin_capture.ensures.frame))

pub returns-in-None-clause-judged : goal.returns-in-None-clause-judged
returns-in-None-clause-judged g c = λ tells held most line flows at_line.
    let start = g.D.Depot.state c.args.depot.now in
    let fl = c.index-as_slice-flow.result in
    let here = flow_here c.args.flow fl c.as_slice.ensures c.requires.flow c.index-as_slice-flow.is in
    absurd (none_begun (start.held fl.input) (c.requires.whole tells fl here) (subst (HasBegunReading (start.held fl.input)) c.in-None.is (c.in_ok-begin_capture.ensures.begun tells)))

pub judge_packets-requires-clause-whole : goal.judge_packets-requires-clause-whole
judge_packets-requires-clause-whole g c = λ told.
    let start = g.D.Depot.state c.args.depot.now in
    let mid = g.D.Depot.state c.begin_capture.new.depot in
    let fl = c.index-as_slice-flow.result in
    let here = flow_here c.args.flow fl c.as_slice.ensures c.requires.flow c.index-as_slice-flow.is in
    let frame = c.in_ok-begin_capture.ensures.frame in
    let tells = subst IsTrue frame.told told in
    let reader = c.in-Some.reader in
    let named : file_name_of reader ≡ fl.input = rw c.in-Some.is at c.in_ok-begin_capture.ensures.name in
    let begun = subst (HasBegunReading (start.held fl.input)) c.in-Some.is (c.in_ok-begin_capture.ensures.begun tells) in
    let whole = c.requires.whole tells fl here in
    (no_fault (start.held fl.input) reader whole begun mid fl.input named (frame.kept tells fl.input), omega (arith, few_frames (start.held fl.input) reader whole begun mid fl.input named (frame.kept tells fl.input)))

pub returns-in-Some-clause-read : goal.returns-in-Some-clause-read
returns-in-Some-clause-read g c =
    let script = c.args.script.now in
    let fl = c.index-as_slice-flow.result in
    let here = flow_here c.args.flow fl c.as_slice.ensures c.requires.flow c.index-as_slice-flow.is in
    let one = input_named script.flows c.args.flow fl here in
    let named : file_name_of c.in-Some.reader ≡ fl.input = rw c.in-Some.is at c.in_ok-begin_capture.ensures.name in
    read_on (read_capture (inputs_of script) c.args.report.now c.requires.keeps one c.in_ok-begin_capture.ensures.frame) (c.judge_packets.ensures.read (inputs_of script) (subst (Contains (inputs_of script)) (sym named) one))

pub returns-in-Some-clause-judged : goal.returns-in-Some-clause-judged
returns-in-Some-clause-judged g c =
    let start = g.D.Depot.state c.args.depot.now in
    let mid = g.D.Depot.state c.begin_capture.new.depot in
    let script = c.args.script.now in
    let fl = c.index-as_slice-flow.result in
    let here = flow_here c.args.flow fl c.as_slice.ensures c.requires.flow c.index-as_slice-flow.is in
    let reader = c.in-Some.reader in
    let named : file_name_of reader ≡ fl.input = rw c.in-Some.is at c.in_ok-begin_capture.ensures.name in
    let first = read_capture (inputs_of script) c.args.report.now c.requires.keeps (input_named script.flows c.args.flow fl here) c.in_ok-begin_capture.ensures.frame in
    IfOk-weaker c.judge_packets.result _ _
    (λ met judged tells held most line flows at_line.
    let same : fl ≡ line = same_Some fl line (sym here ∙ at_line) in
    let begun = subst (HasBegunReading (start.held fl.input)) c.in-Some.is (c.in_ok-begin_capture.ensures.begun tells) in
    let packets : capture_packets start.held line ≡ map packet_in (left_by mid reader).frames =
    ap (capture_packets start.held) (sym same) ∙ packets_left (start.held fl.input) reader (c.requires.whole tells fl here) begun mid fl.input named (c.in_ok-begin_capture.ensures.frame.kept tells fl.input) in
    (rw (sym packets) at (rw (read_file first tells) at (judged (read_told first tells) held most line flows at_line))))
    c.judge_packets.ensures.judged

pub returns-in-Some-clause-counts : goal.returns-in-Some-clause-counts
returns-in-Some-clause-counts g c =
    let start = g.D.Depot.state c.args.depot.now in
    let mid = g.D.Depot.state c.begin_capture.new.depot in
    let script = c.args.script.now in
    let fl = c.index-as_slice-flow.result in
    let here = flow_here c.args.flow fl c.as_slice.ensures c.requires.flow c.index-as_slice-flow.is in
    let reader = c.in-Some.reader in
    let named : file_name_of reader ≡ fl.input = rw c.in-Some.is at c.in_ok-begin_capture.ensures.name in
    let first = read_capture (inputs_of script) c.args.report.now c.requires.keeps (input_named script.flows c.args.flow fl here) c.in_ok-begin_capture.ensures.frame in
    IfOk-weaker c.judge_packets.result _ _
    (λ met counts is tells line at_line.
    let same : fl ≡ line = same_Some fl line (sym here ∙ at_line) in
    let begun = subst (HasBegunReading (start.held fl.input)) c.in-Some.is (c.in_ok-begin_capture.ensures.begun tells) in
    let packets : capture_packets start.held line ≡ map packet_in (left_by mid reader).frames =
    ap (capture_packets start.held) (sym same) ∙ packets_left (start.held fl.input) reader (c.requires.whole tells fl here) begun mid fl.input named (c.in_ok-begin_capture.ensures.frame.kept tells fl.input) in
    omega (arith, counts is (read_told first tells), ap length packets, length-map (left_by mid reader).frames packet_in))
    c.judge_packets.ensures.counts
