use Rattle.std.proofs.Common.{true}
use Rattle.std.proofs.lemmas.Result.{err_from_is_err_and}
use Rattle.label_commands.proofs.flow_lines.HopParts.{forward_lacks, forward_no_domain, forward_stops, forward_read}
use Rattle.label_commands.proofs.flow_lines.hop_text.read_forward.Goals as goal

pub returns-in_default-clause-stop : goal.returns-in_default-clause-stop
returns-in_default-clause-stop c = rw c.at.ensures (forward_lacks c.args.nodes.now c.args.at true c.args.text.now c.in_default.ensures)

pub returns-in_default-read_name-clause-stop : goal.returns-in_default-read_name-clause-stop
returns-in_default-read_name-clause-stop c =
    let front = c.in-Some.front in
    rw c.at-in_default-read_name.ensures
    (forward_no_domain c.args.nodes.now c.args.at true c.args.text.now front.first front.second front.third front.rest.now c.in-Some.ensures c.in_default-read_name.ensures)

pub returns-in_err-node-clause-stop : goal.returns-in_err-node-clause-stop
returns-in_err-node-clause-stop c =
    let front = c.in-Some.front in
    let p = err_from_is_err_and c.from_residual.result c.from_residual.ensures.1 in
    rw (p.1, p.2)
    (forward_stops c.args.nodes.now c.args.at true c.args.text.now front.first front.second front.third front.rest.now c.in-Some-read_name.domain c.in_err-node.field-0.0 c.in-Some.ensures c.in-Some-read_name.ensures c.in_err-node.ensures.stop)

pub returns-clause-ok : goal.returns-clause-ok
returns-clause-ok c =
    let front = c.in-Some.front in
    forward_read c.args.nodes.now c.args.at true c.args.text.now front.first front.second front.third front.rest.now c.in-Some-read_name.domain c.in_ok-node.node c.in-Some.ensures c.in-Some-read_name.ensures c.in_ok-node.ensures.ok
