use Rattle.std.proofs.lemmas.Result.{err_from_is_err_and}
use Rattle.label_commands.proofs.flow_lines.HopParts.{send_no_label, send_stops, send_read}
use Rattle.label_commands.proofs.flow_lines.hop_text.read_send.Goals as goal

pub returns-in_default-read_label_into-clause-stop : goal.returns-in_default-read_label_into-clause-stop
returns-in_default-read_label_into-clause-stop c =
    let front = c.in-Some.front in
    rw c.at-in_default-read_label_into.ensures
    (send_no_label c.args.nodes.now c.args.at c.args.fits c.args.text.now front.first front.second front.third front.rest.now c.in-Some.ensures c.in_default-read_label_into.ensures.value)

pub returns-in_err-node-clause-stop : goal.returns-in_err-node-clause-stop
returns-in_err-node-clause-stop c =
    let front = c.in-Some.front in
    let p = err_from_is_err_and c.from_residual.result c.from_residual.ensures.1 in
    rw (p.1, p.2)
    (send_stops c.args.nodes.now c.args.at c.args.fits c.args.text.now front.first front.second front.third front.rest.now c.read_label_into.new.label c.in_err-node.field-0.0 c.in-Some.ensures c.in-Ok.ensures.value c.in_err-node.ensures.stop)

pub returns-clause-ok : goal.returns-clause-ok
returns-clause-ok c =
    let front = c.in-Some.front in
    send_read c.args.nodes.now c.args.at c.args.fits c.args.text.now front.first front.second front.third front.rest.now c.read_label_into.new.label c.in_ok-label.label c.in_ok-node.node c.in-Some.ensures c.in-Ok.ensures.value c.in_ok-node.ensures.ok c.in_ok-label.ensures
