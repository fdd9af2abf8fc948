use Rattle.std.proofs.lemmas.Result.{err_from_is_err_and}
use Rattle.label_commands.proofs.flow_lines.HopParts.{receive_no_interface, receive_stops, receive_read}
use Rattle.label_commands.proofs.flow_lines.hop_text.read_receive.Goals as goal

pub returns-in_default-read_name-2-clause-stop : goal.returns-in_default-read_name-2-clause-stop
returns-in_default-read_name-2-clause-stop c =
    rw c.at-in_default-read_name-2.ensures
    (receive_no_interface c.args.nodes.now c.args.at c.args.fits c.args.text.now c.in-Some.node.now c.in-Some.rest.now c.in-Some.ensures c.in_default-read_name-2.ensures)

pub returns-in_err-node-clause-stop : goal.returns-in_err-node-clause-stop
returns-in_err-node-clause-stop c =
    let p = err_from_is_err_and c.from_residual.result c.from_residual.ensures.1 in
    rw (p.1, p.2)
    (receive_stops c.args.nodes.now c.args.at c.args.fits c.args.text.now c.in-Some.node.now c.in-Some.rest.now c.in-Some-read_name.name c.in-Some-read_name-2.interface c.in_err-node.field-0.0 c.in-Some.ensures c.in-Some-read_name.ensures c.in-Some-read_name-2.ensures c.in_err-node.ensures.stop)

pub returns-clause-ok : goal.returns-clause-ok
returns-clause-ok c =
    receive_read c.args.nodes.now c.args.at c.args.fits c.args.text.now c.in-Some.node.now c.in-Some.rest.now c.in-Some-read_name.name c.in-Some-read_name-2.interface c.in_ok-node.node c.in-Some.ensures c.in-Some-read_name.ensures c.in-Some-read_name-2.ensures c.in_ok-node.ensures.ok
