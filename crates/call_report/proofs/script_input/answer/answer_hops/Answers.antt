use Rattle.std.proofs.Common.{[], refl}
use Rattle.call_report.specs.declared.status.Status.TheVariants.{Done, WrongScript}
use Rattle.call_report.specs.Lines.Agreement.{no_flow_line, bad_versions_line}
use Rattle.call_report.specs.script_input.Answer.{no_flow, bad_versions, compared, without_memory, answered}
use Rattle.call_report.proofs.script_input.Flows.{hops_of_flow, versions_within}
use Rattle.call_report.proofs.script_input.answer.answer_hops.Goals as goal

pub returns-in_default : goal.returns-in_default
returns-in_default g c =
    answered WrongScript c.end.result [] no_flow_line (no_flow c.in_default.ensures) (rw (c.new.ensures, c.no_flow.ensures) at c.end.ensures)

pub returns-in-Err : goal.returns-in-Err
returns-in-Err g c = without_memory refl

pub returns-then-not-are_versions_of : goal.returns-then-not-are_versions_of
returns-then-not-are_versions_of g c =
    answered WrongScript c.end-then-not-are_versions_of.result [] bad_versions_line
    (bad_versions c.in-Some.flow.now c.in-Some.ensures (rw (c.deref.ensures.value, c.in-Ok.ensures) at c.if-not-are_versions_of.ensures))
    (rw (c.new-then-not-are_versions_of.ensures, c.bad_versions.ensures) at c.end-then-not-are_versions_of.ensures)

pub compare_hops-requires-clause-nodes : goal.compare_hops-requires-clause-nodes
compare_hops-requires-clause-nodes g c =
    rw c.hops.ensures.hops (hops_of_flow c.requires.0 c.args.script.now c.requires.1 c.args.number c.in-Some.flow.now c.in-Some.ensures).0

pub compare_hops-requires-clause-rises : goal.compare_hops-requires-clause-rises
compare_hops-requires-clause-rises g c =
    rw c.deref-2.ensures.value
    (versions_within c.requires.0 c.args.script.now c.requires.1 c.args.number c.in-Some.flow.now _ (rw c.deref.ensures.value at c.if-not-are_versions_of.ensures))

pub returns-in-Ok-compare_hops : goal.returns-in-Ok-compare_hops
returns-in-Ok-compare_hops g c =
    answered Done c.print_found.result (g.C.Compares.text c.in-Ok-compare_hops.found.items) []
    (compared c.in-Some.flow.now c.in-Ok-compare_hops.found.items c.in-Some.ensures
    (rw (c.deref.ensures.value, c.in-Ok.ensures) at c.if-not-are_versions_of.ensures)
    (rw (c.hops.ensures.hops, c.deref-2.ensures.value, c.in-Ok.ensures) at c.in-Ok-compare_hops.ensures))
    (rw c.deref-in-Ok-compare_hops.ensures.value at c.print_found.ensures)

pub returns : goal.returns
returns g c = without_memory refl
