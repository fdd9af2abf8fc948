use Rattle.std.proofs.Common.{◌≡◌, ◌≤◌, ◌+◌, ℕ, List, ◌∷◌, length, map, drop, Ok, sym, ap, subst, ◌∙◌, arith}
use Rattle.std.specs.Prelude.{IsTrue, Contains}
use Rattle.std.proofs.lemmas.List.{take_rest}
use Rattle.std.proofs.lemmas.Result.{err_from_is_err_and}
use Rattle.net_io.specs.Depot.{OnlyReads}
use Rattle.label_commands.specs.declared.flow_lines.flow.FlowLine.{FlowLine}
use Rattle.call_report.specs.Event.{packets_limit}
use Rattle.netlabel_audit.specs.Inputs.{inputs_end}
use Rattle.netlabel_audit.specs.declared.stop.AuditStop.TheVariants.{Unread}
use Rattle.label_audit.proofs.Law.{among_as, among_on, one_among}
use Rattle.netlabel_audit.proofs.Captures.{behind_among, first_among, first_of, goes_on, whole_from}
use Rattle.netlabel_audit.proofs.inputs.read_inputs.Goals as goal

pub returns-in_err-left-clause-some : goal.returns-in_err-left-clause-some
returns-in_err-left-clause-some g c =
    let p = err_from_is_err_and c.from_residual.result c.from_residual.ensures.1 in
    rw p.1 (omega (arith, c.loop-rest.invariant.within, c.in-len1-up.len_at_least))

pub loop-rest-preserved : goal.loop-rest-preserved
loop-rest-preserved g c =
    let start = g.D.Depot.state c.args.depot.now in
    let now = g.D.Depot.state c.loop-rest.depot in
    let next = g.D.Depot.state c.read_input.new.depot in
    let kept = c.loop-rest.invariant in
    let flows = c.args.flows.now in
    let rest = c.loop-rest.rest.now in
    let behind = drop 1 rest in
    let flow = c.flow-item.result in
    let number = c.loop-rest.number in
    let left = c.in_ok-left.left in
    let names = map (λ (f : FlowLine). f.input) flows in
    let some : 1 ≤ length rest = omega (arith, c.in-len1-up.len_at_least) in
    let split : rest ≡ flow ∷ behind = first_of rest flow some c.flow-item.is in
    let same = take_rest rest 1 in
    let named : c.text.result.now ≡ flow.input = c.text.ensures.text in
    let done : Unit {0} = tt in
    record {
      number = subst (λ (t : List FlowLine). number + 1 + length t ≡ 1 + length flows) (sym same) (omega (arith, kept.number, ap length split));
      within = subst (λ (t : List FlowLine). length t ≤ length flows) (sym same) (omega (arith, kept.within, ap length split));
      among = subst (λ (t : List FlowLine). (name : List ℕ) → Contains (map (λ (f : FlowLine). f.input) t) name → Contains names name) (sym same)
          (λ name among. kept.among name (behind_among rest behind flow split name among));
      end = λ told. subst (λ (t : List FlowLine). inputs_end start.held 1 packets_limit flows ≡ inputs_end start.held (number + 1) left t) (sym same)
          (goes_on start.held number c.loop-rest.left left flow behind (inputs_end start.held 1 packets_limit flows)
          (kept.end told ∙ ap (λ (t : List FlowLine). inputs_end start.held number c.loop-rest.left t) split)
          (whole_from start.held now.held number c.loop-rest.left left c.text.result.now flow.input named (kept.frame.kept told flow.input)
          (c.in_ok-left.ensures.to (subst IsTrue (sym kept.frame.told) told))));
      frame = among_on kept.frame
          (among_as (Ok done) (λ e. absurd cc)
          (one_among (kept.among flow.input (first_among rest behind flow split)) (subst (λ (n : List ℕ). OnlyReads Unread (Ok left) n now next) named c.in_ok-left.ensures.frame)));
    }
