use Rattle.std.proofs.Common.{arith, ◌≡◌, ◌≢◌, ◌∙◌, ◌-◌, ℕ, List, sym, ap, subst, take, drop, length, Ok}
use Rattle.std.specs.Prelude.{slice_get}
use Rattle.net_io.specs.Depot.{octets_of}
use Rattle.net_io.specs.declared.fault.IoFault.TheVariants.{Failed}
use Rattle.net_io.proofs.Law.{reads_go_on, reads_may_be_answered_otherwise}
use Rattle.std.proofs.lemmas.Bool.{eqb-true, eqb-false}
use Rattle.std.proofs.lemmas.List.{drop-drop}
use Rattle.call_report.proofs.report_file.Meetings.{stands, more_alike, differs, rest_more}
use Rattle.call_report.proofs.report_file.meeting.meet.Goals as goal

pub returns-then-count-eq0-clause-met : goal.returns-then-count-eq0-clause-met
returns-then-count-eq0-clause-met g c = λ told.
    let inv = c.loop-rest.invariant in
    let text = c.args.text.now in
    let rest = c.loop-rest.rest.now in
    let at = c.args.at in
    let file = octets_of ((g.D.Depot.state c.args.depot.now).held c.args.name.now) in
    let place = length text - length rest in
    let kept = inv.frame.kept told c.args.name.now in
    let next : drop c.loop-rest.next file ≡ drop place (drop at file) = ap (λ n. drop n file) inv.next ∙ sym (drop-drop place at file) in
    let other : slice_get (drop c.loop-rest.next file) 0 ≢ slice_get rest 0 = rw kept at (c.in_ok-count.ensures.other (inv.frame.told ∙ told) c.if-count-eq0.true) in
    differs (drop at file) text rest place c.ends_of_lines.result (omega (arith, eqb-false (length rest) 0 (sym c.is_empty.ensures ∙ c.loop-rest-test.true), inv.within)) inv.rest (inv.same told) (subst (λ (l : List ℕ). slice_get l 0 ≢ slice_get rest 0) next other) c.ends_of_lines.ensures

pub loop-rest-preserved : goal.loop-rest-preserved
loop-rest-preserved g c =
    let inv = c.loop-rest.invariant in
    let text = c.args.text.now in
    let rest = c.loop-rest.rest.now in
    let at = c.args.at in
    let file = octets_of ((g.D.Depot.state c.args.depot.now).held c.args.name.now) in
    let count = c.in_ok-count.count in
    let place = length text - length rest in
    let m = rest_more text rest count inv.within inv.rest c.in_ok-count.ensures.within in
    record {
      within = m.0;
      rest = m.1.0;
      next = omega (arith, inv.next, m.1.1);
      same = λ told.
          let kept = inv.frame.kept told c.args.name.now in
          let next : drop c.loop-rest.next file ≡ drop place (drop at file) = ap (λ n. drop n file) inv.next ∙ sym (drop-drop place at file) in
          let alike : take count (drop c.loop-rest.next file) ≡ take count rest = rw kept at (c.in_ok-count.ensures.same (inv.frame.told ∙ told)) in
          subst (λ (n : ℕ). take n (drop at file) ≡ take n text) (sym m.1.1)
          (more_alike (drop at file) text place count (inv.same told) (ap (take count) (sym next) ∙ alike ∙ ap (take count) inv.rest));
      ahead = λ told.
          let kept = inv.frame.kept told c.args.name.now in
          rw kept at (c.in_ok-count.ensures.ahead (inv.frame.told ∙ told));
      place = c.in_ok-count.ensures.place;
      frame = reads_go_on Failed 0 (Ok 0) c.args.name.now _ _ _ inv.frame (reads_may_be_answered_otherwise {T = ℕ} {U = ℕ} Failed count (Ok 0) c.args.name.now _ _ c.in_ok-count.ensures.frame (λ e. cc));
    }

pub returns-clause-met : goal.returns-clause-met
returns-clause-met g c = λ told.
    let inv = c.loop-rest.invariant in
    let text = c.args.text.now in
    let rest = c.loop-rest.rest.now in
    let at = c.args.at in
    let file = octets_of ((g.D.Depot.state c.args.depot.now).held c.args.name.now) in
    (drop (length text - length rest) (drop at file), stands (drop at file) text (length text - length rest) (omega (arith, eqb-true (length rest) 0 (sym c.is_empty.ensures ∙ c.loop-rest-test.false))) (inv.same told))
