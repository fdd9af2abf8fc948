use Rattle.std.proofs.Common.{arith, ◌∙◌, ◌+◌, ◌-◌, ℕ, Bool, sym, ap, subst, drop, length, Ok, Some, None}
use Rattle.std.specs.Prelude.{if◌then◌else◌}
use Rattle.net_io.specs.Depot.{octets_of}
use Rattle.net_io.specs.declared.fault.IoFault.TheVariants.{Failed}
use Rattle.net_io.proofs.Law.{reads_go_on, reads_may_be_answered_otherwise}
use Rattle.net_io.specs.file_window.Window.{IsFrom}
use Rattle.call_report.proofs.report_file.Words.{read_turn, end_turn, line_names, line_named, told_by}
use Rattle.call_report.proofs.report_file.naming.name_versions.Goals as goal

pub returns-then-count-ahead-clause-named : goal.returns-then-count-ahead-clause-named
returns-then-count-ahead-clause-named g c = λ told named.
    let inv = c.loop-window.invariant in
    let file = octets_of ((g.D.Depot.state c.args.depot.now).held c.args.name.now) in
    let ahead = c.ahead-ahead.result.now in
    let at = c.args.at in
    let next = c.loop-window.next in
    let count = c.in_ok-count.count in
    let kept = inv.frame.kept told c.args.name.now in
    let window : IsFrom file next c.reach.new.self = rw kept at (c.in_ok-reach.ensures.ahead (inv.frame.told ∙ told)) in
    let from : IsFrom file next ahead = subst (IsFrom file next) (sym c.ahead-ahead.ensures.value) window in
    let on = c.in_ok-count.ensures in
    let read = read_turn file ahead at next count _ _ _ _ inv.low (inv.read told) from on.within on.one on.reads in
    let end = end_turn file ahead at next count inv.low from c.if-count-ahead.true (on.ends c.if-count-ahead.true) in
    let items = c.end_word.new.versions.items in
    line_names (drop at file) (next + count - at) _ _ items read end (c.in_ok-end_word.ensures.named ∙ ap (λ (b : Bool). if b then Some items else None) named)

pub returns-then-count-ahead-clause-each : goal.returns-then-count-ahead-clause-each
returns-then-count-ahead-clause-each g c = λ told others are ends.
    let inv = c.loop-window.invariant in
    let file = octets_of ((g.D.Depot.state c.args.depot.now).held c.args.name.now) in
    let ahead = c.ahead-ahead.result.now in
    let at = c.args.at in
    let next = c.loop-window.next in
    let count = c.in_ok-count.count in
    let kept = inv.frame.kept told c.args.name.now in
    let window : IsFrom file next c.reach.new.self = rw kept at (c.in_ok-reach.ensures.ahead (inv.frame.told ∙ told)) in
    let from : IsFrom file next ahead = subst (IsFrom file next) (sym c.ahead-ahead.ensures.value) window in
    let on = c.in_ok-count.ensures in
    let read = read_turn file ahead at next count _ _ _ _ inv.low (inv.read told) from on.within on.one on.reads in
    let end = end_turn file ahead at next count inv.low from c.if-count-ahead.true (on.ends c.if-count-ahead.true) in
    told_by c.in_ok-end_word.field-0 c.end_word.new.versions.items others
    (sym c.in_ok-end_word.ensures.named ∙ line_named (drop at file) (next + count - at) _ _ others read end are ends)

pub loop-window-preserved : goal.loop-window-preserved
loop-window-preserved g c =
    let inv = c.loop-window.invariant in
    let file = octets_of ((g.D.Depot.state c.args.depot.now).held c.args.name.now) in
    let ahead = c.ahead-ahead.result.now in
    let at = c.args.at in
    let next = c.loop-window.next in
    let count = c.in_ok-count.count in
    let on = c.in_ok-count.ensures in
    record {
      low = omega (arith, inv.low);
      high = omega (arith, on.within, c.in_ok-reach.ensures.place, ap length c.ahead-ahead.ensures.value);
      read = λ told.
          let kept = inv.frame.kept told c.args.name.now in
          let window : IsFrom file next c.reach.new.self = rw kept at (c.in_ok-reach.ensures.ahead (inv.frame.told ∙ told)) in
          let from : IsFrom file next ahead = subst (IsFrom file next) (sym c.ahead-ahead.ensures.value) window in
          read_turn file ahead at next count _ _ _ _ inv.low (inv.read told) from on.within on.one on.reads;
      few = on.few inv.few;
      ahead = λ told.
          let kept = inv.frame.kept told c.args.name.now in
          let window : IsFrom file next c.reach.new.self = rw kept at (c.in_ok-reach.ensures.ahead (inv.frame.told ∙ told)) in
          rw c.move_to.ensures.moved window;
      place = rw c.move_to.ensures.moved c.in_ok-reach.ensures.place;
      frame = reads_go_on Failed 0 (Ok 0) c.args.name.now _ _ _ inv.frame (reads_may_be_answered_otherwise {U = ℕ} Failed _ (Ok 0) c.args.name.now _ _ c.in_ok-reach.ensures.frame (λ e. cc));
    }
