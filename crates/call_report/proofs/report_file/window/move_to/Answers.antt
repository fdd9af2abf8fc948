use Rattle.std.proofs.Common.{arith, ◌≡◌, ◌+◌, ◌-◌, subst, drop, ℕ}
use Rattle.net_io.specs.file_window.Window.{IsFrom}
use Rattle.net_io.proofs.file_window.Law.{a_window_goes_on_behind_octets}
use Rattle.call_report.proofs.report_file.window.move_to.Goals as goal

pub returns-else-at-place-clause-ahead : goal.returns-else-at-place-clause-ahead
returns-else-at-place-clause-ahead c = λ file from.
    let at : c.args.place.now + (c.args.at - c.args.place.now) ≡ c.args.at = omega arith in
    let behind = drop (c.args.at - c.args.place.now) c.args.window.now in
    rw c.skip.ensures (subst (λ (n : ℕ). IsFrom file n behind) at (a_window_goes_on_behind_octets file c.args.place.now (c.args.at - c.args.place.now) c.args.window.now from))
