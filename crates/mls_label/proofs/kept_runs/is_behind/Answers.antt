use Rattle.std.proofs.Common.{◌≡◌, ◌-◌, ◌<◌, ◌≤◌, length, get_or, ap, sym, ◌∙◌, arith}
use Rattle.std.proofs.lemmas.Bool.{ltb-true}
use Rattle.std.proofs.lemmas.List.{get_or_default}
use Rattle.mls_label.specs.declared.cat_set.Run.{Run}
use Rattle.mls_label.proofs.Inside.{got_at}
use Rattle.mls_label.proofs.Splice.{lasts_rise}
use Rattle.mls_label.proofs.kept_runs.is_behind.Goals as goal

-- no run ends behind the last
pub returns-in-Some : goal.returns-in-Some
returns-in-Some c = λ holds k d lo hi.
    let runs = c.args.runs.now in
    let i = length runs - 1 in
    let r = c.in-Some.last.now in
    let at = got_at runs i r c.in-Some.ensures.value in
    let last : (get_or runs i d).last ≡ r.last = ap (λ (q : Run). q.last) (get_or_default runs i d r at.0 ∙ sym at.1) in
    let less : r.last < c.saturating_sub.result = ltb-true _ _ holds in
    let rise : (get_or runs k d).last ≤ (get_or runs i d).last = lasts_rise 0 runs c.requires k i d (omega (arith, hi)) at.0 in
    omega (arith, less, rise, last, c.saturating_sub.ensures)
