use Rattle.std.proofs.Common.{◌∙◌, ap, sym}
use Rattle.indexmap.specs.IndexMap.{set_value_at}
use Rattle.netlabel_report.specs.declared.report_telling.counts.DenialCount.{DenialCount}
use Rattle.netlabel_report.proofs.report_telling.Tallies.{written_is}
use Rattle.netlabel_report.proofs.report_telling.counts.raise.Goals as goal

pub returns-in-Some : goal.returns-in-Some
returns-in-Some c =
    let entries = c.args.counts.now.entries in
    let denied : DenialCount = c.in-Some.denied.now in
    ap (λ n. set_value_at entries c.args.at (record { name = denied.name; count = n })) c.risen-denied.ensures
    ∙ written_is entries c.args.at denied (sym c.in-Some.ensures.value)
