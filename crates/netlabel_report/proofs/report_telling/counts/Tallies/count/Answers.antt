use Rattle.std.proofs.Common.{◌≡◌, ◌∙◌, false, length, map, nat_lt, sym, ap, arith, le-ltb}
use Rattle.indexmap.proofs.CallerLemmas.{insert_entry-new}
use Rattle.netlabel_report.specs.contracts.report_telling.counts.DenialPlacePartialEq.TheImpl.{ghosts}
use Rattle.netlabel_report.specs.report_telling.Counts.{is_counted, tallied}
use Rattle.netlabel_report.specs.inside.Tallies.{tally_at}
use Rattle.netlabel_report.proofs.report_telling.Tallies.{none_of, counted_is, tallied_there, tallied_new, tallied_full}
use Rattle.netlabel_report.proofs.report_telling.counts.Tallies.count.Goals as goal

pub returns-in-Some-clause-counted : goal.returns-in-Some-clause-counted
returns-in-Some-clause-counted c =
    let k = c.args.place in
    sym (counted_is k c.self.inside.counts.entries _ c.in-Some.ensures.found) ∙ ap (is_counted k.reason k.hop k.node) c.self.view_is

pub returns-in-Some-clause-tallies : goal.returns-in-Some-clause-tallies
returns-in-Some-clause-tallies c =
    let k = c.args.place in
    ap (map tally_at) c.raise.ensures ∙ sym (tallied_there k c.args.name c.self.inside.counts.entries c.in-Some.at c.in-Some.ensures.found (sym c.in-Some.ensures.index))
    ∙ ap (tallied k.reason c.args.name k.hop k.node) c.self.view_is

pub returns-then-len-ge-MOST_TALLIES-clause-counted : goal.returns-then-len-ge-MOST_TALLIES-clause-counted
returns-then-len-ge-MOST_TALLIES-clause-counted c =
    let k = c.args.place in
    let entries = c.self.inside.counts.entries in
    let full : nat_lt (length entries) 4096 ≡ false = le-ltb (length entries) 4096 (omega (arith, c.len.ensures.len, c.if-len-ge-MOST_TALLIES.true)) in
    sym full ∙ sym (counted_is k entries false c.in_default.ensures.found) ∙ ap (is_counted k.reason k.hop k.node) c.self.view_is

pub returns-then-len-ge-MOST_TALLIES-clause-tallies : goal.returns-then-len-ge-MOST_TALLIES-clause-tallies
returns-then-len-ge-MOST_TALLIES-clause-tallies c =
    let k = c.args.place in
    sym c.self.view_is ∙ sym (tallied_full k c.args.name c.self.inside.counts.entries c.in_default.ensures.found (omega (arith, c.len.ensures.len, c.if-len-ge-MOST_TALLIES.true)))
    ∙ ap (tallied k.reason c.args.name k.hop k.node) c.self.view_is

pub returns-clause-tallies : goal.returns-clause-tallies
returns-clause-tallies c =
    let k = c.args.place in
    let counts = c.self.inside.counts in
    ap (map tally_at) (c.in_ok-insert.ensures.entries ∙ insert_entry-new ghosts.eq counts k (record { name = c.args.name; count = 1 }) (none_of _ c.in_default.ensures.found))
    ∙ sym (tallied_new k c.args.name counts.entries c.in_default.ensures.found (omega (arith, c.len.ensures.len, c.if-len-ge-MOST_TALLIES.false)))
    ∙ ap (tallied k.reason c.args.name k.hop k.node) c.self.view_is
