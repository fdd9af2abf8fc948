use Rattle.std.proofs.Common.{◌∙◌, sym, nat_eq}
use Rattle.indexmap.proofs.CallerLemmas.{insert_entry-new}
use Rattle.label_commands.proofs.node_readings.Pairs.{none_from}
use Rattle.label_commands.proofs.node_readings.namings.name_first.Goals as goal

pub returns-clause-entries : goal.returns-clause-entries
returns-clause-entries c =
    c.in_ok-insert.ensures.entries ∙ insert_entry-new nat_eq c.args.first.now c.args.number c.args.meaning (none_from _ (sym c.if-contains_key.ensures))
