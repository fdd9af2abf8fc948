use Rattle.std.proofs.Common.{[], ◌∷◌, ◌++◌, ap, ◌∙◌, if◌then◌else◌}
use Rattle.std.specs.Prelude.{option_copied}
use Rattle.domain_map.specs.declared.static_map.StaticEntry.{StaticEntry}
use Rattle.script_lines.specs.Command.{command_text}
use Rattle.script_lines.specs.declared.command.Command.TheVariants.{AcceptOn, AcceptOff}
use Rattle.node_tables.specs.Listing.{static_line}
use Rattle.node_tables.proofs.Listings.{listed_next}
use Rattle.node_tables.proofs.labels.list_labels.Goals as goal

pub loop-i-preserved : goal.loop-i-preserved
loop-i-preserved c =
    let e = c.entry-prefix.result in
    let range = c.assign_ends.new.self in
    let entry : StaticEntry = record { interface = option_copied e.0; prefix = e.1; low = e.2.now; high = e.3.now } in
    listed_next static_line c.args.statics.now c.loop-i.i entry (command_text (if c.args.accepts then AcceptOn else AcceptOff) ∷ []) c.loop-i.lines c.push_labels.new.lines c.entry-prefix.ensures.entry c.loop-i.invariant
    (c.in_ok-push_labels.ensures ∙ ap (λ r. c.loop-i.lines ++ static_line (record { interface = option_copied e.0; prefix = e.1; low = r.low; high = r.high }) ∷ []) c.assign_ends.ensures)
