use Rattle.std.proofs.Common.{sym, ◌∙◌}
use Rattle.node_tables.proofs.Lists.{stays, lists_none}
use Rattle.node_tables.proofs.tables.Tables.change.Goals as goal

pub returns-then-is_listing-clause-ok : goal.returns-then-is_listing-clause-ok
returns-then-is_listing-clause-ok c = sym (stays c.args.self.now c.args.command.now (sym c.is_listing.ensures ∙ c.if-is_listing.true))

pub returns-in_err-_reply-clause-listing : goal.returns-in_err-_reply-clause-listing
returns-in_err-_reply-clause-listing c = λ lines listed. absurd (lists_none c.args.self.now c.args.command.now lines (sym c.is_listing.ensures ∙ c.if-is_listing.false) listed)
