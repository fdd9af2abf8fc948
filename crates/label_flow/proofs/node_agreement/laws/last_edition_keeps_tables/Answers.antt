use Rattle.label_flow.proofs.node_agreement.Law.{last_edition_keeps_tables as law}
use Rattle.label_flow.proofs.node_agreement.laws.last_edition_keeps_tables.Goals as goal

pub returns : goal.returns
returns c = record { tables = law.tables; replies = law.replies }
