use Rattle.label_flow.proofs.node_agreement.Law.{last_edition_agrees_more as law}
use Rattle.label_flow.proofs.node_agreement.laws.last_edition_agrees_more.Goals as goal

pub returns : goal.returns
returns c = record { agree = law.agree; stays = law.stays; later = law.later }
