use Rattle.doi_table.proofs.Law.{pairs_lead_back}
use Rattle.doi_table.proofs.laws.pairs_lead_back.Goals as goal

pub returns : goal.returns
returns c = pairs_lead_back
