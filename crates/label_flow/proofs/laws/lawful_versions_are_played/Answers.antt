use Rattle.label_flow.proofs.Law.{lawful_versions_are_played as law}
use Rattle.label_flow.proofs.laws.lawful_versions_are_played.Goals as goal

pub returns : goal.returns
returns c = law
