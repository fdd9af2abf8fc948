use Rattle.static_law.proofs.Law.{calls_tell_whether_each_link_is_covered as law}
use Rattle.static_law.proofs.laws.calls_tell_whether_each_link_is_covered.Goals as goal

pub returns : goal.returns
returns c = law
