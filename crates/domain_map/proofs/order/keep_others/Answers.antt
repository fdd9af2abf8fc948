use Rattle.std.proofs.Common.{rules}
use Rattle.std.specs.Prelude.{not, nat_eq}
use Rattle.std.proofs.lemmas.Fn.{filter_same}
use Rattle.domain_map.specs.declared.order.Ranked.{Ranked}
use Rattle.domain_map.proofs.order.keep_others.Goals as goal

pub returns : goal.returns
returns c = filter_same _ (λ (r : Ranked). not (nat_eq r.place c.args.place)) _ (λ x b f h. search (rules, h)) _ _ c.retain.ensures.filtered
