-- Static entries: their keys, their order and their labels.
use Rattle.std.specs.Prelude.{ℕ, List, [], ◌∷◌}
use Rattle.mls_label.specs.Label.{Dominates}
use Rattle.domain_map.specs.address_text.Prefix.{AddressBlock}
use Rattle.domain_map.specs.declared.order.Ranked.{Ranked}
use Rattle.domain_map.specs.declared.static_map.StaticEntry.{StaticEntry}
use Rattle.domain_map.specs.Domains.{Domain}
use Rattle.domain_map.specs.inside.Ranking.{IsRanked}

abbrev pub static_key : StaticEntry → Domain × AddressBlock
static_key e = (e.interface, e.prefix)

abbrev pub static_bits : StaticEntry → ℕ
static_bits e = e.prefix.bits

-- the high label of each dominates the low one
abbrev pub AreOrdered : List StaticEntry → Type 0
AreOrdered [] = Unit {0}
AreOrdered (e ∷ es) = Dominates e.high e.low × AreOrdered es

pub record AreStatics (entries : List StaticEntry) (ranks : List Ranked) : Type 0 where
  pub ranked : IsRanked static_key static_bits entries ranks
  pub ordered : AreOrdered entries
