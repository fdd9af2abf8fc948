-- The first eight octets of an option, step by step.
use Rattle.std.specs.Prelude.{ℕ, ◌≡◌, ◌-◌, ◌<◌, ◌≤◌, List, length, slice_index}
use Rattle.mls_label.specs.octet_grammar.Numbers.{u32_at}
use Rattle.mls_label.specs.declared.label.Tag.{Tag}
use Rattle.cipso_tags.specs.Tag.{tag_type, HasLength}
use Rattle.cipso_option.specs.declared.bounds.TheConstants.{OPTION_TYPE, HEAD_OCTETS, FEWEST_OCTETS, MOST_OCTETS}

-- an option's type and a length that options have
pub record IsStart (bytes : List ℕ) : Type 0 where
  pub long : 2 ≤ length bytes
  pub type : slice_index bytes 0 ≡ OPTION_TYPE
  pub low : FEWEST_OCTETS ≤ slice_index bytes 1
  pub high : slice_index bytes 1 ≤ MOST_OCTETS

pub record IsNamed (bytes : List ℕ) : Type 0 where
  pub long : HEAD_OCTETS ≤ length bytes
  pub named : 0 < u32_at bytes 2

-- the type of a tag that may fill the option, and that tag's length
pub record HasTagHead (bytes : List ℕ) : Type 0 where
  pub long : 8 ≤ length bytes
  pub tag : Tag
  pub type : slice_index bytes 6 ≡ tag_type tag
  pub size : slice_index bytes 7 ≡ slice_index bytes 1 - HEAD_OCTETS
  pub there : HasLength tag (slice_index bytes 1 - HEAD_OCTETS)
