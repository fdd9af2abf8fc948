-- The CIPSO option of IPv4 in a profile with one tag: the set of whole octet strings that are one, each with its DOI, tag
-- and label (FIPS 188; CIPSO draft 2.2, section 3).
use Rattle.std.specs.Prelude.{ℕ, ◌≡◌, ◌+◌, ◌^◌, ◌<◌, List, ◌∷◌, ◌++◌, length}
use Rattle.std.specs.Int.{w32, to_be_bytes}
use Rattle.cipso_tags.specs.Tag.{IsTag}
use Rattle.cipso_option.specs.declared.bounds.TheConstants.{OPTION_TYPE, HEAD_OCTETS}
use Rattle.cipso_option.specs.declared.cipso.Cipso.{Cipso}

-- type 134, length of the whole option, the domain of interpretation in network order, which isn't 0, and one tag that
-- fills the rest
pub record IsCipso (bytes : List ℕ) (value : Cipso) : Type 0 where
  pub rest : List ℕ
  pub is : bytes ≡ OPTION_TYPE ∷ (HEAD_OCTETS + length rest) ∷ (to_be_bytes w32 value.doi ++ rest)
  pub carries : IsTag rest (value.tag, value.label)
  pub named : 0 < value.doi
  pub fits : value.doi < 2 ^ 32
