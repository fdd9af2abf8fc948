-- What is true of the definitions alone.
use Rattle.std.specs.Prelude.{◌≡◌, ℕ, ◌≤◌, List, length, None}
use Rattle.mls_label.specs.octet_grammar.Octets.{IsOctets}
use Rattle.ip_headers.specs.declared.version.Version.{Version}
use Rattle.ip_headers.specs.declared.version.Version.TheVariants.{V4, V6}
use Rattle.ip_headers.specs.Packet.{Headers}
use Rattle.ip_headers.specs.Written.{IsParsed}
use Rattle.version_cross.specs.Cause.{cross_cause}
use Rattle.version_cross.specs.Cross.{other_version}

-- how many octets an address has (RFC 791, section 3.1; RFC 8200, section 3)
abbrev pub address_size : Version → ℕ
address_size V4 = 4
address_size V6 = 16

-- octets that are an address of this version
pub record IsAddressOf (version : Version) (octets : List ℕ) : Type 0 where
  pub are : IsOctets octets
  pub long : length octets ≡ address_size version

-- a packet whose values fit their fields, whose payload a length field can count, and which can cross to these addresses
pub record CanCross (p : Headers) (from to : List ℕ) : Type 0 where
  pub parsed : IsParsed p
  pub octets : IsOctets p.payload
  pub short : length p.payload ≤ 65535
  pub cause : cross_cause p ≡ None
  pub source : IsAddressOf (other_version p.version) from
  pub destination : IsAddressOf (other_version p.version) to
