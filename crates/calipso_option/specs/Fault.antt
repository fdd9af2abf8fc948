-- What each fault says of the octets.
use Rattle.std.specs.Prelude.{ℕ, ◌≡◌, List, take}
use Rattle.mls_label.specs.octet_grammar.Front.{ReadsFront}
use Rattle.mls_label.specs.octet_grammar.Fault.{FailsFront}
use Rattle.calipso_option.specs.declared.calipso.Calipso.{Calipso}
use Rattle.calipso_option.specs.declared.fault.CalipsoFault.{CalipsoFault}
use Rattle.calipso_option.specs.declared.fault.CalipsoFault.TheVariants.{Wire, BadChecksum}
use Rattle.calipso_option.specs.Calipso.{IsCalipsoShape, checksum_of}

-- all but the checksum of an option at the front of s is as it should be
pub record HasBadChecksum (s : List ℕ) (stored computed : ℕ) : Type 0 where
  pub value : Calipso
  pub octets : ℕ
  pub shape : ReadsFront IsCalipsoShape s (value, stored) octets
  pub computes : computed ≡ checksum_of (take octets s)
  pub differ : stored ≡ computed → ⊥

-- the first fault is told without regard to the checksum, which comes last
abbrev pub IsFaulty : List ℕ → CalipsoFault → Type 0
IsFaulty s (Wire fault) = FailsFront IsCalipsoShape s fault
IsFaulty s (BadChecksum stored computed) = HasBadChecksum s stored computed
