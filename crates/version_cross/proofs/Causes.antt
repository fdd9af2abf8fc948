-- What holds of a packet without a cause.
use Rattle.std.proofs.Common.{◌≡◌, ℕ, ◌<◌, ◌≤◌, Bool, true, false, not, ◌&&◌, cond, eqb, ltb, IsTrue, List, [], ◌∷◌, length, Some, None, refl, arith}
use Rattle.std.specs.Prelude.{◌↔◌}
use Rattle.std.proofs.lemmas.Bool.{ltb-false, le-ltb}
use Rattle.std.proofs.lemmas.Bool.Decides.{nat_tests}
use Rattle.ip_headers.specs.declared.cause.Cause.TheVariants.{Protocol, Fragment, Options, Segment, NoChecksum}
use Rattle.ip_headers.specs.Options.{Placed, has_any}
use Rattle.version_cross.specs.Segment.{is_udp, is_transport, segment_minimum, segment_checksum}
use Rattle.version_cross.specs.Cause.{first_cause}

-- a chain of tests of which none fails
chain : (a b c d e : Bool) → cond (not a) (Some Protocol) (cond b (Some Fragment) (cond c (Some Options) (cond d (Some Segment) (cond e (Some NoChecksum) None)))) ≡ None → (a ≡ true) × (d ≡ false)
chain false b c d e h = absurd cc
chain true true c d e h = absurd cc
chain true false true d e h = absurd cc
chain true false false true e h = absurd cc
chain true false false false true h = absurd cc
chain true false false false false h = (refl, refl)

-- no cause: a whole segment of TCP or UDP
pub no_cause : (protocol : ℕ) (fragment others : Bool) (payload : List ℕ) → first_cause protocol fragment others payload ≡ None → (is_transport protocol ≡ true) × (segment_minimum protocol ≤ length payload)
unfolding first_cause
no_cause protocol fragment others payload e =
    let h = chain (is_transport protocol) fragment others (ltb (length payload) (segment_minimum protocol)) (is_udp protocol && eqb (segment_checksum protocol payload) 0) e in
    (h.0, ltb-false (length payload) (segment_minimum protocol) h.1)

passes : (a d e : Bool) → a ≡ true → d ≡ false → e ≡ false → cond (not a) (Some Protocol) (cond false (Some Fragment) (cond false (Some Options) (cond d (Some Segment) (cond e (Some NoChecksum) None)))) ≡ None
passes a d e ia id ie = rw (ia, id, ie) refl

-- and the other way round
pub none_again : (protocol : ℕ) (fragment others : Bool) (payload : List ℕ) → is_transport protocol ≡ true → fragment ≡ false → others ≡ false → segment_minimum protocol ≤ length payload
    → is_udp protocol && eqb (segment_checksum protocol payload) 0 ≡ false → first_cause protocol fragment others payload ≡ None
unfolding first_cause
none_again protocol fragment others payload known whole none long some =
    rw (whole, none) (passes (is_transport protocol) (ltb (length payload) (segment_minimum protocol)) (is_udp protocol && eqb (segment_checksum protocol payload) 0) known (le-ltb (length payload) (segment_minimum protocol) long) some)

-- neither TCP nor UDP has the number of a Hop-by-Hop header
pub not_hop : (protocol : ℕ) → is_transport protocol ≡ true → eqb protocol 0 ≡ false
not_hop protocol e = grind (arith, nat_tests)

-- what is asked of a list, in two forms
pub any_is : (b : Bool) (options : List Placed) → (IsTrue b ↔ (0 < length options)) → b ≡ has_any options
any_is true [] h = absurd (omega (arith, h.0 refl))
any_is true (o ∷ options) h = refl
any_is false [] h = refl
any_is false (o ∷ options) h = h.1 (omega arith)
