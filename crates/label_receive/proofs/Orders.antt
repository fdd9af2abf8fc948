-- Tests of dominance.
use Rattle.std.proofs.Common.{◌≡◌, Bool, true, false, refl, sym}
use Rattle.std.specs.Prelude.{◌↔◌, IsTrue}
use Rattle.mls_label.specs.declared.label.Label.{Label}
use Rattle.mls_label.specs.Label.{Dominates}
use Rattle.mls_range.specs.Computed.{dominates}
use Rattle.mls_range.proofs.Law.{dominance_computes}

-- two tests of the same fact
same_test : (a b : Bool) (P : Type 0) → (IsTrue a ↔ P) → (IsTrue b ↔ P) → a ≡ b
same_test true true P x y = refl
same_test true false P x y = sym (y.1 (x.0 refl))
same_test false true P x y = x.1 (y.0 refl)
same_test false false P x y = refl

pub is_dominates : (test : Bool) (a b : Label) → (IsTrue test ↔ Dominates a b) → test ≡ dominates a b
is_dominates test a b tests = same_test test (dominates a b) (Dominates a b) tests (dominance_computes a b)
