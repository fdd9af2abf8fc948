-- Lists of octets and of numbers.
use Rattle.std.proofs.Common.{◌≡◌, ℕ, zero, suc, ◌+◌, ◌-◌, ◌<◌, List, [], ◌∷◌, ◌++◌, length, get_or, take, drop, replicate, Fits, w8, ap, ◌∙◌, arith, inl, inr}
use Rattle.std.specs.Prelude.{slice_index}
use Rattle.std.specs.List.{range_with_len}
use Rattle.std.proofs.Math.Facts.{Fits-lt-pow}
use Rattle.std.proofs.lemmas.Bool.{cases_lt}
use Rattle.std.proofs.lemmas.List.{length-take, length-replicate, get_or-take, get_or-drop, get_or-replicate, get_or_past, get_or_append_left, get_or-append_right}
use Rattle.mls_label.specs.octet_grammar.Octets.{IsOctets}

-- a slice of the program holds octets
pub octets_of : (s : List ℕ) → ((i : ℕ) → Fits w8 (get_or s i 0)) → IsOctets s
octets_of s fit = record { at = λ i. Fits-lt-pow (fit i) }

pub range_more : (a n : ℕ) → range_with_len a (n + 1) ≡ range_with_len a n ++ (a + n) ∷ []
range_more a zero = let same : a ≡ a + 0 = omega arith in ap (λ k. k ∷ []) same
range_more a (suc n) =
    let more : suc n + 1 ≡ suc (n + 1) = omega arith in
    let last : a + 1 + n ≡ a + suc n = omega arith in
    ap (range_with_len a) more ∙ ap (λ xs. a ∷ xs) (range_more (a + 1) n ∙ ap (λ k. range_with_len (a + 1) n ++ k ∷ []) last)

octet_in : (b : ℕ) (s : List ℕ) → b < 256 → IsOctets s → (i : ℕ) → slice_index (b ∷ s) i < 256
octet_in b s small octets zero = small
octet_in b s small octets (suc i) = octets.at i

pub octets-cons : (b : ℕ) (s : List ℕ) → b < 256 → IsOctets s → IsOctets (b ∷ s)
octets-cons b s small octets = record { at = octet_in b s small octets }

pub octets-append : (a b : List ℕ) → IsOctets a → IsOctets b → IsOctets (a ++ b)
octets-append a b left right =
    record {
      at = λ i. elim (cases_lt i (length a)) [
        | inl lt ↦ omega (arith, get_or_append_left a b 0 i lt, left.at i)
        | inr ge ↦ omega (arith, get_or-append_right a b (length a) i 0 (omega arith) ge, right.at (i - length a))
      ];
    }

pub octets-take : (n : ℕ) (s : List ℕ) → IsOctets s → IsOctets (take n s)
octets-take n s octets =
    record {
      at = λ i. elim (cases_lt i (length (take n s))) [
        | inl lt ↦ omega (arith, length-take n s, get_or-take n s i 0 (omega (arith, length-take n s)), octets.at i)
        | inr ge ↦ omega (arith, get_or_past (take n s) i 0 ge)
      ];
    }

pub octets-drop : (n : ℕ) (s : List ℕ) → IsOctets s → IsOctets (drop n s)
octets-drop n s octets = record { at = λ i. omega (arith, get_or-drop n s i 0, octets.at (n + i)) }

pub octets-zeros : (n : ℕ) → IsOctets (replicate n 0)
octets-zeros n =
    record {
      at = λ i. elim (cases_lt i n) [
        | inl lt ↦ omega (arith, get_or-replicate {A = ℕ} n i 0 0 lt)
        | inr ge ↦ omega (arith, get_or_past {X = ℕ} (replicate n 0) i 0 (omega (arith, length-replicate {A = ℕ} n 0)))
      ];
    }
