-- The packet of a frame is its end.
use Rattle.std.proofs.Common.{◌≡◌, ℕ, ◌+◌, ◌-◌, ◌≤◌, ◌<◌, ◌⊎◌, Bool, true, false, cond, List, length, drop, Option, Some, None, sym, ap, subst, ◌∙◌, arith, le_refl, inl, inr}
use Rattle.std.proofs.lemmas.Bool.{cases_lt}
use Rattle.std.proofs.lemmas.List.{drop_all, drop-drop, length-drop}
use Rattle.pcap_frames.specs.Ip.{ip_part_of, ethernet_part, typed_part}

-- a part is the octets' end
pub record IsEnd (octets part : List ℕ) : Type 0 where
  pub within : length part ≤ length octets
  pub is : drop (length octets - length part) octets ≡ part

all_end : (octets : List ℕ) → IsEnd octets octets
all_end octets = record { within = le_refl _; is = ap (λ n. drop n octets) (let none : length octets - length octets ≡ 0 = omega arith in none) }

-- the octets behind the first n
drop_end : (n : ℕ) (octets : List ℕ) → IsEnd octets (drop n octets)
drop_end n octets = record {
  within = omega (arith, length-drop n octets);
  is = at_rest (cases_lt n (length octets));
}
  where
    at_rest : (n < length octets) ⊎ (length octets ≤ n) → drop (length octets - length (drop n octets)) octets ≡ drop n octets
    at_rest (inl less) =
        let same : length octets - length (drop n octets) ≡ n = omega (arith, length-drop n octets, less) in
        ap (λ k. drop k octets) same
    at_rest (inr past) =
        let same : length octets - length (drop n octets) ≡ length octets = omega (arith, length-drop n octets, past) in
        ap (λ k. drop k octets) same ∙ drop_all (length octets) octets (le_refl _) ∙ sym (drop_all n octets past)

-- what is there is an end of the octets
Fits : List ℕ → Option (List ℕ) → Type 0
Fits octets read = (part : List ℕ) → read ≡ Some part → IsEnd octets part

fits_none : (octets : List ℕ) → Fits octets None
unfolding Fits
fits_none octets part is = absurd cc

fits_some : (octets part : List ℕ) → IsEnd octets part → Fits octets (Some part)
unfolding Fits
fits_some octets part end other is = let same : part ≡ other = cc in subst (λ (p : List ℕ). IsEnd octets p) same end

fits_one : (octets : List ℕ) (t : Bool) (yea nay : Option (List ℕ)) → Fits octets yea → Fits octets nay → Fits octets (cond t yea nay)
fits_one octets true yea nay one other = one
fits_one octets false yea nay one other = other

fits_typed : (n : ℕ) (octets : List ℕ) → Fits octets (typed_part (drop n octets))
fits_typed n octets =
    fits_one octets _ _ _
    (fits_some octets _ (subst (λ (p : List ℕ). IsEnd octets p) (sym (drop-drop 2 n octets)) (drop_end (n + 2) octets)))
    (fits_none octets)

fits_ethernet : (octets : List ℕ) → Fits octets (ethernet_part octets)
fits_ethernet octets = fits_one octets _ _ _ (fits_none octets) (fits_one octets _ _ _ (fits_typed 16 octets) (fits_typed 12 octets))

fits : (link : ℕ) (octets : List ℕ) → Fits octets (ip_part_of link octets)
unfolding ip_part_of
fits link octets = fits_one octets _ _ _ (fits_ethernet octets) (fits_one octets _ _ _ (fits_some octets octets (all_end octets)) (fits_none octets))

-- the packet of a frame is the frame's end
pub part_is_end : (link : ℕ) (octets part : List ℕ) → ip_part_of link octets ≡ Some part → IsEnd octets part
unfolding Fits
part_is_end link octets part is = fits link octets part is
