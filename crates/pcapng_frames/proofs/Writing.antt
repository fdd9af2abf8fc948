-- What is written of a frame.
use Rattle.std.proofs.Common.{arith, ◌≡◌, ◌<◌, ◌+◌, ◌-◌, ℕ, zero, suc, List, [], ◌∷◌, ◌++◌, length, take, refl, ap, sym, ◌∙◌, append_assoc}
use Rattle.std.specs.Prelude.{replicate}
use Rattle.std.proofs.lemmas.List.{length-append, length-replicate}
use Rattle.byteorder.specs.Endian.{little_bytes}
use Rattle.pcap_frames.specs.declared.record.FrameHead.{FrameHead}
use Rattle.pcapng_frames.specs.Numbers.{padded}
use Rattle.pcapng_frames.specs.Written.{packet_front, zero_padding, ng_frame_octets}

regroup : (out a b p o z l : List ℕ) → (((out ++ (a ++ (b ++ p))) ++ o) ++ z) ++ l ≡ out ++ (a ++ (b ++ (p ++ (o ++ (z ++ l)))))
regroup out a b p o z l = simp append_assoc refl

-- the block of a packet, part by part
unfoldable pub packet_parts : FrameHead → List ℕ → List ℕ
packet_parts head octets =
    let total = 32 + padded (length octets) in
    little_bytes 4 6 ++ (little_bytes 4 total ++ (packet_front head (length octets) ++ (octets ++ (zero_padding (length octets) ++ little_bytes 4 total))))

pub padding_length : (n : ℕ) → length (zero_padding n) ≡ padded n - n
padding_length n = length-replicate (padded n - n) 0

body_back : (a b p o z l : List ℕ) → a ++ (b ++ ((p ++ (o ++ z)) ++ l)) ≡ a ++ (b ++ (p ++ (o ++ (z ++ l))))
body_back a b p o z l = simp append_assoc refl

pub in_parts : (head : FrameHead) (octets : List ℕ) → ng_frame_octets head octets ≡ packet_parts head octets
unfolding ng_frame_octets packet_parts
in_parts head octets =
    let n = length octets in
    let body = packet_front head n ++ (octets ++ zero_padding n) in
    let total : length body + 12 ≡ 32 + padded n = omega (arith, padding_length n, length-append octets (zero_padding n)) in
    ap (λ t. little_bytes 4 6 ++ (little_bytes 4 t ++ (body ++ little_bytes 4 t))) total
    ∙ body_back (little_bytes 4 6) (little_bytes 4 (32 + padded n)) (packet_front head n) octets (zero_padding n) (little_bytes 4 (32 + padded n))

-- fewer than four octets of padding
few_zeros : (n : ℕ) → n < 4 → take n (0 ∷ 0 ∷ 0 ∷ 0 ∷ []) ≡ (let zeros : List ℕ = replicate n 0 in zeros)
few_zeros zero lt = refl
few_zeros (suc zero) lt = refl
few_zeros (suc (suc zero)) lt = refl
few_zeros (suc (suc (suc zero))) lt = refl
few_zeros (suc (suc (suc (suc n)))) lt = absurd (omega arith)

-- the parts of a block, one appended behind another
pub frame_appended : (out one two three four front last octets : List ℕ) (head : FrameHead) (total room : ℕ)
    → one ≡ out ++ front → two ≡ one ++ octets → three ≡ two ++ take (room - length octets) (0 ∷ 0 ∷ 0 ∷ 0 ∷ []) → four ≡ three ++ last
    → front ≡ little_bytes 4 6 ++ (little_bytes 4 total ++ packet_front head (length octets)) → room ≡ padded (length octets) → total ≡ 32 + room → last ≡ little_bytes 4 total
    → four ≡ out ++ ng_frame_octets head octets
unfolding packet_parts
frame_appended out one two three four front last octets head total room first second third fourth is roomy all ends =
    let whole : total ≡ 32 + padded (length octets) = omega (arith, roomy, all) in
    let zeros : take (room - length octets) (0 ∷ 0 ∷ 0 ∷ 0 ∷ []) ≡ zero_padding (length octets) =
    ap (λ n. take (n - length octets) (0 ∷ 0 ∷ 0 ∷ 0 ∷ [])) roomy ∙ few_zeros (padded (length octets) - length octets) (omega arith) in
    fourth
    ∙ ap (λ l. l ++ last) (third ∙ ap (λ l. l ++ take (room - length octets) (0 ∷ 0 ∷ 0 ∷ 0 ∷ [])) (second ∙ ap (λ l. l ++ octets) (first ∙ ap (λ l. out ++ l) is)))
    ∙ ap (λ l. (((out ++ (little_bytes 4 6 ++ (little_bytes 4 total ++ packet_front head (length octets)))) ++ octets) ++ l) ++ last) zeros
    ∙ ap (λ l. (((out ++ (little_bytes 4 6 ++ (little_bytes 4 total ++ packet_front head (length octets)))) ++ octets) ++ zero_padding (length octets)) ++ l) ends
    ∙ regroup out (little_bytes 4 6) (little_bytes 4 total) (packet_front head (length octets)) octets (zero_padding (length octets)) (little_bytes 4 total)
    ∙ ap (λ n. out ++ (little_bytes 4 6 ++ (little_bytes 4 n ++ (packet_front head (length octets) ++ (octets ++ (zero_padding (length octets) ++ little_bytes 4 n)))))) whole
    ∙ ap (λ l. out ++ l) (sym (in_parts head octets))
