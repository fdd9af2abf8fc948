-- Sums of words of 16 bits, and numbers modulo 65535.
use Rattle.std.proofs.Common.{◌≡◌, ℕ, zero, suc, ◌+◌, ◌-◌, ◌*◌, ◌/◌, ◌%◌, ◌<◌, ◌≤◌, cond, eqb, List, [], ◌∷◌, ◌++◌, length, get_or, take, drop, All, sum, ap, ◌∙◌, append_assoc, arith, length-append}
use Rattle.std.specs.Int.{w16, to_be_bytes, from_be_bytes}
use Rattle.std.proofs.lemmas.Bool.Decides.{nat_tests}
use Rattle.std.proofs.lemmas.List.{length-take-le, take-append-drop, drop_more}
use Rattle.std.proofs.lemmas.List.Elements.{All-nil, All-cons}
use Rattle.std.proofs.lemmas.List.Sums.{sum_by-cons}
use Rattle.mls_label.specs.octet_grammar.Octets.{IsOctets}
use Rattle.mls_label.specs.octet_grammar.Numbers.{u16_at}
use Rattle.mls_label.proofs.octet_grammar.Octets.{octets-drop}
use Rattle.ip_headers.specs.declared.version.Version.{Version}
use Rattle.ip_headers.specs.declared.version.Version.TheVariants.{V4, V6}
use Rattle.ip_headers.specs.Sum.{words_of, ones_add, ones_sum}
use Rattle.ip_headers.proofs.Law.{sum_is_modulo_65535}
use Rattle.version_cross.specs.Checksum.{pseudo_tail, updated_checksum}

-- the sum of the words of octets
abbrev pub total : List ℕ → ℕ
total octets = sum (words_of octets)

total-pair : (a b : ℕ) (s : List ℕ) → total (a ∷ b ∷ s) ≡ 256 * a + b + total s
total-pair a b s = let f : ℕ → ℕ = λ n. n in omega (arith, sum_by-cons f (from_be_bytes w16 (a ∷ b ∷ [])) (words_of s))

-- words don't go over the end of a part that has an even number of octets
pub total-append : (k : ℕ) (a b : List ℕ) → length a ≡ 2 * k → total (a ++ b) ≡ total a + total b
total-append k [] b e = omega arith
total-append zero (x ∷ a) b e = absurd (omega (arith, e))
total-append (suc k) (x ∷ []) b e = absurd (omega (arith, e))
total-append (suc k) (x ∷ y ∷ a) b e =
    let rest : length a ≡ 2 * k = omega (arith, e) in
    omega (arith, total-pair x y a, total-pair x y (a ++ b), total-append k a b rest)

-- a number of 16 bits behind an even number of octets, and what follows it
pub total-number : (k : ℕ) (front rest : List ℕ) (n : ℕ) → length front ≡ 2 * k → n < 65536 → total (front ++ to_be_bytes w16 n ++ rest) ≡ total front + n + total rest
total-number k front rest n even small =
    omega (arith, ap total (append_assoc front (to_be_bytes w16 n) rest), total-append k front (to_be_bytes w16 n ++ rest) even, total-pair (n / 256 % 256) (n % 256) rest)

-- the number that stands there
pub total-at : (k : ℕ) (s : List ℕ) → 2 * k + 1 < length s → total s ≡ total (take (2 * k) s) + u16_at s (2 * k) + total (drop (2 * k + 2) s)
total-at k s within =
    let n = 2 * k in
    let next : n + 1 + 1 ≡ n + 2 = omega arith in
    let tail : drop n s ≡ get_or s n 0 ∷ get_or s (n + 1) 0 ∷ drop (n + 2) s =
    drop_more s n 0 (omega (arith, within)) ∙ ap (λ (l : List ℕ). get_or s n 0 ∷ l) (drop_more s (n + 1) 0 within ∙ ap (λ (m : ℕ). get_or s (n + 1) 0 ∷ drop m s) next) in
    let whole : total (take n s ++ drop n s) ≡ total s = ap total (take-append-drop n s) in
    omega (arith, whole, total-append k (take n s) (drop n s) (length-take-le n s (omega (arith, within))), ap total tail, total-pair (get_or s n 0) (get_or s (n + 1) 0) (drop (n + 2) s))

-- length and protocol in a pseudo-header
pub total-tail : (version : Version) (protocol size : ℕ) → size < 65536 → total (pseudo_tail version protocol size) ≡ size + protocol
total-tail V4 protocol size small = omega (arith, total-pair 0 protocol (to_be_bytes w16 size), total-pair (size / 256 % 256) (size % 256) [])
total-tail V6 protocol size small =
    omega (
      arith,
      total-pair (size / 16777216 % 256) (size / 65536 % 256) (size / 256 % 256 ∷ size % 256 ∷ 0 ∷ 0 ∷ 0 ∷ protocol ∷ []),
      total-pair (size / 256 % 256) (size % 256) (0 ∷ 0 ∷ 0 ∷ protocol ∷ []),
      total-pair 0 0 (0 ∷ protocol ∷ []),
      total-pair 0 protocol [],
    )

-- a segment behind its pseudo-header
pub total-whole : (k j : ℕ) (source destination tail segment : List ℕ) → length source ≡ 2 * k → length destination ≡ 2 * k → length tail ≡ 2 * j
    → total (source ++ destination ++ tail ++ segment) ≡ total source + total destination + total tail + total segment
total-whole k j source destination tail segment es ed et =
    let two : length (source ++ destination) ≡ 2 * (k + k) = omega (arith, length-append source destination, es, ed) in
    let three : length (source ++ destination ++ tail) ≡ 2 * (k + k + j) = omega (arith, length-append (source ++ destination) tail, two, et) in
    omega (arith, total-append (k + k + j) (source ++ destination ++ tail) segment three, total-append (k + k) (source ++ destination) tail two, total-append k source destination es)

-- ---- modulo 65535

congruent : (a b i j : ℕ) → a + 65535 * i ≡ b + 65535 * j → a % 65535 ≡ b % 65535
congruent a b i j e = omega (arith, e)

-- the words of new addresses with the updated checksum are the old ones with the old checksum
pub updated_sum : (old new rest h : ℕ) → h ≤ 65535 → (new + rest + updated_checksum h old new) % 65535 ≡ (old + rest + h) % 65535
updated_sum old new rest h small =
    let x = 65535 - h + new + 65534 * old + 65534 in
    congruent (new + rest + updated_checksum h old new) (old + rest + h) (1 + old) (x / 65535) (omega arith)

-- an updated checksum depends on sums modulo 65535
pub updated-same : (h old new old' new' : ℕ) → old % 65535 ≡ old' % 65535 → new % 65535 ≡ new' % 65535 → updated_checksum h old new ≡ updated_checksum h old' new'
updated-same h old new old' new' old_is new_is =
    let e : (65535 - h + new + 65534 * old + 65534) % 65535 ≡ (65535 - h + new' + 65534 * old' + 65534) % 65535 =
    congruent (65535 - h + new + 65534 * old + 65534) (65535 - h + new' + 65534 * old' + 65534) (new' / 65535 + 65534 * (old' / 65535)) (new / 65535 + 65534 * (old / 65535)) (omega (arith, old_is, new_is)) in
    ap (λ (n : ℕ). 65535 - (1 + n)) e

-- one's complement sums
words_small : (octets : List ℕ) → IsOctets octets → All (λ w. w < 65536) (words_of octets)
words_small [] are = All-nil (λ (w : ℕ). w < 65536)
words_small (a ∷ []) are = All-cons (λ (w : ℕ). w < 65536) (from_be_bytes w16 (a ∷ 0 ∷ [])) [] (omega (arith, are.at 0)) (All-nil (λ (w : ℕ). w < 65536))
words_small (a ∷ b ∷ octets) are =
    All-cons (λ (w : ℕ). w < 65536) (from_be_bytes w16 (a ∷ b ∷ [])) (words_of octets) (omega (arith, are.at 0, are.at 1)) (words_small octets (octets-drop 2 (a ∷ b ∷ octets) are))

from_one : (n : ℕ) → cond (eqb n 0) 0 (1 + (n - 1) % 65535) % 65535 ≡ n % 65535
from_one n = grind (arith, nat_tests)

ones_sum-modulo : (octets : List ℕ) → IsOctets octets → ones_sum octets % 65535 ≡ total octets % 65535
unfolding ones_sum
ones_sum-modulo octets are = ap (λ (n : ℕ). n % 65535) (sum_is_modulo_65535 (words_of octets) (words_small octets are)) ∙ from_one (total octets)

ones_add-modulo : (a b : ℕ) → ones_add a b % 65535 ≡ (a + b) % 65535
ones_add-modulo a b = grind (arith, nat_tests)

pub ones_sums-modulo : (a b : List ℕ) → IsOctets a → IsOctets b → ones_add (ones_sum a) (ones_sum b) % 65535 ≡ (total a + total b) % 65535
ones_sums-modulo a b are_a are_b = omega (arith, ones_add-modulo (ones_sum a) (ones_sum b), ones_sum-modulo a are_a, ones_sum-modulo b are_b)
