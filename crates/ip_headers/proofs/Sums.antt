-- The one's complement sum.
use Rattle.std.proofs.Common.{◌≡◌, ℕ, zero, suc, ◌+◌, ◌-◌, ◌*◌, ◌%◌, ◌^◌, ◌<◌, ◌≤◌, Bool, true, false, cond, eqb, List, [], ◌∷◌, All, length, get_or, drop, sum, fold, refl, ap, sym, ◌∙◌, arith}
use Rattle.std.specs.Bool.{FalseIff}
use Rattle.std.specs.Int.{w16, w32, w64, from_bool, from_be_bytes}
use Rattle.std.proofs.lemmas.Bool.Decides.{nat_tests}
use Rattle.std.proofs.lemmas.List.Elements.{All-nil, All-cons, All-head, All-tail}
use Rattle.std.proofs.lemmas.List.Sums.{sum_by-cons}
use Rattle.mls_label.specs.octet_grammar.Octets.{IsOctets}
use Rattle.mls_label.proofs.octet_grammar.Octets.{octets-drop}
use Rattle.ip_headers.specs.Sum.{ones_add, words_of, ones_sum}
use Rattle.ip_headers.specs.inside.Modulo.{modulo}

add_modulo : (total w : ℕ) → w < 65536 → ones_add (modulo total) w ≡ modulo (total + w)
unfolding modulo
add_modulo total w small = grind (arith, nat_tests)

fold_from : (total : ℕ) (words : List ℕ) → All (λ w. w < 65536) words → fold ones_add (modulo total) words ≡ modulo (total + sum words)
fold_from total [] small = let e : total ≡ total + 0 = omega arith in ap modulo e
fold_from total (w ∷ words) small =
    let f : ℕ → ℕ = λ n. n in
    let e : total + w + sum words ≡ total + sum (w ∷ words) = omega (arith, sum_by-cons f w words) in
    ap (λ (n : ℕ). fold ones_add n words) (add_modulo total w (All-head (λ x. x < 65536) w words small)) ∙ fold_from (total + w) words (All-tail (λ x. x < 65536) w words small) ∙ ap modulo e

pub is_modulo : (words : List ℕ) → All (λ w. w < 65536) words → fold ones_add 0 words ≡ cond (eqb (sum words) 0) 0 (1 + (sum words - 1) % 65535)
unfolding modulo
is_modulo words small = let e : 0 + sum words ≡ sum words = omega arith in fold_from 0 words small ∙ ap modulo e

words_small : (octets : List ℕ) → IsOctets octets → All (λ w. w < 65536) (words_of octets)
words_small [] are = All-nil (λ (w : ℕ). w < 65536)
words_small (a ∷ []) are = All-cons (λ (w : ℕ). w < 65536) (from_be_bytes w16 (a ∷ 0 ∷ [])) [] (omega (arith, are.at 0)) (All-nil (λ (w : ℕ). w < 65536))
words_small (a ∷ b ∷ octets) are =
    All-cons (λ (w : ℕ). w < 65536) (from_be_bytes w16 (a ∷ b ∷ [])) (words_of octets) (omega (arith, are.at 0, are.at 1)) (words_small octets (octets-drop 2 (a ∷ b ∷ octets) are))

pub sum_is : (octets : List ℕ) → IsOctets octets → ones_sum octets ≡ modulo (sum (words_of octets))
unfolding ones_sum modulo
sum_is octets are = is_modulo (words_of octets) (words_small octets are)

-- words with their complement add up to all ones
pub complement : (total : ℕ) → 0 < total → modulo (total + (65535 - modulo total)) ≡ 65535
unfolding modulo
complement total some =
    let e : eqb total 0 ≡ false = grind (arith, nat_tests) in
    let n = (total - 1) % 65535 in
    let m = total + (65535 - (1 + n)) in
    let e2 : eqb m 0 ≡ false = grind (arith, nat_tests) in
    let r : 1 + (m - 1) % 65535 ≡ 65535 = omega arith in
    rw (e, e2) r

-- a multiple of 65535 more changes nothing, and so nothing changes where it is less
pub modulo_less : (m n k : ℕ) → n + k * 65535 ≡ m → 0 < n → modulo n ≡ modulo m
unfolding modulo
modulo_less m n k e some =
    let e1 : eqb n 0 ≡ false = grind (arith, nat_tests) in
    let e2 : eqb m 0 ≡ false = grind (arith, nat_tests) in
    let r : 1 + (n - 1) % 65535 ≡ 1 + (m - 1) % 65535 = omega (arith, e, some) in
    rw (e1, e2) r

modulo_more : (n k : ℕ) → (n ≡ 0 → k ≡ 0) → modulo n ≡ modulo (n + k * 65535)
modulo_more zero k none =
    let e : 0 ≡ 0 + k * 65535 = omega (arith, none refl) in
    ap modulo e
modulo_more (suc n) k none = modulo_less (suc n + k * 65535) (suc n) k (omega arith) (omega arith)

-- two words as one number of four octets
pub four_words : (total : ℕ) (s : List ℕ) → 4 ≤ length s
    → modulo (total + from_be_bytes w32 (get_or s 0 0 ∷ get_or s 1 0 ∷ get_or s 2 0 ∷ get_or s 3 0 ∷ []) + sum (words_of (drop 4 s))) ≡ modulo (total + sum (words_of s))
four_words total (a ∷ b ∷ c ∷ d ∷ s) long =
    let f : ℕ → ℕ = λ n. n in
    let high = from_be_bytes w16 (a ∷ b ∷ []) in
    let low = from_be_bytes w16 (c ∷ d ∷ []) in
    let x = total + sum (words_of (a ∷ b ∷ c ∷ d ∷ s)) in
    let e : x ≡ total + high + low + sum (words_of s) = omega (arith, sum_by-cons f high (low ∷ words_of s), sum_by-cons f low (words_of s)) in
    let m : total + from_be_bytes w32 (a ∷ b ∷ c ∷ d ∷ []) + sum (words_of s) ≡ x + high * 65535 = omega (arith, e) in
    ap modulo m ∙ sym (modulo_more x high (λ zero. omega (arith, e, zero)))
four_words total [] long = absurd (omega arith)
four_words total (a ∷ []) long = absurd (omega arith)
four_words total (a ∷ b ∷ []) long = absurd (omega arith)
four_words total (a ∷ b ∷ c ∷ []) long = absurd (omega arith)

-- four words as one number of eight octets
pub eight_words : (total : ℕ) (s : List ℕ) → 8 ≤ length s
    → modulo (total + from_be_bytes w64 (get_or s 0 0 ∷ get_or s 1 0 ∷ get_or s 2 0 ∷ get_or s 3 0 ∷ get_or s 4 0 ∷ get_or s 5 0 ∷ get_or s 6 0 ∷ get_or s 7 0 ∷ []) + sum (words_of (drop 8 s)))
    ≡ modulo (total + sum (words_of s))
eight_words total (a ∷ b ∷ c ∷ d ∷ e ∷ f ∷ g ∷ h ∷ s) long =
    let high = from_be_bytes w32 (a ∷ b ∷ c ∷ d ∷ []) in
    let low = from_be_bytes w32 (e ∷ f ∷ g ∷ h ∷ []) in
    let n = total + high + low + sum (words_of s) in
    let m : total + from_be_bytes w64 (a ∷ b ∷ c ∷ d ∷ e ∷ f ∷ g ∷ h ∷ []) + sum (words_of s) ≡ n + high * 65537 * 65535 = omega arith in
    ap modulo m
    ∙ sym (modulo_more n (high * 65537) (λ zero. omega (arith, zero)))
    ∙ four_words (total + high) (e ∷ f ∷ g ∷ h ∷ s) (omega arith)
    ∙ four_words total (a ∷ b ∷ c ∷ d ∷ e ∷ f ∷ g ∷ h ∷ s) (omega arith)
eight_words total (a ∷ b ∷ c ∷ d ∷ e ∷ f ∷ g ∷ []) long = absurd (omega arith)
eight_words total (a ∷ b ∷ c ∷ d ∷ e ∷ f ∷ []) long = absurd (omega arith)
eight_words total (a ∷ b ∷ c ∷ d ∷ e ∷ []) long = absurd (omega arith)
eight_words total (a ∷ b ∷ c ∷ d ∷ []) long = absurd (omega arith)
eight_words total (a ∷ b ∷ c ∷ []) long = absurd (omega arith)
eight_words total (a ∷ b ∷ []) long = absurd (omega arith)
eight_words total (a ∷ []) long = absurd (omega arith)
eight_words total [] long = absurd (omega arith)

-- a carry out of 64 bits that comes in again: 2 ^ 64 is 1 modulo 65535
pub carry_in : (total more wrapped : ℕ) (carry : Bool) → total < 2 ^ 65 → wrapped ≡ total % 2 ^ 64 → FalseIff carry (total < 2 ^ 64) → modulo (wrapped + from_bool carry + more) ≡ modulo (total + more)
carry_in total more wrapped true small e is = modulo_less (total + more) (wrapped + 1 + more) 281479271743489 (omega (arith, e, is)) (omega arith)
carry_in total more wrapped false small e is =
    let same : wrapped + 0 + more ≡ total + more = omega (arith, e, is) in
    ap modulo same
