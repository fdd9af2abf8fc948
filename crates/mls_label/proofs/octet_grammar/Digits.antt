-- Decimal texts, digit by digit.
use Rattle.std.proofs.Common.{◌≡◌, ℕ, suc, zero, ◌+◌, ◌-◌, ◌*◌, ◌/◌, ◌%◌, ◌^◌, ◌<◌, ◌≤◌, List, [], ◌∷◌, ◌++◌, length, get_or, set, take, drop, refl, sym, ap, subst, ◌∙◌, append_assoc, arith, inl, inr, ◌⊎◌, map, if◌then◌else◌, Option, Some, None}
use Rattle.std.specs.Prelude.{◌==◌, IfSome, IfNone}
use Rattle.std.specs.List.{range_with_len}
use Rattle.std.proofs.lemmas.List.FromFn.{get_or-map-range_with_len}
use Rattle.mls_label.specs.declared.octet_grammar.decimal.TheConstants.{PAIRS}
use Rattle.std.specs.Char.{digit_value}
use Rattle.std.specs.Fmt.{decimal}
use Rattle.std.specs.Str.Parse.{AllDigits, digits_value, digits_value_after}
use Rattle.std.proofs.lemmas.List.{length-append}
use Rattle.std.proofs.lemmas.Fmt.{decimal_digit, decimal_step, length-decimal-le, decimal_nonempty, first_decimal, digits_decimal, digits_value-decimal, decimal-digits_value}
use Rattle.std.proofs.lemmas.Str.Parse.{IsNumeralModel}
use Rattle.std.proofs.lemmas.Bool.{eq-eqb, ne_eqb}
use Rattle.std.proofs.lemmas.Bool.Decides.{nat_tests}
use Rattle.std.proofs.lemmas.Int.Digits.{digits_value_more, digits_more}

-- std's own words are a model of numerals
pub own : IsNumeralModel (AllDigits 10) (digits_value 10)
own = record { to = λ ds h. h; from = λ ds h. h; same = λ ds h. refl }

-- two digits appended, and where they stand behind those of the rest

-- what stands at each place of the table of pairs
pair_octet : ℕ → ℕ
pair_octet place = if place % 2 == 0 then 48 + place / 2 / 10 else 48 + place / 2 % 10

pairs_are : PAIRS.now ≡ map pair_octet (range_with_len 0 200)
unfolding pair_octet
pairs_are = refl

pair_at : (place : ℕ) → place < 200 → get_or PAIRS.now place 0 ≡ pair_octet place
pair_at place lt = ap (λ t. get_or t place 0) pairs_are ∙ get_or-map-range_with_len pair_octet 0 200 place place 0 lt (omega arith)

pair_tens : (n place : ℕ) → place ≡ 2 * n → pair_octet place ≡ 48 + n / 10
unfolding pair_octet
pair_tens n place at =
    let even : place % 2 ≡ 0 = omega arith in
    let half : place / 2 ≡ n = omega arith in
    rw (eq-eqb (place % 2) 0 even, half) refl

pair_ones : (n place : ℕ) → place ≡ 2 * n + 1 → pair_octet place ≡ 48 + n % 10
unfolding pair_octet
pair_ones n place at =
    let odd : place % 2 ≡ 0 → ⊥ = λ e. omega arith in
    let half : place / 2 ≡ n = omega arith in
    rw (ne_eqb (place % 2) 0 odd, half) refl

pub pair_appended : (n : ℕ) (old : List ℕ) → n < 100
    → (old ++ get_or PAIRS.now (2 * n) 0 ∷ []) ++ get_or PAIRS.now (2 * n + 1) 0 ∷ [] ≡ old ++ (48 + n / 10) ∷ (48 + n % 10) ∷ []
pair_appended n old few =
    let tens : get_or PAIRS.now (2 * n) 0 ≡ 48 + n / 10 = pair_at (2 * n) (omega arith) ∙ pair_tens n (2 * n) refl in
    let ones : get_or PAIRS.now (2 * n + 1) 0 ≡ 48 + n % 10 = pair_at (2 * n + 1) (omega arith) ∙ pair_ones n (2 * n + 1) refl in
    append_assoc old (get_or PAIRS.now (2 * n) 0 ∷ []) (get_or PAIRS.now (2 * n + 1) 0 ∷ []) ∙ (λ i. old ++ tens i ∷ ones i ∷ [])

-- the spelling of a number of two digits
pub two_digits : (n : ℕ) → 10 ≤ n → n < 100 → decimal n ≡ (48 + n / 10 % 10) ∷ (48 + n % 10) ∷ []
two_digits n many few = decimal_step n many (omega arith) ∙ ap (λ t. t ++ (48 + n % 10) ∷ []) (decimal_digit (n / 10) (omega arith) ∙ ap (λ k. (48 + k) ∷ []) (omega arith))

pair_behind : (front : List ℕ) (a b : ℕ) → (front ++ a ∷ []) ++ b ∷ [] ≡ front ++ a ∷ b ∷ []
pair_behind front a b = append_assoc front (a ∷ []) (b ∷ [])

-- the last two digits stand behind those of the rest
two_more : (n : ℕ) → 100 ≤ n → n < 2 ^ 64 → decimal n ≡ decimal (n / 100) ++ (48 + n % 100 / 10) ∷ (48 + n % 100 % 10) ∷ []
two_more n many small =
    let rest : n / 10 / 10 ≡ n / 100 = omega arith in
    let tens : n / 10 % 10 ≡ n % 100 / 10 = omega arith in
    let ones : n % 10 ≡ n % 100 % 10 = omega arith in
    let front : decimal (n / 10) ≡ decimal (n / 100) ++ (48 + n / 10 % 10) ∷ [] =
    decimal_step (n / 10) (omega arith) (omega arith) ∙ ap (λ k. decimal k ++ (48 + n / 10 % 10) ∷ []) rest in
    decimal_step n (omega arith) small ∙ ap (λ t. t ++ (48 + n % 10) ∷ []) front ∙ pair_behind (decimal (n / 100)) (48 + n / 10 % 10) (48 + n % 10)
    ∙ (λ i. decimal (n / 100) ++ (48 + tens i) ∷ (48 + ones i) ∷ [])

pub two_appended : (n : ℕ) (old : List ℕ) → 100 ≤ n → n < 2 ^ 64
    → (old ++ decimal (n / 100)) ++ (48 + n % 100 / 10) ∷ (48 + n % 100 % 10) ∷ [] ≡ old ++ decimal n
two_appended n old many small =
    append_assoc old (decimal (n / 100)) ((48 + n % 100 / 10) ∷ (48 + n % 100 % 10) ∷ []) ∙ ap (λ t. old ++ t) (sym (two_more n many small))

-- three digits appended: the first, and the last two
pub three_appended : (n : ℕ) (old : List ℕ) → 100 ≤ n → n < 1000
    → (old ++ (48 + n / 100) ∷ []) ++ (48 + n % 100 / 10) ∷ (48 + n % 100 % 10) ∷ [] ≡ old ++ decimal n
three_appended n old many few =
    ap (λ t. (old ++ t) ++ (48 + n % 100 / 10) ∷ (48 + n % 100 % 10) ∷ []) (sym (decimal_digit (n / 100) (omega arith))) ∙ two_appended n old many (omega arith)

four_behind : (front : List ℕ) (a b c d : ℕ) → (((front ++ a ∷ []) ++ b ∷ []) ++ c ∷ []) ++ d ∷ [] ≡ front ++ a ∷ b ∷ c ∷ d ∷ []
four_behind front a b c d = simp append_assoc

-- the last four digits stand behind those of the rest
pub four_more : (n : ℕ) → 10000 ≤ n → n < 2 ^ 64
    → decimal n ≡ decimal (n / 10000) ++ (48 + n % 10000 / 1000 % 10) ∷ (48 + n % 10000 / 100 % 10) ∷ (48 + n % 10000 / 10 % 10) ∷ (48 + n % 10000 % 10) ∷ []
four_more n many small =
    let tens : n / 10 / 10 ≡ n / 100 = omega arith in
    let hundreds : n / 100 / 10 ≡ n / 1000 = omega arith in
    let thousands : n / 1000 / 10 ≡ n / 10000 = omega arith in
    let a : n / 1000 % 10 ≡ n % 10000 / 1000 % 10 = omega arith in
    let b : n / 100 % 10 ≡ n % 10000 / 100 % 10 = omega arith in
    let c : n / 10 % 10 ≡ n % 10000 / 10 % 10 = omega arith in
    let d : n % 10 ≡ n % 10000 % 10 = omega arith in
    let first : decimal (n / 1000) ≡ decimal (n / 10000) ++ (48 + n / 1000 % 10) ∷ [] =
    decimal_step (n / 1000) (omega arith) (omega arith) ∙ ap (λ k. decimal k ++ (48 + n / 1000 % 10) ∷ []) thousands in
    let second : decimal (n / 100) ≡ decimal (n / 1000) ++ (48 + n / 100 % 10) ∷ [] =
    decimal_step (n / 100) (omega arith) (omega arith) ∙ ap (λ k. decimal k ++ (48 + n / 100 % 10) ∷ []) hundreds in
    let third : decimal (n / 10) ≡ decimal (n / 100) ++ (48 + n / 10 % 10) ∷ [] =
    decimal_step (n / 10) (omega arith) (omega arith) ∙ ap (λ k. decimal k ++ (48 + n / 10 % 10) ∷ []) tens in
    let all : decimal n ≡ ((((decimal (n / 10000) ++ (48 + n / 1000 % 10) ∷ []) ++ (48 + n / 100 % 10) ∷ []) ++ (48 + n / 10 % 10) ∷ []) ++ (48 + n % 10) ∷ []) =
    decimal_step n (omega arith) small ∙ ap (λ t. t ++ (48 + n % 10) ∷ []) (third ∙ ap (λ t. t ++ (48 + n / 10 % 10) ∷ []) (second ∙ ap (λ t. t ++ (48 + n / 100 % 10) ∷ []) first)) in
    all ∙ four_behind (decimal (n / 10000)) (48 + n / 1000 % 10) (48 + n / 100 % 10) (48 + n / 10 % 10) (48 + n % 10)
    ∙ (λ i. decimal (n / 10000) ++ (48 + a i) ∷ (48 + b i) ∷ (48 + c i) ∷ (48 + d i) ∷ [])

pub room_for_decimal : (n : ℕ) → n < 2 ^ 64 → length (decimal n) ≤ 20
room_for_decimal n small = length-decimal-le 20 n (omega arith) (omega arith) small

-- one digit fewer is to be written, and room is left for those before it
pub step_room : (n room : ℕ) → 10 ≤ n → n < 2 ^ 64 → length (decimal n) ≤ room → (length (decimal (n / 10)) ≤ room - 1) × (1 < room)
step_room n room many small le =
    let e = ap length (decimal_step n many small) in
    let more = decimal_nonempty (n / 10) (omega arith) in
    (omega (arith, e, length-append (decimal (n / 10)) ((48 + n % 10) ∷ [])), omega (arith, e, more, length-append (decimal (n / 10)) ((48 + n % 10) ∷ [])))

pub drop-set : {X : Type 0} (xs : List X) (i : ℕ) (x : X) → i < length xs → drop i (set xs i x) ≡ x ∷ drop (i + 1) xs
drop-set [] i x lt = absurd (omega arith)
drop-set (y ∷ xs) zero x lt = refl
drop-set (y ∷ xs) (suc i) x lt =
    let e : suc (i + 1) ≡ suc i + 1 = omega arith in
    drop-set xs i x (omega arith) ∙ ap (λ k. x ∷ drop k (y ∷ xs)) e

-- the next digit goes in front of those that are written
pub step_digits : (n m first : ℕ) (digits : List ℕ) → 10 ≤ n → n < 2 ^ 64 → 0 < first → first ≤ length digits → decimal n ++ drop first digits ≡ decimal m → decimal (n / 10) ++ drop (first - 1) (set digits (first - 1) (48 + n % 10)) ≡ decimal m
step_digits n m first digits many small pos le spelled =
    let e : drop (first - 1) (set digits (first - 1) (48 + n % 10)) ≡ (48 + n % 10) ∷ drop first digits =
    drop-set digits (first - 1) (48 + n % 10) (omega arith) ∙ ap (λ k. (48 + n % 10) ∷ drop k digits) (omega arith) in
    ap (λ t. decimal (n / 10) ++ t) e ∙ sym (append_assoc (decimal (n / 10)) ((48 + n % 10) ∷ []) (drop first digits)) ∙ ap (λ t. t ++ drop first digits) (sym (decimal_step n many small)) ∙ spelled

pub last_digits : (n m first : ℕ) (digits : List ℕ) → n < 10 → 0 < first → first ≤ length digits → decimal n ++ drop first digits ≡ decimal m → drop (first - 1) (set digits (first - 1) (48 + n)) ≡ decimal m
last_digits n m first digits one pos le spelled =
    let e : drop (first - 1) (set digits (first - 1) (48 + n)) ≡ (48 + n) ∷ drop first digits =
    drop-set digits (first - 1) (48 + n) (omega arith) ∙ ap (λ k. (48 + n) ∷ drop k digits) (omega arith) in
    e ∙ ap (λ t. t ++ drop first digits) (sym (decimal_digit n one)) ∙ spelled

-- the front of a text of digits, and its value

value_grows : (n : ℕ) (ds : List ℕ) → n ≤ digits_value_after 10 n ds
value_grows n [] = omega arith
value_grows n (d ∷ ds) = omega (arith, value_grows (n * 10 + digit_value d) ds)

value_front : (n : ℕ) (k : ℕ) (ds : List ℕ) → digits_value_after 10 n (take k ds) ≤ digits_value_after 10 n ds
value_front n zero ds = value_grows n ds
value_front n (suc k) [] = omega arith
value_front n (suc k) (d ∷ ds) = value_front (n * 10 + digit_value d) k ds

pub value_at_front : (k : ℕ) (ds : List ℕ) → digits_value 10 (take k ds) ≤ digits_value 10 ds
value_at_front k ds = value_front 0 k ds

-- what `is_ascii_digit` tests is a digit, and has this value
pub digit_of_octet : (c : ℕ) → 48 ≤ c → c ≤ 57 → digit_value c ≡ c - 48
digit_of_octet c low high = grind (arith, nat_tests)

-- one more digit is read
pub read_more : (ds : List ℕ) (i value : ℕ) → i < length ds → AllDigits 10 (take i ds) → digits_value 10 (take i ds) ≡ value → 48 ≤ get_or ds i 0 → get_or ds i 0 ≤ 57
    → AllDigits 10 (take (i + 1) ds) × (digits_value 10 (take (i + 1) ds) ≡ value * 10 + (get_or ds i 0 - 48))
read_more ds i value lt digits is low high =
    let d = digit_of_octet (get_or ds i 0) low high in
    (digits_more 10 ds i lt digits (omega (arith, d)), omega (arith, digits_value_more 10 ds i lt, is, d))

-- the value so far, times ten, is no more than the whole
pub value_times_ten : (ds : List ℕ) (i value : ℕ) → i < length ds → digits_value 10 (take i ds) ≡ value → 48 ≤ get_or ds i 0 → get_or ds i 0 ≤ 57 → value * 10 + (get_or ds i 0 - 48) ≤ digits_value 10 ds
value_times_ten ds i value lt is low high =
    omega (arith, value_at_front (i + 1) ds, digits_value_more 10 ds i lt, is, digit_of_octet (get_or ds i 0) low high)

-- a text that has the spelling of a number is of digits, and its value is that number
pub spelled_digits : (text : List ℕ) (n : ℕ) → n < 2 ^ 64 → text ≡ decimal n → AllDigits 10 text × (digits_value 10 text ≡ n)
spelled_digits text n small e = subst (λ t. AllDigits 10 t × (digits_value 10 t ≡ n)) (sym e) (digits_decimal own n small, digits_value-decimal own n small)

-- without a zero in front, digits are the spelling of their value
pub digits_spelled : (text : List ℕ) (n : ℕ) → n < 2 ^ 64 → AllDigits 10 text → digits_value 10 text ≡ n → 0 < length text → (get_or text 0 0 ≡ 48 → length text ≡ 1) → text ≡ decimal n
digits_spelled text n small digits is some lead =
    sym (ap decimal (sym is) ∙ decimal-digits_value own text digits some lead (omega (arith, is)))

pub empty_is_none : (n : ℕ) → n < 2 ^ 64 → [] ≡ decimal n → ⊥
empty_is_none n small e = omega (arith, decimal_nonempty n small, ap length e)

-- two octets or more, of which the first is `0`
pub zero_in_front : (text : List ℕ) (n : ℕ) → n < 2 ^ 64 → 1 < length text → get_or text 0 0 ≡ 48 → text ≡ decimal n → ⊥
zero_in_front text zero small long front e =
    let one : decimal 0 ≡ 48 ∷ [] = decimal_digit 0 (omega arith) in
    omega (arith, ap length (e ∙ one))
zero_in_front text (suc n) small long front e = omega (arith, first_decimal (suc n) (omega arith) small, ap (λ t. get_or t 0 0) e)

-- neither can be the spelling of a number: nothing at all, or a zero that other octets follow
pub unspelled : (text : List ℕ) (n : ℕ) → n < 2 ^ 64 → (length text ≡ 0) ⊎ ((1 < length text) × (get_or text 0 0 ≡ 48)) → text ≡ decimal n → ⊥
unspelled text n small (inl none) e = omega (arith, decimal_nonempty n small, ap length e)
unspelled text n small (inr spare) e = zero_in_front text n small spare.0 spare.1 e

-- what reading the digits gives, for a text without a spare zero
pub read_as_spelled : (text : List ℕ) (r : Option ℕ) → 0 < length text → (get_or text 0 0 ≡ 48 → length text ≡ 1)
    → IfSome r (λ n. AllDigits 10 text × (digits_value 10 text ≡ n) × (n < 2 ^ 64)) → IfSome r (λ n. text ≡ decimal n)
read_as_spelled text None some lead read = tt
read_as_spelled text (Some n) some lead read = digits_spelled text n read.2 read.0 read.1 some lead

pub refused_as_unspelled : (text : List ℕ) (r : Option ℕ) → IfNone r (AllDigits 10 text → 2 ^ 64 ≤ digits_value 10 text) → IfNone r ((n : ℕ) → n < 2 ^ 64 → text ≡ decimal n → ⊥)
refused_as_unspelled text None large = λ n small e.
    let s = spelled_digits text n small e in
    omega (arith, large s.0, s.1)
refused_as_unspelled text (Some m) large = tt
