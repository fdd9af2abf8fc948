-- Decimal digits from the left: their number, and what decides whether a further digit may come.
use Rattle.std.proofs.Common.{◌≡◌, ℕ, zero, suc, ◌+◌, ◌-◌, ◌*◌, ◌/◌, ◌%◌, ◌^◌, ◌<◌, ◌≤◌, List, [], ◌∷◌, ◌++◌, length, get_or, refl, sym, ap, subst, ◌∙◌, append_assoc, length-append, arith, rules, inl, inr, ◌⊎◌}
use Rattle.std.specs.Fmt.{decimal}
use Rattle.std.proofs.lemmas.Bool.{cases_lt, cases_eq}
use Rattle.std.proofs.lemmas.Str.Parse.{IsNumeralModel, numerals_by_fold}
use Rattle.std.proofs.lemmas.Fmt.{digits_decimal, digits_value-decimal, decimal-digits_value, first_decimal, decimal_digit}
use Rattle.mls_range.specs.inside.Number.{BeginsNumber, AllDigits, number_after, Reaches, GoesOn}

own : IsNumeralModel AllDigits (number_after 0)
own = numerals_by_fold _ (search rules) number_after (search rules)

pub digits_of_decimal : (n : ℕ) → n < 2 ^ 64 → AllDigits (decimal n)
digits_of_decimal n small = digits_decimal own n small

pub number-decimal : (n : ℕ) → n < 2 ^ 64 → number_after 0 (decimal n) ≡ n
number-decimal n small = digits_value-decimal own n small

pub decimal-number : (ds : List ℕ) → AllDigits ds → 0 < length ds → (get_or ds 0 0 ≡ 48 → length ds ≡ 1) → number_after 0 ds < 2 ^ 64 → decimal (number_after 0 ds) ≡ ds
decimal-number ds are some unled small = decimal-digits_value own ds are some unled small

pub number_after-append : (n : ℕ) (xs ys : List ℕ) → number_after n (xs ++ ys) ≡ number_after (number_after n xs) ys
number_after-append n [] ys = refl
number_after-append n (x ∷ xs) ys = number_after-append (10 * n + (x - 48)) xs ys

pub digits-append : (xs ys : List ℕ) → AllDigits xs → AllDigits ys → AllDigits (xs ++ ys)
digits-append [] ys a b = b
digits-append (x ∷ xs) ys a b = (a.0, digits-append xs ys a.1 b)

pub digits_front : (xs ys : List ℕ) → AllDigits (xs ++ ys) → AllDigits xs
digits_front [] ys a = tt
digits_front (x ∷ xs) ys a = (a.0, digits_front xs ys a.1)

pub digits_back : (xs ys : List ℕ) → AllDigits (xs ++ ys) → AllDigits ys
digits_back [] ys a = a
digits_back (x ∷ xs) ys a = digits_back xs ys a.1

-- ---- what a number reaches

pub grows : (n : ℕ) (ds : List ℕ) → n ≤ number_after n ds
grows n [] = omega arith
grows n (d ∷ ds) = omega (arith, grows (10 * n + (d - 48)) ds)

-- past high there is no way back
pub reaches_past : (first last low high : ℕ) → high < first → Reaches first last low high → ⊥
reaches_past first last low high lt r = omega (arith, r.from, r.below, grows r.start r.more)

pub reaches_now : (first last low high : ℕ) → first ≤ last → low ≤ high → first ≤ high → low ≤ last → Reaches first last low high
reaches_now first last low high order fit a b =
    elim (cases_lt first low) [
      | inl lt ↦ record { start = low; more = []; from = omega arith; to = b; digits = tt; above = omega arith; below = fit }
      | inr le ↦ record { start = first; more = []; from = omega arith; to = order; digits = tt; above = le; below = a }
    ]

-- one digit more
more_reaches : (first last low high n : ℕ) (ds : List ℕ) → first ≤ n → n ≤ last → last < low → AllDigits ds → low ≤ number_after n ds → number_after n ds ≤ high → Reaches (10 * first) (10 * last + 9) low high
more_reaches first last low high n [] a b lt digits above below = absurd (omega arith)
more_reaches first last low high n (d ∷ ds) a b lt digits above below =
    record { start = 10 * n + (d - 48); more = ds; from = omega arith; to = omega (arith, digits.0); digits = digits.1; above = above; below = below }

pub reaches_more : (first last low high : ℕ) → last < low → Reaches first last low high → Reaches (10 * first) (10 * last + 9) low high
reaches_more first last low high lt r = more_reaches first last low high r.start r.more r.from r.to lt r.digits r.above r.below

pub reaches_less : (first last low high : ℕ) → Reaches (10 * first) (10 * last + 9) low high → Reaches first last low high
reaches_less first last low high r =
    let n = r.start / 10 in
    let d = r.start % 10 in
    let is : 10 * n + (48 + d - 48) ≡ r.start = omega arith in
    record {
      start = n;
      more = (48 + d) ∷ r.more;
      from = omega (arith, r.from);
      to = omega (arith, r.to);
      digits = ((omega arith, omega arith), r.digits);
      above = subst (λ x. low ≤ number_after x r.more) (sym is) r.above;
      below = subst (λ x. number_after x r.more ≤ high) (sym is) r.below;
    }

-- ---- the next digit

pub begins_small : (low high : ℕ) (ds : List ℕ) → high < 65536 → (b : BeginsNumber low high ds) → b.number < 2 ^ 64
begins_small low high ds small b = omega (arith, b.below)

pub begins_digits : (low high : ℕ) (ds : List ℕ) → high < 65536 → BeginsNumber low high ds → AllDigits ds
begins_digits low high ds small b =
    digits_front ds b.more (subst AllDigits b.is (digits_of_decimal b.number (begins_small low high ds small b)))

-- ---- lists

pub nil_right : (xs ys : List ℕ) → xs ++ ys ≡ [] → ys ≡ []
nil_right [] ys e = e
nil_right (x ∷ xs) ys e = cc

pub nil_left : (xs ys : List ℕ) → xs ++ ys ≡ [] → xs ≡ []
nil_left [] ys e = refl
nil_left (x ∷ xs) ys e = cc

-- the first octet of a decimal text is a zero only where that is all of it
pub zero_alone : (n : ℕ) (more : List ℕ) → n < 2 ^ 64 → decimal n ≡ 48 ∷ more → (more ≡ []) × (n ≡ 0)
zero_alone zero more small is =
    let one : decimal 0 ≡ 48 ∷ [] = decimal_digit 0 (omega arith) in
    let q : 48 ∷ [] ≡ 48 ∷ more = sym one ∙ is in
    (cc, refl)
zero_alone (suc n) more small is =
    let q : get_or (decimal (suc n)) 0 0 ≡ 48 = ap (λ l. get_or l 0 0) is in
    absurd (omega (arith, first_decimal (suc n) (omega arith) small))

-- a front of a decimal text that isn't empty and isn't all of it is no zero
front_above : (n d : ℕ) (ds more : List ℕ) → n < 2 ^ 64 → decimal n ≡ (d ∷ ds) ++ more → AllDigits (d ∷ ds) → (more ≡ [] → ⊥) → 0 < number_after 0 (d ∷ ds)
front_above n d ds more small is digits some =
    elim (cases_eq d 48) [
      | inl e ↦
          let q : decimal n ≡ 48 ∷ (ds ++ more) = is ∙ ap (λ x. x ∷ (ds ++ more)) e in
          let z = zero_alone n (ds ++ more) small q in
          absurd (some (nil_right ds more z.0))
      | inr ne ↦ omega (arith, digits.0, grows (10 * 0 + (d - 48)) ds)
    ]

unled_front : (n : ℕ) (ds more : List ℕ) → n < 2 ^ 64 → decimal n ≡ ds ++ more → AllDigits ds → (more ≡ [] → ⊥) → (length ds ≡ 0) ⊎ (0 < number_after 0 ds)
unled_front n [] more small is digits some = inl refl
unled_front n (d ∷ ds) more small is digits some = inr (front_above n d ds more small is digits some)

first_zero : (n octet low : ℕ) (ds more : List ℕ) → n < 2 ^ 64 → low ≤ n → decimal n ≡ ds ++ octet ∷ more → octet ≡ 48 → (0 < length ds) ⊎ (low ≡ 0)
first_zero n octet low [] more small above is e =
    let z = zero_alone n more small (is ∙ ap (λ x. x ∷ more) e) in
    inr (omega (arith, z.1))
first_zero n octet low (d ∷ ds) more small above is e = inl (omega arith)

pub begins_goes : (low high n octet : ℕ) (ds : List ℕ) → high < 65536 → number_after 0 ds ≡ n → BeginsNumber low high (ds ++ octet ∷ []) → GoesOn (length ds) n octet low high
begins_goes low high n octet ds small value b =
    let big = begins_small low high (ds ++ octet ∷ []) small b in
    let is : decimal b.number ≡ ds ++ octet ∷ b.more = b.is ∙ append_assoc ds (octet ∷ []) b.more in
    let all : AllDigits (ds ++ octet ∷ b.more) = subst AllDigits is (digits_of_decimal b.number big) in
    let back = digits_back ds (octet ∷ b.more) all in
    let at : number_after (10 * n + (octet - 48)) b.more ≡ b.number =
    ap (λ x. number_after (10 * x + (octet - 48)) b.more) (sym value) ∙ sym (number_after-append 0 ds (octet ∷ b.more)) ∙ ap (number_after 0) (sym is) ∙ number-decimal b.number big in
    record {
      digit = back.0;
      unled = subst (λ x. (length ds ≡ 0) ⊎ (0 < x)) value (unled_front b.number ds (octet ∷ b.more) big is (digits_front ds (octet ∷ b.more) all) (λ e. cc));
      zero = first_zero b.number octet low ds b.more big b.above is;
      reaches = record {
        start = 10 * n + (octet - 48);
        more = b.more;
        from = omega arith;
        to = omega arith;
        digits = back.1;
        above = omega (arith, at, b.above);
        below = omega (arith, at, b.below);
      };
    }

begins_zero : (low high : ℕ) → low ≡ 0 → BeginsNumber low high (48 ∷ [])
begins_zero low high e =
    record { number = 0; more = []; is = decimal_digit 0 (omega arith); above = omega arith; below = omega arith }

-- the digits make a decimal text where they don't begin with a zero
whole : (low high : ℕ) (ds more : List ℕ) → high < 65536 → AllDigits (ds ++ more) → 0 < length ds → (get_or (ds ++ more) 0 0 ≡ 48 → ⊥) → low ≤ number_after 0 (ds ++ more) → number_after 0 (ds ++ more) ≤ high → BeginsNumber low high ds
whole low high ds more small all some unled above below =
    let long : 0 < length (ds ++ more) = omega (arith, length-append ds more) in
    record {
      number = number_after 0 (ds ++ more);
      more = more;
      is = decimal-number (ds ++ more) all long (λ e. absurd (unled e)) (omega arith);
      above = above;
      below = below;
    }

-- digits of which the number is not 0 begin with no zero, if they begin a decimal text
head_above : (low high n d : ℕ) (ds : List ℕ) → high < 65536 → number_after 0 (d ∷ ds) ≡ n → 0 < n → BeginsNumber low high (d ∷ ds) → d ≡ 48 → ⊥
head_above low high n d ds small value pos b e =
    let z = zero_alone b.number (ds ++ b.more) (begins_small low high (d ∷ ds) small b) (b.is ∙ ap (λ x. x ∷ (ds ++ b.more)) e) in
    let none : ds ≡ [] = nil_left ds b.more z.0 in
    let q : number_after 0 (48 ∷ []) ≡ n = ap (number_after 0) (λ i. sym e i ∷ sym none i) ∙ value in
    omega arith

pub goes_begins : (low high n octet : ℕ) (ds : List ℕ) → high < 65536 → number_after 0 ds ≡ n → BeginsNumber low high ds → GoesOn (length ds) n octet low high → BeginsNumber low high (ds ++ octet ∷ [])
goes_begins low high n octet [] small value b g =
    elim (cases_eq octet 48) [
      | inl e ↦
          elim (g.zero e) [
            | inl lt ↦ absurd (omega arith)
            | inr z ↦ subst (λ x. BeginsNumber low high (x ∷ [])) (sym e) (begins_zero low high z)
          ]
      | inr ne ↦
          let r = g.reaches in
          let at : 10 * 0 + (octet - 48) ≡ r.start = omega (arith, value, r.from, r.to) in
          whole low high (octet ∷ []) r.more small (g.digit, r.digits) (omega arith) ne (subst (λ x. low ≤ number_after x r.more) (sym at) r.above) (subst (λ x. number_after x r.more ≤ high) (sym at) r.below)
    ]
goes_begins low high n octet (d ∷ ds) small value b g =
    let r = g.reaches in
    let pos : 0 < n = elim g.unled [ inl z ↦ absurd (omega (arith, z)) | inr p ↦ p ] in
    let front : List ℕ = (d ∷ ds) ++ octet ∷ [] in
    let digits : AllDigits (front ++ r.more) = digits-append front r.more (digits-append (d ∷ ds) (octet ∷ []) (begins_digits low high (d ∷ ds) small b) (g.digit, tt)) r.digits in
    let next : 10 * n + (octet - 48) ≡ r.start = omega (arith, r.from, r.to) in
    let is : number_after 0 (front ++ r.more) ≡ number_after r.start r.more =
    number_after-append 0 front r.more ∙ ap (λ x. number_after x r.more) (number_after-append 0 (d ∷ ds) (octet ∷ []) ∙ ap (λ x. 10 * x + (octet - 48)) value ∙ next) in
    whole low high front r.more small digits (omega arith) (head_above low high n d ds small value pos b) (omega (arith, is, r.above)) (omega (arith, is, r.below))

-- digits that begin a number and aren't empty are a decimal text themselves
unled_alone : (n d : ℕ) (ds more : List ℕ) → n < 2 ^ 64 → decimal n ≡ (d ∷ ds) ++ more → d ≡ 48 → length (d ∷ ds) ≡ 1
unled_alone n d ds more small is e =
    let z = zero_alone n (ds ++ more) small (is ∙ ap (λ x. x ∷ (ds ++ more)) e) in
    omega (arith, ap length (nil_left ds more z.0))

unled_digits : (n : ℕ) (ds more : List ℕ) → n < 2 ^ 64 → decimal n ≡ ds ++ more → get_or ds 0 0 ≡ 48 → length ds ≡ 1
unled_digits n [] more small is e = absurd (omega arith)
unled_digits n (d ∷ ds) more small is e = unled_alone n d ds more small is e

pub begins_number : (low high : ℕ) (ds : List ℕ) → high < 65536 → 0 < length ds → number_after 0 ds < 2 ^ 64 → BeginsNumber low high ds → decimal (number_after 0 ds) ≡ ds
begins_number low high ds small some fits b =
    decimal-number ds (begins_digits low high ds small b) some (unled_digits b.number ds b.more (begins_small low high ds small b) b.is) fits
