-- Parts of a text, and decimal numbers in them.
use Rattle.std.proofs.Common.{◌≡◌, ℕ, ◌+◌, ◌^◌, ◌<◌, ◌≤◌, Bool, true, false, cond, not, ◌&&◌, List, [], ◌∷◌, length, take, drop, Some, None, refl, sym, ap, ◌∙◌, arith, decimal}
use Rattle.std.specs.Prelude.{nat_le, ◌==◌, option_map, option_and_then}
use Rattle.std.specs.List.{slice_split, position, position_or_len, onto_first, join_with_byte}
use Rattle.std.specs.Str.{bytes_eq}
use Rattle.std.specs.Str.Parse.{digits_value}
use Rattle.std.proofs.lemmas.Bool.{and_from, and_right, and_parts, cond-true, cond-false, false_from_ne_true, le-leb, lt-leb, leb-true, ltb-true, ltb-false}
use Rattle.std.proofs.lemmas.Bool.Decides.{nat_tests}
use Rattle.std.proofs.lemmas.List.Splits.{slice_split_none, slice_split_first, length-slice_split, join_with_byte-slice_split}
use Rattle.std.proofs.lemmas.List.Elements.{All-from_get_or}
use Rattle.std.proofs.lemmas.Fmt.{decimal_is_IsNumeral}
use Rattle.std.proofs.lemmas.Str.Parse.{digit_at}
use Rattle.std.proofs.lemmas.Slice.Eq.{bytes_eq-Decides}
use Rattle.std.proofs.lemmas.Option.{none-some}
use Rattle.std.proofs.NetLemmas.Options.{cond_some}
use Rattle.domain_map.specs.declared.address_text.address.Address.{Address}
use Rattle.domain_map.specs.address_text.Number.{number_of_text}
use Rattle.domain_map.specs.address_text.Address.{address_of_text, width_of}
use Rattle.domain_map.specs.address_text.Prefix.{block_of, whole_block, block_of_parts}

pub split_at_place : (octet : ℕ) (text : List ℕ) (i : ℕ) → position (λ c. c == octet) text ≡ Some i → slice_split (λ c. c == octet) text ≡ take i text ∷ slice_split (λ c. c == octet) (drop (i + 1) text)
split_at_place octet text i e =
    let at = position_or_len (λ c. c == octet) text in
    let found = cond_some _ at i e in
    slice_split_first (λ c. c == octet) text 0 (ltb-true at (length text) found.0) ∙ ap (λ k. take k text ∷ slice_split (λ c. c == octet) (drop (k + 1) text)) found.1

split_none : (p : ℕ → Bool) (xs : List ℕ) → length xs ≤ position_or_len p xs → slice_split p xs ≡ xs ∷ []
split_none p [] h = refl
split_none p (x ∷ xs) h =
    elim (p x) as (λ b. length (x ∷ xs) ≤ cond (not b) (1 + position_or_len p xs) 0 → cond b ([] ∷ slice_split p xs) (onto_first x (slice_split p xs)) ≡ (x ∷ xs) ∷ []) [
      | true ↦ λ k. absurd (omega (arith, k))
      | false ↦ λ k. ap (onto_first x) (split_none p xs (omega (arith, k)))
    ] h

no_place : (b : Bool) (k : ℕ) → cond b (Some k) None ≡ None → b ≡ false
no_place true k e = absurd (none-some k (sym e))
no_place false k e = refl

pub split_nowhere : (octet : ℕ) (text : List ℕ) → position (λ c. c == octet) text ≡ None → slice_split (λ c. c == octet) text ≡ text ∷ []
split_nowhere octet text e =
    let at = position_or_len (λ c. c == octet) text in
    split_none (λ c. c == octet) text (ltb-false at (length text) (no_place _ at e))

-- an octet below the digits is in no decimal number
pub undecimal : (octet n : ℕ) → octet < 48 → n < 2 ^ 64 → slice_split (λ c. c == octet) (decimal n) ≡ decimal n ∷ []
undecimal octet n low small = slice_split_none (λ c. c == octet) (decimal n) (All-from_get_or (λ c. (c == octet) ≡ false) (decimal n) 0 λ i h.
    let digit = digit_at (decimal n) i (decimal_is_IsNumeral n small).0.1 h in grind (arith, nat_tests, digit))

same_text : (text : List ℕ) → bytes_eq text text ≡ true
same_text text = (bytes_eq-Decides text text).1 refl

-- the number of a decimal text
value_is : (n : ℕ) (text : List ℕ) → n < 2 ^ 64 → text ≡ decimal n → digits_value 10 text ≡ n
value_is n text small is = ap (digits_value 10) is ∙ (decimal_is_IsNumeral n small).1

pub number_of_decimal : (most n : ℕ) (text : List ℕ) → n < 2 ^ 64 → text ≡ decimal n → n ≤ most → number_of_text most text ≡ Some n
number_of_decimal most n text small is le =
    let v = value_is n text small is in
    let spelled : bytes_eq (decimal (digits_value 10 text)) text ≡ true = (bytes_eq-Decides _ text).1 (ap decimal v ∙ sym is) in
    let fits : nat_le (digits_value 10 text) most ≡ true = le-leb _ most (omega (arith, v)) in
    cond-true _ _ _ (and_from _ _ spelled fits) ∙ ap (λ k. Some k) v

pub number_too_large : (most n : ℕ) (text : List ℕ) → n < 2 ^ 64 → text ≡ decimal n → most < n → number_of_text most text ≡ None
number_too_large most n text small is lt =
    let v = value_is n text small is in
    cond-false _ _ _ (and_right (bytes_eq (decimal (digits_value 10 text)) text) _ (lt-leb _ most (omega (arith, v))))

pub no_number : (most : ℕ) (text : List ℕ) → most < 256 → ((n : ℕ) → n < 2 ^ 64 → text ≡ decimal n → ⊥) → number_of_text most text ≡ None
no_number most text small none =
    let n = digits_value 10 text in
    cond-false _ _ _ (false_from_ne_true _ λ both.
    let parts = and_parts (bytes_eq (decimal n) text) (nat_le n most) both in
    none n (omega (arith, leb-true n most parts.1)) (sym ((bytes_eq-Decides (decimal n) text).0 parts.0)))

-- a number's text has one part
pub number_is_one_part : (octet most n : ℕ) (text : List ℕ) → octet < 48 → most < 256 → number_of_text most text ≡ Some n → slice_split (λ c. c == octet) text ≡ text ∷ []
number_is_one_part octet most n text low small e =
    let v = digits_value 10 text in
    let found = cond_some (bytes_eq (decimal v) text && nat_le v most) v n e in
    let parts = and_parts (bytes_eq (decimal v) text) (nat_le v most) found.0 in
    let is : decimal v ≡ text = (bytes_eq-Decides (decimal v) text).0 parts.0 in
    ap (slice_split (λ c. c == octet)) (sym is) ∙ undecimal octet v low (omega (arith, leb-true v most parts.1)) ∙ ap (λ t. t ∷ []) is

-- the parts of a text that has no number
one_part : (octet : ℕ) (text part : List ℕ) → slice_split (λ c. c == octet) text ≡ part ∷ [] → part ≡ text
one_part octet text part e = ap (join_with_byte octet) (sym e) ∙ join_with_byte-slice_split octet text

pub refused_bits : (a : Address) (address bits : List ℕ) (parts : List (List ℕ)) → slice_split (λ c. c == 47) bits ≡ parts
    → address_of_text address ≡ Some a → number_of_text (width_of a) bits ≡ None → block_of_parts (address ∷ parts) ≡ None
refused_bits a address bits [] e is none = absurd (omega (arith, ap length e, length-slice_split (λ c. c == 47) bits))
refused_bits a address bits (part ∷ []) e is none =
    ap (option_and_then (λ b. option_map (block_of b) (number_of_text (width_of b) part))) is
    ∙ ap (λ t. option_map (block_of a) (number_of_text (width_of a) t)) (one_part 47 bits part e) ∙ ap (option_map (block_of a)) none
refused_bits a address bits (part ∷ other ∷ parts) e is none = refl

pub refused_address : (address bits : List ℕ) (parts : List (List ℕ)) → slice_split (λ c. c == 47) bits ≡ parts → address_of_text address ≡ None → block_of_parts (address ∷ parts) ≡ None
refused_address address bits [] e none = ap (option_map whole_block) none
refused_address address bits (part ∷ []) e none = ap (option_and_then (λ b. option_map (block_of b) (number_of_text (width_of b) part))) none
refused_address address bits (part ∷ other ∷ parts) e none = refl

pub read_bits : (a : Address) (n : ℕ) (address bits : List ℕ) → width_of a < 256 → address_of_text address ≡ Some a → number_of_text (width_of a) bits ≡ Some n
    → block_of_parts (address ∷ slice_split (λ c. c == 47) bits) ≡ Some (block_of a n)
read_bits a n address bits small is number =
    ap (λ ps. block_of_parts (address ∷ ps)) (number_is_one_part 47 (width_of a) n bits (omega arith) small number)
    ∙ ap (option_and_then (λ b. option_map (block_of b) (number_of_text (width_of b) bits))) is ∙ ap (option_map (block_of a)) number

pub read_whole : (a : Address) (address : List ℕ) → address_of_text address ≡ Some a → block_of_parts (address ∷ []) ≡ Some (block_of a (width_of a))
read_whole a address is = ap (option_map whole_block) is
