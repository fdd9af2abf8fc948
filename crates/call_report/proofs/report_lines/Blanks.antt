-- Texts without a blank.
use Rattle.std.proofs.Common.{◌≡◌, ◌∙◌, ℕ, ◌+◌, ◌<◌, ◌^◌, ◌/◌, ◌%◌, Bool, true, false, not, List, [], ◌∷◌, ◌++◌, length, take, drop, map, flat_map, decimal, refl, ap, arith}
use Rattle.std.specs.Prelude.{◌==◌, ◌&&◌, ◌||◌, nat_le, nat_eq, slice_index}
use Rattle.std.specs.Char.{digit_char}
use Rattle.std.specs.List.{All, join_with_byte, list_all}
use Rattle.std.specs.Net.Addr.{segments_of}
use Rattle.std.specs.Net.Text.{ipv4_text, hex, leading_zero_digits, groups_text, longest_zero_run, compressed_text, hex_groups_text}
use Rattle.std.proofs.lemmas.Bool.{cond_both, and_parts}
use Rattle.std.proofs.lemmas.Bool.Decides.{Decides-eqb, nat_tests}
use Rattle.std.proofs.lemmas.List.Elements.{All-cons, All-nil, All-append, All-head, All-tail, All-drop}
use Rattle.mls_label.specs.declared.label.Label.{Label}
use Rattle.mls_range.specs.LabelText.{is_label_octet, label_text}
use Rattle.mls_range.proofs.Law.{written_label_reads_back, label_texts_have_few_octets}
use Rattle.script_lines.specs.command_values.Ranges.{IsMlsLabel}
use Rattle.domain_map.specs.declared.address_text.address.Address.{Address}
use Rattle.domain_map.specs.declared.address_text.address.Address.TheVariants.{V4, V6}
use Rattle.domain_map.specs.address_text.Address.{IsAddress, address_text}
use Rattle.domain_map.specs.address_text.Name.{is_name_octet, is_name}
use Rattle.label_commands.specs.flow_lines.FileName.{is_file_octet, is_file_name}
use Rattle.call_report.proofs.report_lines.Numbers.{digits_but}

abbrev pub BlankFree : List ℕ → Type 0
BlankFree text = All (λ c. (c == 32) ≡ false) text

no_blank : (p : ℕ → Bool) → p 32 ≡ false → (c : ℕ) → p c ≡ true → (c == 32) ≡ false
no_blank p none c passes =
    elim (c == 32) as (λ b. (c == 32) ≡ b → b ≡ false) [
      | true ↦ λ e. absurd (let same : c ≡ 32 = (Decides-eqb c 32).0 e in let blank : p c ≡ false = ap p same ∙ none in cc)
      | false ↦ λ e. refl
    ] refl

blank_free : (p : ℕ → Bool) → p 32 ≡ false → (xs : List ℕ) → list_all p xs ≡ true → BlankFree xs
blank_free p none [] all = All-nil (λ c. (c == 32) ≡ false)
blank_free p none (x ∷ xs) all =
    let parts = and_parts (p x) (list_all p xs) all in
    All-cons (λ c. (c == 32) ≡ false) x xs (no_blank p none x parts.0) (blank_free p none xs parts.1)

pub fixed : (word : List ℕ) → list_all (λ c. not (c == 32)) word ≡ true → BlankFree word
fixed word plain = blank_free (λ c. not (c == 32)) refl word plain

pub number_word : (n : ℕ) → n < 2 ^ 64 → BlankFree (decimal n)
number_word n small = digits_but 32 n (omega arith) small

pub file_word : (name : List ℕ) → is_file_name name ≡ true → BlankFree name
file_word [] is = absurd (cc)
file_word (first ∷ octets) is =
    blank_free is_file_octet refl (first ∷ octets) (and_parts (not (nat_eq first 45 || nat_eq first 35) && nat_le (length octets) 126) (list_all is_file_octet (first ∷ octets)) is).1

pub name_word : (name : List ℕ) → is_name name ≡ true → BlankFree name
name_word name is =
    blank_free is_name_octet refl name (and_parts (nat_le 1 (length name) && nat_le (length name) 63) (list_all is_name_octet name) is).1

pub label_word : (label : Label) → IsMlsLabel label → BlankFree (label_text label)
label_word label is = λ k d within.
    no_blank is_label_octet refl _ (label_texts_have_few_octets (label_text label) label (written_label_reads_back label is.level is.cats) k d within)

-- ---- what is put together

-- in a record, so that the text is read off a goal
record IsWord (text : List ℕ) : Type 0 where
  pub free : BlankFree text

nil : IsWord []
nil = record { free = All-nil (λ c. (c == 32) ≡ false) }

onto : (c : ℕ) (text : List ℕ) → (c == 32) ≡ false → IsWord text → IsWord (c ∷ text)
onto c text none word = record { free = All-cons (λ c. (c == 32) ≡ false) c text none word.free }

and : (xs ys : List ℕ) → IsWord xs → IsWord ys → IsWord (xs ++ ys)
and xs ys x y = record { free = All-append (λ c. (c == 32) ≡ false) xs ys x.free y.free }

number : (n : ℕ) → n < 2 ^ 64 → IsWord (decimal n)
number n small = record { free = number_word n small }

-- a fixed text and a number
pub with_number : (front : List ℕ) (n : ℕ) → list_all (λ c. not (c == 32)) front ≡ true → n < 2 ^ 64 → BlankFree (front ++ decimal n)
with_number front n plain small = (and front (decimal n) (record { free = fixed front plain }) (number n small)).free

-- two numbers with a dot between
pub place_word : (f n : ℕ) → f < 2 ^ 64 → n < 2 ^ 64 → BlankFree (decimal f ++ (46 ∷ decimal n))
place_word f n hf hn = (and (decimal f) (46 ∷ decimal n) (number f hf) (onto 46 (decimal n) refl (number n hn))).free

-- numbers with commas between
abbrev pub Small : List ℕ → Type 0
Small numbers = All (λ n. n < 2 ^ 64) numbers

numbers : (vs : List ℕ) → Small vs → IsWord (join_with_byte 44 (map decimal vs))
numbers [] small = nil
numbers (v ∷ []) small = number v (All-head (λ n. n < 2 ^ 64) v [] small)
numbers (v ∷ w ∷ vs) small =
    and (decimal v) (44 ∷ join_with_byte 44 (map decimal (w ∷ vs))) (number v (All-head (λ n. n < 2 ^ 64) v (w ∷ vs) small))
    (onto 44 (join_with_byte 44 (map decimal (w ∷ vs))) refl (numbers (w ∷ vs) (All-tail (λ n. n < 2 ^ 64) v (w ∷ vs) small)))

pub numbers_word : (vs : List ℕ) → Small vs → BlankFree (join_with_byte 44 (map decimal vs))
numbers_word vs small = (numbers vs small).free

-- ---- addresses

hex_digit : (d : ℕ) → (digit_char d == 32) ≡ false
hex_digit d = grind (arith, nat_tests)

hex_word : (n : ℕ) → IsWord (hex n)
unfolding hex
hex_word n =
    let a = digit_char (n / 0x1000) in
    let b = digit_char (n / 0x100 % 16) in
    let c = digit_char (n / 0x10 % 16) in
    let d = digit_char (n % 16) in
    let all : IsWord (a ∷ b ∷ c ∷ d ∷ []) =
    onto a (b ∷ c ∷ d ∷ []) (hex_digit (n / 0x1000)) (onto b (c ∷ d ∷ []) (hex_digit (n / 0x100 % 16)) (onto c (d ∷ []) (hex_digit (n / 0x10 % 16)) (onto d [] (hex_digit (n % 16)) nil))) in
    record { free = All-drop (λ c. (c == 32) ≡ false) (leading_zero_digits n) (a ∷ b ∷ c ∷ d ∷ []) all.free }

more_groups : (xs : List ℕ) → IsWord (flat_map (λ t. 58 ∷ hex t) xs)
more_groups [] = nil
more_groups (x ∷ xs) = and (58 ∷ hex x) (flat_map (λ t. 58 ∷ hex t) xs) (onto 58 (hex x) refl (hex_word x)) (more_groups xs)

groups : (xs : List ℕ) → IsWord (groups_text xs)
groups [] = nil
groups (x ∷ xs) = and (hex x) (flat_map (λ t. 58 ∷ hex t) xs) (hex_word x) (more_groups xs)

compressed : (xs : List ℕ) (run : ℕ × ℕ) → IsWord (compressed_text xs run)
compressed xs run =
    let two : IsWord (58 ∷ 58 ∷ []) = onto 58 (58 ∷ []) refl (onto 58 [] refl nil) in
    cond_both _ _ _ IsWord (λ _. and _ _ (and _ _ (groups (take run.0 xs)) two) (groups (drop (run.0 + run.1) xs))) (λ _. groups xs)

six : (xs : List ℕ) → IsWord (hex_groups_text xs)
unfolding hex_groups_text
six xs = compressed xs (longest_zero_run xs)

four : (o : List ℕ) → ((k : ℕ) → slice_index o k < 256) → IsWord (ipv4_text o)
four o fit =
    let dot : IsWord (46 ∷ []) = onto 46 [] refl nil in
    let part : (k : ℕ) → IsWord (decimal (slice_index o k)) = λ k. number (slice_index o k) (let small = fit k in omega (arith, small)) in
    and _ _ (and _ _ (and _ _ (and _ _ (and _ _ (and _ _ (part 0) dot) (part 1)) dot) (part 2)) dot) (part 3)

pub address_word : (a : Address) → IsAddress a → BlankFree (address_text a)
address_word (V4 octets) is = (four octets is.fit).free
address_word (V6 octets) is = (six (segments_of octets)).free
