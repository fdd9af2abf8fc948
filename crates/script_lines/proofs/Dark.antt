-- A command's words are words: none is empty, has a blank or begins a comment; and its written form is plain.
use Rattle.std.proofs.Common.{◌≡◌, ℕ, ◌^◌, ◌<◌, ◌*◌, ◌+◌, zero, suc, Bool, true, false, not, List, [], ◌∷◌, ◌++◌, length, get_or, All, Option, Some, None, IsTrue, refl, ap, arith, decimal, codes}
use Rattle.std.specs.Prelude.{IfSome, nat_le, ◌&&◌, if◌then◌else◌}
use Rattle.std.specs.List.{cons_option, list_all, list_any, join_with_byte}
use Rattle.std.specs.Net.Addr.{segments_of}
use Rattle.std.specs.Net.Text.{ipv4_text, hex_groups_text}
use Rattle.std.proofs.lemmas.Bool.{and_from, and_parts, cond_both, leb-true}
use Rattle.std.proofs.lemmas.Bool.Decides.{nat_tests}
use Rattle.std.proofs.lemmas.Fmt.{decimal_is_IsNumeral}
use Rattle.std.proofs.lemmas.List.Elements.{All-nil, All-cons, All-head, All-tail, All-append, All-weaker, All-from_get_or}
use Rattle.std.proofs.lemmas.List.Folds.{list_any_none}
use Rattle.std.proofs.lemmas.Str.Parse.{digit_at}
use Rattle.std.proofs.NetLemmas.Alphabet.{All-ipv4_text, All-hex_groups_text, IsDigitOrDot, IsHexOrColon}
use Rattle.std.proofs.NetLemmas.Texts.{AllSegments}
use Rattle.mls_label.specs.declared.label.Label.{Label as MlsLabel}
use Rattle.mls_label.specs.declared.label.Tag.{Tag}
use Rattle.mls_label.specs.declared.label.Tag.TheVariants as Of
use Rattle.mls_range.specs.LabelText.{is_label_octet, label_text}
use Rattle.mls_range.specs.Range.{LabelRange}
use Rattle.mls_range.specs.RangeText.{range_text, same_label}
use Rattle.mls_range.proofs.Law.{label_texts_have_few_octets, written_label_reads_back}
use Rattle.domain_map.specs.declared.protocol.Protocol.{Protocol as Carried}
use Rattle.domain_map.specs.declared.protocol.Protocol.TheVariants as Map
use Rattle.domain_map.specs.declared.address_text.address.Address.{Address as Host}
use Rattle.domain_map.specs.declared.address_text.address.Address.TheVariants.{V4, V6}
use Rattle.domain_map.specs.address_text.Address.{IsAddress, IsOctetsOf, address_text, width_of}
use Rattle.domain_map.specs.address_text.Name.{IsNameText, is_name_octet}
use Rattle.domain_map.specs.address_text.Prefix.{AddressBlock, IsBlock, prefix_text}
use Rattle.script_lines.specs.Octet.{is_blank, is_plain}
use Rattle.script_lines.specs.Word.{has_octets, begins_comment, is_word_text, placed, words_of_line}
use Rattle.script_lines.proofs.LineWords.{words_joined}
use Rattle.script_lines.specs.command_values.Doi.{is_doi}
use Rattle.script_lines.specs.command_values.List.{AreEntries, list_text}
use Rattle.script_lines.specs.command_values.Pairs.{IsPairWithin, pair_text}
use Rattle.script_lines.specs.command_values.Tags.{AreTags, tag_number_text}
use Rattle.script_lines.specs.command_values.MapProtocol.{is_map_protocol, map_protocol_text}
use Rattle.script_lines.specs.command_values.Ranges.{IsMlsLabel, IsMlsRange, lowest_label, receiver_range_text}
use Rattle.script_lines.specs.declared.row.Row.{Row}
use Rattle.script_lines.specs.declared.row.Row.TheVariants.{CipsoAddPass, CipsoAddTrans, CalipsoAddPass, CipsoDel, CalipsoDel, CipsoList, CalipsoList, MapAdd, MapDel, MapList, AcceptOn, AcceptOff, UnlblAdd, UnlblDel, UnlblList, ReceiverAdd, ReceiverDel, RangeAdd, RangeDel, PairAdd, PairDel, MgmtVersion, MgmtProtocols, CalipsoAddTrans, Reading}
use Rattle.script_lines.specs.declared.parameter.Parameter.{Parameter}
use Rattle.script_lines.specs.declared.parameter.Parameter.TheVariants.{Doi, Tags, Levels, Categories, Domain, Interface, Prefix, Protocol, Label, Address, Home, Level, Range, Four, Six, ReadingLevels, ReadingCategories}
use Rattle.script_lines.specs.declared.form.Slot.{Slot}
use Rattle.script_lines.specs.declared.fields.Fields.{Fields}
use Rattle.script_lines.specs.declared.command.Command.{Command}
use Rattle.script_lines.specs.Form.{with_translations, form_of}
use Rattle.script_lines.specs.Fields.{is_given}
use Rattle.script_lines.specs.Value.{is_default, key_by, text_or_none, value_text, IsValue}
use Rattle.script_lines.specs.Command.{IsCommand, said_of, texts_of_said, command_text}
use Rattle.script_lines.proofs.Joined.{given_words}

-- an octet of a word: printable ASCII behind the space
abbrev is_ink : ℕ → Bool
is_ink c = nat_le 33 c && nat_le c 126

abbrev Ink : ℕ → Type 0
Ink c = is_ink c ≡ true

abbrev AllInk : List ℕ → Type 0
AllInk text = All Ink text

abbrev IsDark : List ℕ → Type 0
IsDark text = list_all is_ink text ≡ true

dark : (text : List ℕ) → AllInk text → IsDark text
dark [] all = refl
dark (c ∷ text) all = and_from (is_ink c) (list_all is_ink text) (All-head Ink c text all) (dark text (All-tail Ink c text all))

each_passes : {X : Type 0} (test : X → Bool) (xs : List X) → list_all test xs ≡ true → All (λ x. test x ≡ true) xs
each_passes test [] e = All-nil (λ x. test x ≡ true)
each_passes test (x ∷ xs) e =
    let parts = and_parts (test x) (list_all test xs) e in All-cons (λ y. test y ≡ true) x xs parts.0 (each_passes test xs parts.1)

ink_number : (n : ℕ) → n < 2 ^ 64 → AllInk (decimal n)
ink_number n small = All-from_get_or Ink (decimal n) 0 λ i h.
    let digit = digit_at (decimal n) i (decimal_is_IsNumeral n small).0.1 h in grind (arith, nat_tests, digit)

ink_list : {X : Type 0} (text_of : X → List ℕ) (xs : List X) → All (λ x. AllInk (text_of x)) xs → AllInk (list_text text_of xs)
ink_list text_of [] all = All-nil Ink
ink_list text_of (x ∷ []) all = All-head (λ y. AllInk (text_of y)) x [] all
ink_list text_of (x ∷ y ∷ ys) all =
    All-append Ink (text_of x) (44 ∷ list_text text_of (y ∷ ys)) (All-head (λ z. AllInk (text_of z)) x (y ∷ ys) all)
    (All-cons Ink 44 (list_text text_of (y ∷ ys)) refl (ink_list text_of (y ∷ ys) (All-tail (λ z. AllInk (text_of z)) x (y ∷ ys) all)))

ink_pair : (first second : ℕ) (pair : ℕ × ℕ) → first < 2 ^ 64 → second < 2 ^ 64 → IsPairWithin first second pair → AllInk (pair_text pair)
ink_pair first second pair small narrow is =
    All-append Ink (decimal pair.0) (61 ∷ decimal pair.1) (ink_number pair.0 (omega (arith, is)))
    (All-cons Ink 61 (decimal pair.1) refl (ink_number pair.1 (omega (arith, is))))

dark_doi : (n : ℕ) → IsTrue (is_doi n) → IsDark (decimal n)
dark_doi n is =
    let parts = and_parts (nat_le 1 n) (nat_le n 4294967295) is in dark (decimal n) (ink_number n (omega (arith, leb-true n 4294967295 parts.1)))

dark_pairs : (first second : ℕ) → first < 2 ^ 64 → second < 2 ^ 64 → (pairs : List (ℕ × ℕ)) → AreEntries (IsPairWithin first second) pairs → IsDark (list_text pair_text pairs)
dark_pairs first second small narrow pairs are =
    dark (list_text pair_text pairs) (ink_list pair_text pairs (All-weaker (IsPairWithin first second) (λ pair. AllInk (pair_text pair)) (λ pair is. ink_pair first second pair small narrow is) pairs are.each))

ink_tag : (tag : Tag) → AllInk (tag_number_text tag)
ink_tag Of.One = ink_number 1 (omega arith)
ink_tag Of.Two = ink_number 2 (omega arith)
ink_tag Of.Five = ink_number 5 (omega arith)

dark_tags : (tags : List Tag) → AreTags tags → IsDark (list_text tag_number_text tags)
dark_tags tags are = dark (list_text tag_number_text tags) (ink_list tag_number_text tags (λ k tag within. ink_tag _))

name_ink : (c : ℕ) → is_name_octet c ≡ true → Ink c
name_ink c is = grind (arith, nat_tests)

dark_name : (name : List ℕ) → IsNameText name → IsDark name
dark_name name is =
    let parts = and_parts (nat_le 1 (length name) && nat_le (length name) 63) (list_all is_name_octet name) is in
    dark name (All-weaker (λ c. is_name_octet c ≡ true) Ink name_ink name (each_passes is_name_octet name parts.1))

label_ink : (c : ℕ) → IsTrue (is_label_octet c) → Ink c
label_ink c is = grind (arith, nat_tests)

ink_label : (label : MlsLabel) → IsMlsLabel label → AllInk (label_text label)
ink_label label is =
    All-weaker (λ c. IsTrue (is_label_octet c)) Ink label_ink (label_text label)
    (label_texts_have_few_octets (label_text label) label (written_label_reads_back label is.level is.cats))

ink_ends : (low high : MlsLabel) → IsMlsLabel low → IsMlsLabel high → AllInk (label_text low ++ 45 ∷ label_text high)
ink_ends low high is_low is_high =
    All-append Ink (label_text low) (45 ∷ label_text high) (ink_label low is_low) (All-cons Ink 45 (label_text high) refl (ink_label high is_high))

dark_range : (range : LabelRange) → IsMlsRange range → IsDark (range_text range)
dark_range range is =
    dark (range_text range) (cond_both (same_label range.high range.low) (label_text range.low) (label_text range.low ++ 45 ∷ label_text range.high) AllInk (λ h. ink_label range.low is.low) (λ h. ink_ends range.low range.high is.low is.high))

dark_level : (range : LabelRange) → IsMlsRange range → IsDark (receiver_range_text range)
dark_level range is =
    dark (receiver_range_text range) (cond_both (same_label range.low lowest_label) (label_text range.high) (label_text range.low ++ 45 ∷ label_text range.high) AllInk (λ h. ink_label range.high is.high) (λ h. ink_ends range.low range.high is.low is.high))

groups_fit : (octets : List ℕ) → ((k : ℕ) → get_or octets k 0 < 256) → AllSegments (segments_of octets)
groups_fit [] fits k = omega arith
groups_fit (a ∷ []) fits k = omega arith
groups_fit (a ∷ b ∷ octets) fits k =
    let later = groups_fit octets (λ j. fits (suc (suc j))) in
    elim k as (λ j. get_or ((a * 256 + b) ∷ segments_of octets) j 0 < 2 ^ 16) [ zero ↦ omega (arith, fits 0, fits 1) | suc j ↦ later j ]

ink_address : (a : Host) → IsAddress a → AllInk (address_text a)
ink_address (V4 octets) is = All-weaker IsDigitOrDot Ink (λ c h. grind (arith, nat_tests)) (ipv4_text octets) (All-ipv4_text octets is.fit)
ink_address (V6 octets) is =
    All-weaker IsHexOrColon Ink (λ c h. grind (arith, nat_tests)) (hex_groups_text (segments_of octets)) (All-hex_groups_text (segments_of octets) (groups_fit octets is.fit))

dark_address : (a : Host) → IsAddress a → IsDark (address_text a)
dark_address a is = dark (address_text a) (ink_address a is)

few_bits : (a : Host) → width_of a < 256
few_bits (V4 octets) = omega arith
few_bits (V6 octets) = omega arith

dark_prefix : (block : AddressBlock) → IsBlock block → IsDark (prefix_text block)
dark_prefix block is =
    dark (prefix_text block) (All-append Ink (address_text block.address) (47 ∷ decimal block.bits) (ink_address block.address is.address)
    (All-cons Ink 47 (decimal block.bits) refl (ink_number block.bits (omega (arith, is.bits, few_bits block.address)))))

dark_protocol : (protocol : Carried) → IsTrue (is_map_protocol protocol) → IsDark (map_protocol_text protocol)
dark_protocol Map.Unlbl is = refl
dark_protocol (Map.Cipso doi) is = dark_doi doi is
dark_protocol (Map.Calipso doi) is = dark_doi doi is

-- ---- values

dark_value : {X : Type 0} (text_of : X → List ℕ) (P : X → Type 0) (value : Option X) → ((x : X) → P x → IsDark (text_of x)) → IfSome value P → IsDark (text_or_none text_of value)
dark_value text_of P None darkens is = refl
dark_value text_of P (Some x) darkens is = darkens x is

dark_named : (name : Option (List ℕ)) → IfSome name IsNameText → IsDark (text_or_none (λ n. n) name)
dark_named name is = dark_value (λ n. n) IsNameText name dark_name is

-- ---- words

-- something of ink that begins no comment
abbrev is_dark_word : List ℕ → Bool
is_dark_word text = (has_octets text && not (begins_comment text)) && list_all is_ink text

abbrev IsDarkWord : List ℕ → Type 0
IsDarkWord text = is_dark_word text ≡ true

domain_word : (domain : Option (Option (List ℕ))) → IfSome domain (λ d. IfSome d IsNameText)
    → IsDarkWord ((if is_default domain then codes "default" else codes "domain:") ++ text_or_none (text_or_none (λ n. n)) domain)
domain_word None is = refl
domain_word (Some None) is = refl
domain_word (Some (Some name)) is = dark_name name is

interface_word : (interface : Option (Option (List ℕ))) → IfSome interface (λ d. IfSome d IsNameText)
    → IsDarkWord ((if is_default interface then codes "default" else codes "interface:") ++ text_or_none (text_or_none (λ n. n)) interface)
interface_word None is = refl
interface_word (Some None) is = refl
interface_word (Some (Some name)) is = dark_name name is

-- a key and a value behind it
parameter_word : (parameter : Parameter) (fields : Fields) → IsValue parameter fields → IsDarkWord (key_by parameter fields ++ value_text parameter fields)
parameter_word Doi f is = dark_value decimal (λ d. IsTrue (is_doi d)) f.doi dark_doi is
parameter_word Tags f is = dark_value (list_text tag_number_text) AreTags f.tags dark_tags is
parameter_word Levels f is = dark_value (list_text pair_text) (AreEntries (IsPairWithin 255 255)) f.levels (dark_pairs 255 255 (omega arith) (omega arith)) is
parameter_word Categories f is = dark_value (list_text pair_text) (AreEntries (IsPairWithin 65534 65534)) f.categories (dark_pairs 65534 65534 (omega arith) (omega arith)) is
parameter_word Domain f is = domain_word f.domain is
parameter_word Interface f is = interface_word f.interface is
parameter_word Prefix f is = dark_value prefix_text IsBlock f.prefix dark_prefix is
parameter_word Protocol f is = dark_value map_protocol_text (λ p. IsTrue (is_map_protocol p)) f.protocol dark_protocol is
parameter_word Label f is = dark_value range_text IsMlsRange f.label dark_range is
parameter_word Address f is = dark_value address_text IsAddress f.address dark_address is
parameter_word Home f is = dark_value (λ n. n) IsNameText f.home dark_name is
parameter_word Level f is = dark_value receiver_range_text IsMlsRange f.level dark_level is
parameter_word Range f is = dark_value range_text IsMlsRange f.range dark_range is
parameter_word Four f is = dark_value (λ octets. address_text (V4 octets)) (IsOctetsOf 4) f.four (λ octets four. dark_address (V4 octets) four) is
parameter_word Six f is = dark_value (λ octets. address_text (V6 octets)) (IsOctetsOf 16) f.six (λ octets six. dark_address (V6 octets) six) is
parameter_word ReadingLevels f is = dark_value (list_text pair_text) (AreEntries (IsPairWithin 255 4294967295)) f.reading_levels (dark_pairs 255 4294967295 (omega arith) (omega arith)) is
parameter_word ReadingCategories f is = dark_value (list_text pair_text) (AreEntries (IsPairWithin 65534 4294967295)) f.reading_categories (dark_pairs 65534 4294967295 (omega arith) (omega arith)) is

pub given_are_dark : (slots : List Slot) (fields : Fields) → All (λ slot. IsValue slot.parameter fields) slots → All IsDarkWord (given_words slots fields)
given_are_dark [] fields values = All-nil IsDarkWord
given_are_dark (slot ∷ slots) fields values =
    let V : Slot → Type 0 = λ s. IsValue s.parameter fields in
    let p = slot.parameter in
    let word = key_by p fields ++ value_text p fields in
    let rest = given_words slots fields in
    let others = given_are_dark slots fields (All-tail V slot slots values) in
    cond_both (is_given p fields) (Some word) None (λ o. All IsDarkWord (cons_option o rest)) (λ h. All-cons IsDarkWord word rest (parameter_word p fields (All-head V slot slots values)) others) (λ h. others)

fixed_dark : (row : Row) → list_all is_dark_word (form_of with_translations row).fixed ≡ true
fixed_dark CipsoAddPass = refl
fixed_dark CipsoAddTrans = refl
fixed_dark CalipsoAddPass = refl
fixed_dark CipsoDel = refl
fixed_dark CalipsoDel = refl
fixed_dark CipsoList = refl
fixed_dark CalipsoList = refl
fixed_dark MapAdd = refl
fixed_dark MapDel = refl
fixed_dark MapList = refl
fixed_dark AcceptOn = refl
fixed_dark AcceptOff = refl
fixed_dark UnlblAdd = refl
fixed_dark UnlblDel = refl
fixed_dark UnlblList = refl
fixed_dark ReceiverAdd = refl
fixed_dark ReceiverDel = refl
fixed_dark RangeAdd = refl
fixed_dark RangeDel = refl
fixed_dark PairAdd = refl
fixed_dark PairDel = refl
fixed_dark MgmtVersion = refl
fixed_dark MgmtProtocols = refl
fixed_dark CalipsoAddTrans = refl
fixed_dark Reading = refl

-- every word of a command is dark
texts_dark : (command : Command) → IsCommand command → All IsDarkWord (texts_of_said (said_of command))
texts_dark command is =
    let said = said_of command in
    let form = form_of with_translations said.row in
    All-append IsDarkWord form.fixed (given_words form.slots said.fields) (each_passes is_dark_word form.fixed (fixed_dark said.row)) (given_are_dark form.slots said.fields is)

ink_unblank : (c : ℕ) → Ink c → is_blank c ≡ false
ink_unblank c ink = grind (arith, nat_tests)

ink_plain : (c : ℕ) → Ink c → IsTrue (is_plain c)
ink_plain c ink = grind (arith, nat_tests)

dark_is_word : (text : List ℕ) → IsDarkWord text → IsTrue (is_word_text text)
dark_is_word text is =
    let parts = and_parts (has_octets text && not (begins_comment text)) (list_all is_ink text) is in
    let unblank = All-weaker Ink (λ c. is_blank c ≡ false) ink_unblank text (each_passes is_ink text parts.1) in
    and_from (has_octets text && not (begins_comment text)) (not (list_any is_blank text)) parts.0 (ap not (list_any_none is_blank text unblank))

dark_is_plain : (text : List ℕ) → IsDarkWord text → All (λ c. IsTrue (is_plain c)) text
dark_is_plain text is =
    let parts = and_parts (has_octets text && not (begins_comment text)) (list_all is_ink text) is in
    All-weaker Ink (λ c. IsTrue (is_plain c)) ink_plain text (each_passes is_ink text parts.1)

joined_plain : (texts : List (List ℕ)) → All IsDarkWord texts → All (λ c. IsTrue (is_plain c)) (join_with_byte 32 texts)
joined_plain [] all = All-nil (λ c. IsTrue (is_plain c))
joined_plain (text ∷ []) all = dark_is_plain text (All-head IsDarkWord text [] all)
joined_plain (text ∷ next ∷ texts) all =
    let P : ℕ → Type 0 = λ c. IsTrue (is_plain c) in
    let rest = join_with_byte 32 (next ∷ texts) in
    All-append P text (32 ∷ rest) (dark_is_plain text (All-head IsDarkWord text (next ∷ texts) all))
    (All-cons P 32 rest refl (joined_plain (next ∷ texts) (All-tail IsDarkWord text (next ∷ texts) all)))

pub written_plain : (command : Command) → IsCommand command → All (λ c. IsTrue (is_plain c)) (command_text command)
written_plain command is = joined_plain (texts_of_said (said_of command)) (texts_dark command is)

pub written_words : (blanks : List ℕ) (command : Command) → All (λ octet. IsTrue (is_blank octet)) blanks → IsCommand command
    → words_of_line (blanks ++ command_text command) ≡ placed (length blanks) (texts_of_said (said_of command))
written_words blanks command in_front is =
    let texts = texts_of_said (said_of command) in
    words_joined blanks texts in_front (All-weaker IsDarkWord (λ text. IsTrue (is_word_text text)) dark_is_word texts (texts_dark command is))
