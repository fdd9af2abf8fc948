-- A command's written form reads back.
use Rattle.std.proofs.Common.{◌≡◌, ℕ, ◌+◌, Bool, true, false, cond, List, [], ◌∷◌, ◌++◌, length, drop, map, All, Option, Some, None, Result, Ok, Err, IsTrue, refl, sym, ap, ◌∙◌, arith, decimal, inl, inr, nat_eq, codes}
use Rattle.std.specs.Prelude.{◌==◌, IfSome, is_some, find, fold, max, ok_or, option_map, if◌then◌else◌}
use Rattle.std.specs.List.{after_first, common_prefix_len, cons_option}
use Rattle.std.proofs.lemmas.Bool.{cases_Bool, cond-true, cond-false, false≢true, true≢false, ne_eqb}
use Rattle.std.proofs.lemmas.List.Elements.{All-head, All-tail}
use Rattle.std.proofs.lemmas.Option.{none-some, IfSome_then}
use Rattle.mls_range.specs.RangeText.{range_text}
use Rattle.mls_range.specs.Computed.{range_of_text}
use Rattle.mls_range.proofs.Law.{written_range_computes}
use Rattle.domain_map.specs.declared.address_text.address.Address.TheVariants.{V4, V6}
use Rattle.domain_map.specs.address_text.Address.{address_of_text, address_text}
use Rattle.domain_map.specs.address_text.Name.{IsNameText, is_name, name_of_text}
use Rattle.domain_map.specs.address_text.Prefix.{block_of_text, prefix_text}
use Rattle.domain_map.proofs.address_text.Law.{address_texts_compute, written_address_reads_back, written_prefix_reads_back}
use Rattle.script_lines.specs.declared.stop.ScriptKind.TheVariants as Kind
use Rattle.script_lines.specs.declared.stop.LineStop.{LineStop}
use Rattle.script_lines.specs.Octet.{is_blank}
use Rattle.script_lines.specs.Word.{LineWord, placed, words_of_line}
use Rattle.script_lines.specs.Stop.{fault, and_next}
use Rattle.script_lines.specs.command_values.Doi.{doi_of_text}
use Rattle.script_lines.specs.command_values.List.{list_of_text, list_text}
use Rattle.script_lines.specs.command_values.Pairs.{pair_of_text, pair_text}
use Rattle.script_lines.specs.command_values.Tags.{tags_of_text, tag_number_text}
use Rattle.script_lines.specs.command_values.MapProtocol.{map_protocol_of_text, map_protocol_text}
use Rattle.script_lines.specs.command_values.Ranges.{static_range_of_text, receiver_range_of_text, receiver_range_text}
use Rattle.script_lines.specs.command_values.Addresses.{four_of_text, sixteen_of_text}
use Rattle.script_lines.proofs.command_values.Law.{written_doi_reads_back, written_tags_read_back, written_pairs_read_back, written_map_protocol_reads_back, written_static_range_reads_back, written_receiver_range_reads_back, written_four_octets_read_back, written_sixteen_octets_read_back}
use Rattle.script_lines.specs.declared.row.Row.{Row}
use Rattle.script_lines.specs.declared.parameter.Parameter.{Parameter}
use Rattle.script_lines.specs.declared.parameter.Parameter.TheVariants.{Doi, Tags, Levels, Categories, Domain, Interface, Prefix, Protocol, Label, Address, Home, Level, Range, Four, Six, ReadingLevels, ReadingCategories}
use Rattle.script_lines.specs.declared.form.Slot.{Slot}
use Rattle.script_lines.specs.declared.fields.Fields.{Fields}
use Rattle.script_lines.specs.declared.said.Said.{Said}
use Rattle.script_lines.specs.declared.command.Command.{Command}
use Rattle.script_lines.specs.declared.command.Command.TheVariants as Is
use Rattle.script_lines.specs.Form.{with_translations, form_of, line_rows, is_key}
use Rattle.script_lines.specs.Fields.{no_fields, is_given, with_value}
use Rattle.script_lines.specs.Value.{is_default, key_by, text_or_none, value_text, IsValue}
use Rattle.script_lines.specs.Said.{is_spelled, shared_words, unfit_or_missing, read_row, key_of, slot_of, with_parameter, with_word, with_words, is_complete, read_fields, read_said}
use Rattle.script_lines.specs.Command.{IsCommand, said_of, texts_of_said, command_text}
use Rattle.script_lines.proofs.Apart.{FindsKeys, keys_found}
use Rattle.script_lines.proofs.Kept.{put}
use Rattle.script_lines.proofs.Joined.{given_words}
use Rattle.script_lines.proofs.Dark.{written_words}

-- ---- one parameter

-- the fields with one parameter of others
abbrev copied : Parameter → Fields → Fields → Fields
copied Doi from to = record to { doi = from.doi }
copied Tags from to = record to { tags = from.tags }
copied Levels from to = record to { levels = from.levels }
copied Categories from to = record to { categories = from.categories }
copied Domain from to = record to { domain = from.domain }
copied Interface from to = record to { interface = from.interface }
copied Prefix from to = record to { prefix = from.prefix }
copied Protocol from to = record to { protocol = from.protocol }
copied Label from to = record to { label = from.label }
copied Address from to = record to { address = from.address }
copied Home from to = record to { home = from.home }
copied Level from to = record to { level = from.level }
copied Range from to = record to { range = from.range }
copied Four from to = record to { four = from.four }
copied Six from to = record to { six = from.six }
copied ReadingLevels from to = record to { reading_levels = from.reading_levels }
copied ReadingCategories from to = record to { reading_categories = from.reading_categories }

none_is : {X : Type 0} (value : Option X) → is_some value ≡ false → value ≡ None
none_is None none = refl
none_is (Some x) none = absurd (true≢false none)

same_none : {X : Type 0} (from to : Option X) → is_some from ≡ false → is_some to ≡ false → from ≡ to
same_none from to none empty = none_is from none ∙ sym (none_is to empty)

copied_none : (parameter : Parameter) (from to : Fields) → is_given parameter from ≡ false → is_given parameter to ≡ false → copied parameter from to ≡ to
copied_none Doi from to none empty = ap (λ v. record to { doi = v }) (same_none from.doi to.doi none empty)
copied_none Tags from to none empty = ap (λ v. record to { tags = v }) (same_none from.tags to.tags none empty)
copied_none Levels from to none empty = ap (λ v. record to { levels = v }) (same_none from.levels to.levels none empty)
copied_none Categories from to none empty = ap (λ v. record to { categories = v }) (same_none from.categories to.categories none empty)
copied_none Domain from to none empty = ap (λ v. record to { domain = v }) (same_none from.domain to.domain none empty)
copied_none Interface from to none empty = ap (λ v. record to { interface = v }) (same_none from.interface to.interface none empty)
copied_none Prefix from to none empty = ap (λ v. record to { prefix = v }) (same_none from.prefix to.prefix none empty)
copied_none Protocol from to none empty = ap (λ v. record to { protocol = v }) (same_none from.protocol to.protocol none empty)
copied_none Label from to none empty = ap (λ v. record to { label = v }) (same_none from.label to.label none empty)
copied_none Address from to none empty = ap (λ v. record to { address = v }) (same_none from.address to.address none empty)
copied_none Home from to none empty = ap (λ v. record to { home = v }) (same_none from.home to.home none empty)
copied_none Level from to none empty = ap (λ v. record to { level = v }) (same_none from.level to.level none empty)
copied_none Range from to none empty = ap (λ v. record to { range = v }) (same_none from.range to.range none empty)
copied_none Four from to none empty = ap (λ v. record to { four = v }) (same_none from.four to.four none empty)
copied_none Six from to none empty = ap (λ v. record to { six = v }) (same_none from.six to.six none empty)
copied_none ReadingLevels from to none empty = ap (λ v. record to { reading_levels = v }) (same_none from.reading_levels to.reading_levels none empty)
copied_none ReadingCategories from to none empty = ap (λ v. record to { reading_categories = v }) (same_none from.reading_categories to.reading_categories none empty)

abbrev word_text : Parameter → Fields → List ℕ
word_text parameter fields = key_by parameter fields ++ value_text parameter fields

abbrev is_colon : ℕ → Bool
is_colon c = c == 58

-- the word of a parameter begins with its key, and its value reads back
record Returns (parameter : Parameter) (from to : Fields) : Type 0 where
  key : IsTrue (is_key parameter (key_of (word_text parameter from)))
  value : with_value with_translations parameter (key_of (word_text parameter from)) (after_first is_colon (word_text parameter from)) to ≡ Some (copied parameter from to)

put_back : {X : Type 0} (value : Option X) (of : List ℕ → Option X) (text_of : X → List ℕ) (place : Option X → Fields) → IfSome value (λ x. of (text_of x) ≡ Some x) → is_some value ≡ true
    → put (of (text_or_none text_of value)) place ≡ Some (place value)
put_back None of text_of place reads given = absurd (false≢true given)
put_back (Some x) of text_of place reads given = ap (λ o. put o place) reads

name_back : (name : List ℕ) → IsNameText name → name_of_text name ≡ Some name
name_back name is = cond-true (is_name name) (Some name) None is

domain_back : (domain : Option (Option (List ℕ))) (to : Fields) → IfSome domain (λ d. IfSome d IsNameText) → is_some domain ≡ true
    → let word = (if is_default domain then codes "default" else codes "domain:") ++ text_or_none (text_or_none (λ n. n)) domain in
    IsTrue (is_key Domain (key_of word)) × (with_value with_translations Domain (key_of word) (after_first is_colon word) to ≡ Some (record to { domain = domain }))
domain_back None to is given = absurd (false≢true given)
domain_back (Some None) to is given = (refl, refl)
domain_back (Some (Some name)) to is given =
    let place : Option (List ℕ) → Option Fields = λ o. put (option_map (λ n. Some n) o) (λ v. record to { domain = v }) in (refl, ap place (name_back name is))

interface_back : (interface : Option (Option (List ℕ))) (to : Fields) → IfSome interface (λ d. IfSome d IsNameText) → is_some interface ≡ true
    → let word = (if is_default interface then codes "default" else codes "interface:") ++ text_or_none (text_or_none (λ n. n)) interface in
    IsTrue (is_key Interface (key_of word)) × (with_value with_translations Interface (key_of word) (after_first is_colon word) to ≡ Some (record to { interface = interface }))
interface_back None to is given = absurd (false≢true given)
interface_back (Some None) to is given = (refl, refl)
interface_back (Some (Some name)) to is given =
    let place : Option (List ℕ) → Option Fields = λ o. put (option_map (λ n. Some n) o) (λ v. record to { interface = v }) in (refl, ap place (name_back name is))

value_back : (parameter : Parameter) (from to : Fields) → IsValue parameter from → is_given parameter from ≡ true → Returns parameter from to
value_back Doi from to is given = record { key = refl; value = put_back from.doi doi_of_text decimal (λ v. record to { doi = v }) (IfSome_then from.doi is (λ d h. written_doi_reads_back d h)) given }
value_back Tags from to is given = record { key = refl; value = put_back from.tags tags_of_text (list_text tag_number_text) (λ v. record to { tags = v }) (IfSome_then from.tags is (λ ts h. written_tags_read_back ts h)) given }
value_back Levels from to is given = record { key = refl; value = put_back from.levels (list_of_text (pair_of_text 255 255)) (list_text pair_text) (λ v. record to { levels = v }) (IfSome_then from.levels is (λ ps h. written_pairs_read_back 255 255 ps (omega arith) (omega arith) h)) given }
value_back Categories from to is given = record { key = refl; value = put_back from.categories (list_of_text (pair_of_text 65534 65534)) (list_text pair_text) (λ v. record to { categories = v }) (IfSome_then from.categories is (λ ps h. written_pairs_read_back 65534 65534 ps (omega arith) (omega arith) h)) given }
value_back Domain from to is given = let back = domain_back from.domain to is given in record { key = back.0; value = back.1 }
value_back Interface from to is given = let back = interface_back from.interface to is given in record { key = back.0; value = back.1 }
value_back Prefix from to is given = record { key = refl; value = put_back from.prefix block_of_text prefix_text (λ v. record to { prefix = v }) (IfSome_then from.prefix is (λ b h. written_prefix_reads_back b h)) given }
value_back Protocol from to is given = record { key = refl; value = put_back from.protocol map_protocol_of_text map_protocol_text (λ v. record to { protocol = v }) (IfSome_then from.protocol is (λ p h. written_map_protocol_reads_back p h)) given }
value_back Label from to is given = record { key = refl; value = put_back from.label static_range_of_text range_text (λ v. record to { label = v }) (IfSome_then from.label is (λ r h. written_static_range_reads_back r h)) given }
value_back Address from to is given = record { key = refl; value = put_back from.address address_of_text address_text (λ v. record to { address = v }) (IfSome_then from.address is (λ a h. address_texts_compute (address_text a) a (written_address_reads_back a h))) given }
value_back Home from to is given = record { key = refl; value = put_back from.home name_of_text (λ n. n) (λ v. record to { home = v }) (IfSome_then from.home is name_back) given }
value_back Level from to is given = record { key = refl; value = put_back from.level receiver_range_of_text receiver_range_text (λ v. record to { level = v }) (IfSome_then from.level is (λ r h. written_receiver_range_reads_back r h)) given }
value_back Range from to is given = record { key = refl; value = put_back from.range range_of_text range_text (λ v. record to { range = v }) (IfSome_then from.range is (λ r h. written_range_computes r h.low.level h.high.level h.low.cats h.high.cats h.low.few h.high.few h.ordered)) given }
value_back Four from to is given = record { key = refl; value = put_back from.four four_of_text (λ octets. address_text (V4 octets)) (λ v. record to { four = v }) (IfSome_then from.four is (λ o h. written_four_octets_read_back o h)) given }
value_back Six from to is given = record { key = refl; value = put_back from.six sixteen_of_text (λ octets. address_text (V6 octets)) (λ v. record to { six = v }) (IfSome_then from.six is (λ o h. written_sixteen_octets_read_back o h)) given }
value_back ReadingLevels from to is given = record { key = refl; value = put_back from.reading_levels (list_of_text (pair_of_text 255 4294967295)) (list_text pair_text) (λ v. record to { reading_levels = v }) (IfSome_then from.reading_levels is (λ ps h. written_pairs_read_back 255 4294967295 ps (omega arith) (omega arith) h)) given }
value_back ReadingCategories from to is given = record { key = refl; value = put_back from.reading_categories (list_of_text (pair_of_text 65534 4294967295)) (list_text pair_text) (λ v. record to { reading_categories = v }) (IfSome_then from.reading_categories is (λ ps h. written_pairs_read_back 65534 4294967295 ps (omega arith) (omega arith) h)) given }

-- ---- one word

some_found : (slots : List Slot) (key : List ℕ) (slot : Slot) → slot_of slots key ≡ Some slot → nat_eq (length slots) 0 ≡ false
some_found [] key slot e = absurd (none-some slot e)
some_found (first ∷ slots) key slot e = ne_eqb (length (first ∷ slots)) 0 (λ h. omega (arith, h))

word_back : (all : List Slot) (slot : Slot) (place : ℕ) (from to : Fields) → FindsKeys all slot → is_given slot.parameter to ≡ false → Returns slot.parameter from to
    → with_word with_translations all (record { at = place; text = word_text slot.parameter from }) to ≡ Ok (copied slot.parameter from to)
word_back all slot place from to finds fresh back =
    let text = word_text slot.parameter from in
    let key = key_of text in
    let word : LineWord = record { at = place; text = text } in
    let found = finds key back.key in
    let extra : LineStop = fault place Kind.Extra in
    let unknown : LineStop = fault place Kind.Word in
    let wrong : LineStop = fault place Kind.Value in
    let goes : Slot → Result Fields LineStop = λ s. with_parameter with_translations s.parameter word to in
    let value = with_value with_translations slot.parameter key (after_first is_colon text) to in
    cond-false (nat_eq (length all) 0) (Err extra) (and_next (ok_or (slot_of all key) unknown) goes) (some_found all key slot found)
    ∙ ap (λ o. and_next (ok_or o unknown) goes) found
    ∙ cond-false (is_given slot.parameter to) (Err unknown) (ok_or value wrong) fresh
    ∙ ap (λ o. ok_or o wrong) back.value

-- ---- all words

abbrev all_copied : List Slot → Fields → Fields → Fields
all_copied [] from to = to
all_copied (slot ∷ slots) from to = all_copied slots from (copied slot.parameter from to)

-- none of the parameters came earlier
abbrev AreFresh : List Slot → Fields → Fields → Type 0
AreFresh [] from to = Unit {0}
AreFresh (slot ∷ slots) from to = (is_given slot.parameter to ≡ false) × AreFresh slots from (copied slot.parameter from to)

words_back : (all rest : List Slot) (place : ℕ) (from to : Fields) → All (FindsKeys all) rest → All (λ slot. IsValue slot.parameter from) rest → AreFresh rest from to
    → with_words with_translations all (placed place (given_words rest from)) to ≡ Ok (all_copied rest from to)
words_back all [] place from to finds values fresh = refl
words_back all (slot ∷ rest) place from to finds values fresh =
    let p = slot.parameter in
    let text = word_text p from in
    let words = given_words rest from in
    let next = copied p from to in
    let others = All-tail (FindsKeys all) slot rest finds in
    let valid = All-tail (λ s. IsValue s.parameter from) slot rest values in
    let read : Option (List ℕ) → Result Fields LineStop = λ o. with_words with_translations all (placed place (cons_option o words)) to in
    elim (cases_Bool (is_given p from)) [
      | inl given ↦
          let back = value_back p from to (All-head (λ s. IsValue s.parameter from) slot rest values) given in
          let behind = place + length text + 1 in
          ap read (cond-true (is_given p from) (Some text) None given)
          ∙ ap (λ r. and_next r (with_words with_translations all (placed behind words))) (word_back all slot place from to (All-head (FindsKeys all) slot rest finds) fresh.0 back)
          ∙ words_back all rest behind from next others valid fresh.1
      | inr none ↦
          ap read (cond-false (is_given p from) (Some text) None none)
          ∙ ap (λ t. with_words with_translations all (placed place words) t) (sym (copied_none p from to none fresh.0))
          ∙ words_back all rest place from next others valid fresh.1
    ]

-- ---- the commands, one by one

abbrev slots_of_command : Command → List Slot
slots_of_command command = (form_of with_translations (said_of command).row).slots

-- each parameter comes once, all of them are the command's, and none is missing
record IsWhole (command : Command) : Type 0 where
  fresh : AreFresh (slots_of_command command) (said_of command).fields no_fields
  same : all_copied (slots_of_command command) (said_of command).fields no_fields ≡ (said_of command).fields
  complete : is_complete (slots_of_command command) (said_of command).fields ≡ true

whole : (command : Command) → IsWhole command
whole (Is.CipsoAddPass doi tags) = record { fresh = (refl, (refl, tt)); same = refl; complete = refl }
whole (Is.CipsoAddTrans doi tags levels categories) = record { fresh = (refl, (refl, (refl, (refl, tt)))); same = refl; complete = refl }
whole (Is.CalipsoAddPass doi) = record { fresh = (refl, tt); same = refl; complete = refl }
whole (Is.CalipsoAddTrans doi levels categories) = record { fresh = (refl, (refl, (refl, tt))); same = refl; complete = refl }
whole (Is.CipsoDel doi) = record { fresh = (refl, tt); same = refl; complete = refl }
whole (Is.CalipsoDel doi) = record { fresh = (refl, tt); same = refl; complete = refl }
whole (Is.CipsoList doi) = record { fresh = (refl, tt); same = refl; complete = refl }
whole (Is.CalipsoList doi) = record { fresh = (refl, tt); same = refl; complete = refl }
whole (Is.MapAdd domain prefix protocol) = record { fresh = (refl, (refl, (refl, tt))); same = refl; complete = refl }
whole (Is.MapDel domain prefix) = record { fresh = (refl, (refl, tt)); same = refl; complete = refl }
whole Is.MapList = record { fresh = tt; same = refl; complete = refl }
whole Is.AcceptOn = record { fresh = tt; same = refl; complete = refl }
whole Is.AcceptOff = record { fresh = tt; same = refl; complete = refl }
whole (Is.UnlblAdd interface prefix range) = record { fresh = (refl, (refl, (refl, tt))); same = refl; complete = refl }
whole (Is.UnlblDel interface prefix) = record { fresh = (refl, (refl, tt)); same = refl; complete = refl }
whole Is.UnlblList = record { fresh = tt; same = refl; complete = refl }
whole (Is.ReceiverAdd address home range) = record { fresh = (refl, (refl, (refl, tt))); same = refl; complete = refl }
whole (Is.ReceiverDel address) = record { fresh = (refl, tt); same = refl; complete = refl }
whole (Is.RangeAdd interface range) = record { fresh = (refl, (refl, tt)); same = refl; complete = refl }
whole (Is.RangeDel interface) = record { fresh = (refl, tt); same = refl; complete = refl }
whole (Is.PairAdd four six) = record { fresh = (refl, (refl, tt)); same = refl; complete = refl }
whole (Is.PairDel four) = record { fresh = (refl, tt); same = refl; complete = refl }
whole Is.MgmtVersion = record { fresh = tt; same = refl; complete = refl }
whole Is.MgmtProtocols = record { fresh = tt; same = refl; complete = refl }

-- the row of a command is found by its fixed words
abbrev FindsRow : Bool → Row → List (List ℕ) → Type 0
FindsRow led row more =
    find (λ r. nat_eq (common_prefix_len is_spelled (form_of with_translations r).fixed ((form_of with_translations row).fixed ++ more)) (length (form_of with_translations r).fixed)) (line_rows led with_translations) ≡ Some row

row_found : (led : Bool) (command : Command) (more : List (List ℕ)) → FindsRow led (said_of command).row more
row_found true (Is.CipsoAddPass doi tags) more = refl
row_found true (Is.CipsoAddTrans doi tags levels categories) more = refl
row_found true (Is.CalipsoAddPass doi) more = refl
row_found true (Is.CalipsoAddTrans doi levels categories) more = refl
row_found true (Is.CipsoDel doi) more = refl
row_found true (Is.CalipsoDel doi) more = refl
row_found true (Is.CipsoList doi) more = refl
row_found true (Is.CalipsoList doi) more = refl
row_found true (Is.MapAdd domain prefix protocol) more = refl
row_found true (Is.MapDel domain prefix) more = refl
row_found true Is.MapList more = refl
row_found true Is.AcceptOn more = refl
row_found true Is.AcceptOff more = refl
row_found true (Is.UnlblAdd interface prefix range) more = refl
row_found true (Is.UnlblDel interface prefix) more = refl
row_found true Is.UnlblList more = refl
row_found true (Is.ReceiverAdd address home range) more = refl
row_found true (Is.ReceiverDel address) more = refl
row_found true (Is.RangeAdd interface range) more = refl
row_found true (Is.RangeDel interface) more = refl
row_found true (Is.PairAdd four six) more = refl
row_found true (Is.PairDel four) more = refl
row_found true Is.MgmtVersion more = refl
row_found true Is.MgmtProtocols more = refl
row_found false (Is.CipsoAddPass doi tags) more = refl
row_found false (Is.CipsoAddTrans doi tags levels categories) more = refl
row_found false (Is.CalipsoAddPass doi) more = refl
row_found false (Is.CalipsoAddTrans doi levels categories) more = refl
row_found false (Is.CipsoDel doi) more = refl
row_found false (Is.CalipsoDel doi) more = refl
row_found false (Is.CipsoList doi) more = refl
row_found false (Is.CalipsoList doi) more = refl
row_found false (Is.MapAdd domain prefix protocol) more = refl
row_found false (Is.MapDel domain prefix) more = refl
row_found false Is.MapList more = refl
row_found false Is.AcceptOn more = refl
row_found false Is.AcceptOff more = refl
row_found false (Is.UnlblAdd interface prefix range) more = refl
row_found false (Is.UnlblDel interface prefix) more = refl
row_found false Is.UnlblList more = refl
row_found false (Is.ReceiverAdd address home range) more = refl
row_found false (Is.ReceiverDel address) more = refl
row_found false (Is.RangeAdd interface range) more = refl
row_found false (Is.RangeDel interface) more = refl
row_found false (Is.PairAdd four six) more = refl
row_found false (Is.PairDel four) more = refl
row_found false Is.MgmtVersion more = refl
row_found false Is.MgmtProtocols more = refl

texts_placed : (place : ℕ) (texts : List (List ℕ)) → map (λ word. word.text) (placed place texts) ≡ texts
texts_placed place [] = refl
texts_placed place (text ∷ texts) = ap (λ ts. text ∷ ts) (texts_placed (place + length text + 1) texts)

end_of : ℕ → List (List ℕ) → ℕ
end_of place [] = place
end_of place (text ∷ texts) = end_of (place + length text + 1) texts

drop_placed : (place : ℕ) (front more : List (List ℕ)) → drop (length front) (placed place (front ++ more)) ≡ placed (end_of place front) more
unfolding end_of
drop_placed place [] more = refl
drop_placed place (text ∷ front) more = drop_placed (place + length text + 1) front more

said_back : (led : Bool) (end place : ℕ) (command : Command) → IsCommand command → read_said with_translations (line_rows led with_translations) end (placed place (texts_of_said (said_of command))) ≡ Ok (said_of command)
said_back led end place command is =
    let said = said_of command in
    let row = said.row in
    let fields = said.fields in
    let fixed = (form_of with_translations row).fixed in
    let slots = (form_of with_translations row).slots in
    let rows = line_rows led with_translations in
    let more = given_words slots fields in
    let words = placed place (fixed ++ more) in
    let stop = unfit_or_missing end (drop (fold max 0 (map (shared_words with_translations words) rows)) words) in
    let missing : LineStop = fault end Kind.Missing in
    let done : Fields → Result Fields LineStop = λ f. cond (is_complete slots f) (Ok f) (Err missing) in
    let made : Row → Fields → Result Said LineStop = λ r f. Ok (record { row = r; fields = f }) in
    let goes : Row → Result Said LineStop = λ r. and_next (read_fields with_translations (form_of with_translations r).slots end (drop (length (form_of with_translations r).fixed) words)) (made r) in
    let w = whole command in
    let read_texts = texts_placed place (fixed ++ more) in
    let row_read : read_row with_translations rows end words ≡ Ok row =
    (λ i. ok_or (find (λ r. nat_eq (common_prefix_len is_spelled (form_of with_translations r).fixed (read_texts i)) (length (form_of with_translations r).fixed)) rows) stop)
    ∙ ap (λ o. ok_or o stop) (row_found led command more) in
    let all_read = words_back slots slots (end_of place fixed) fields no_fields (keys_found with_translations row) is w.fresh in
    let fields_read : read_fields with_translations slots end (drop (length fixed) words) ≡ Ok fields =
    ap (λ ws. and_next (with_words with_translations slots ws no_fields) done) (drop_placed place fixed more) ∙ ap (λ r. and_next r done) (all_read ∙ ap Ok w.same) ∙ cond-true (is_complete slots fields) (Ok fields) (Err missing) w.complete in
    ap (λ r. and_next r goes) row_read ∙ ap (λ r. and_next r (made row)) fields_read

pub written_back : (led : Bool) (end : ℕ) (blanks : List ℕ) (command : Command) → All (λ octet. IsTrue (is_blank octet)) blanks → IsCommand command
    → read_said with_translations (line_rows led with_translations) end (words_of_line (blanks ++ command_text command)) ≡ Ok (said_of command)
written_back led end blanks command in_front is =
    ap (read_said with_translations (line_rows led with_translations) end) (written_words blanks command in_front is) ∙ said_back led end (length blanks) command is
