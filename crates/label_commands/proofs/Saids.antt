-- What a line of the table says is within its bounds.
use Rattle.std.proofs.Common.{◌≡◌, ℕ, ◌<◌, Bool, true, false, cond, not, List, [], ◌∷◌, length, drop, Option, Some, None, ok_or, Result, Ok, Err, refl, subst, arith, All}
use Rattle.std.specs.Prelude.{◌==◌, ◌&&◌, IfSome, nat_eq, unwrap_or}
use Rattle.std.specs.List.{after_first}
use Rattle.std.proofs.lemmas.List.Elements.{All-nil, All-weaker}
use Rattle.std.proofs.lemmas.Option.{none-some, same_Some, cond_some, option_and_then_some}
use Rattle.mls_range.specs.Range.{LabelRange}
use Rattle.script_lines.specs.declared.stop.ScriptKind.TheVariants as Kind
use Rattle.script_lines.specs.declared.stop.LineStop.{LineStop}
use Rattle.script_lines.specs.Word.{LineWord}
use Rattle.script_lines.specs.Stop.{fault, and_next}
use Rattle.label_commands.specs.declared.node_readings.fault.ReadingFault.{ReadingFault}
use Rattle.label_commands.specs.declared.node_readings.fault.ReadingFault.TheVariants.{NotIncreasing, NotDistinct}
use Rattle.label_commands.specs.node_readings.Reading.{NamedMeanings, is_increasing, names_once, is_distinct, reading_fault, IsReading}
use Rattle.script_lines.specs.command_values.Doi.{is_doi}
use Rattle.script_lines.specs.command_values.Pairs.{pair_of_text, IsPairWithin}
use Rattle.script_lines.specs.command_values.Ranges.{IsMlsRange}
use Rattle.script_lines.specs.declared.row.Row.{Row}
use Rattle.script_lines.specs.declared.row.Row.TheVariants as In
use Rattle.script_lines.specs.declared.parameter.Parameter.{Parameter}
use Rattle.script_lines.specs.declared.parameter.Parameter.TheVariants.{Doi, Tags, Levels, Categories, Domain, Interface, Prefix, Protocol, Label, Address, Home, Level, Range, Four, Six, ReadingLevels, ReadingCategories}
use Rattle.script_lines.specs.declared.form.Slot.{Slot}
use Rattle.script_lines.specs.declared.fields.Fields.{Fields}
use Rattle.script_lines.specs.declared.said.Said.{Said}
use Rattle.script_lines.specs.Form.{Edition, form_of, line_rows}
use Rattle.script_lines.specs.Fields.{no_fields, is_given, fields_with, with_value}
use Rattle.script_lines.specs.Said.{key_of, slot_of, with_parameter, with_word, with_words, is_complete, read_row, read_fields, read_said}
use Rattle.script_lines.specs.declared.command.Command.{Command}
use Rattle.script_lines.specs.declared.command.Command.TheVariants.{CipsoAddPass, CipsoAddTrans, CalipsoAddPass, CalipsoAddTrans, UnlblAdd, ReceiverAdd, RangeAdd}
use Rattle.script_lines.specs.Command.{command_of}
use Rattle.script_lines.specs.Bounded.{IsBounded}
use Rattle.label_commands.specs.Line.{named_by, reading_stop, read_meanings, behind_tool, read_led}
use Rattle.label_commands.proofs.Results.{same_ok, not_ok, went, ok_or_went}
use Rattle.label_commands.proofs.Values.{doi_within, pair_within, list_within, range_within, static_within, receiver_within, if_said, said_is}

-- ---- the parameters

pub record AreWithin (doi : Option ℕ) (levels categories : Option (List (ℕ × ℕ))) (label level range : Option LabelRange) (named : Option (List (ℕ × ℕ))) : Type 0 where
  pub doi_is : IfSome doi (λ d. is_doi d ≡ true)
  pub levels_are : IfSome levels (All (IsPairWithin 255 255))
  pub categories_are : IfSome categories (All (IsPairWithin 65534 65534))
  pub label_is : IfSome label IsMlsRange
  pub level_is : IfSome level IsMlsRange
  pub range_is : IfSome range IsMlsRange
  pub named_are : IfSome named (All (IsPairWithin 65534 4294967295))

-- each value that there is is within its bounds
abbrev pub AreFieldsWithin : Fields → Type 0
AreFieldsWithin f = AreWithin f.doi f.levels f.categories f.label f.level f.range f.reading_categories

none_within : AreFieldsWithin no_fields
none_within = record { doi_is = tt; levels_are = tt; categories_are = tt; label_is = tt; level_is = tt; range_is = tt; named_are = tt }

field_within : (edition : Edition) (parameter : Parameter) (key text : List ℕ) (f : Fields) → AreFieldsWithin f → AreFieldsWithin (fields_with edition parameter key text f)
field_within edition Doi key text f is = record { doi_is = if_said (λ d. is_doi d ≡ true) _ (doi_within text); levels_are = is.levels_are; categories_are = is.categories_are; label_is = is.label_is; level_is = is.level_is; range_is = is.range_is; named_are = is.named_are }
field_within edition Tags key text f is = is
field_within edition Levels key text f is = record { doi_is = is.doi_is; levels_are = if_said (All (IsPairWithin 255 255)) _ (list_within (IsPairWithin 255 255) (pair_of_text 255 255) (pair_within 255 255) text); categories_are = is.categories_are; label_is = is.label_is; level_is = is.level_is; range_is = is.range_is; named_are = is.named_are }
field_within edition Categories key text f is = record { doi_is = is.doi_is; levels_are = is.levels_are; categories_are = if_said (All (IsPairWithin 65534 65534)) _ (list_within (IsPairWithin 65534 65534) (pair_of_text 65534 65534) (pair_within 65534 65534) text); label_is = is.label_is; level_is = is.level_is; range_is = is.range_is; named_are = is.named_are }
field_within edition Domain key text f is = is
field_within edition Interface key text f is = is
field_within edition Prefix key text f is = is
field_within edition Protocol key text f is = is
field_within edition Label key text f is = record { doi_is = is.doi_is; levels_are = is.levels_are; categories_are = is.categories_are; label_is = if_said IsMlsRange _ (static_within edition text); level_is = is.level_is; range_is = is.range_is; named_are = is.named_are }
field_within edition Address key text f is = is
field_within edition Home key text f is = is
field_within edition Level key text f is = record { doi_is = is.doi_is; levels_are = is.levels_are; categories_are = is.categories_are; label_is = is.label_is; level_is = if_said IsMlsRange _ (receiver_within edition text); range_is = is.range_is; named_are = is.named_are }
field_within edition Range key text f is = record { doi_is = is.doi_is; levels_are = is.levels_are; categories_are = is.categories_are; label_is = is.label_is; level_is = is.level_is; range_is = if_said IsMlsRange _ (range_within text); named_are = is.named_are }
field_within edition Four key text f is = is
field_within edition Six key text f is = is
field_within edition ReadingLevels key text f is = is
field_within edition ReadingCategories key text f is = record { doi_is = is.doi_is; levels_are = is.levels_are; categories_are = is.categories_are; label_is = is.label_is; level_is = is.level_is; range_is = is.range_is; named_are = if_said (All (IsPairWithin 65534 4294967295)) _ (list_within (IsPairWithin 65534 4294967295) (pair_of_text 65534 4294967295) (pair_within 65534 4294967295) text) }

value_within : (edition : Edition) (parameter : Parameter) (key text : List ℕ) (from to : Fields) → AreFieldsWithin from → with_value edition parameter key text from ≡ Some to → AreFieldsWithin to
value_within edition parameter key text from to is e =
    let read = fields_with edition parameter key text from in
    subst AreFieldsWithin (cond_some (is_given parameter read) read to e).1 (field_within edition parameter key text from is)

parameter_within : (edition : Edition) (parameter : Parameter) (word : LineWord) (from to : Fields) → AreFieldsWithin from → with_parameter edition parameter word from ≡ Ok to → AreFieldsWithin to
parameter_within edition parameter word from to is e = by_test (is_given parameter from) e where
  by_test : (came : Bool) → ◌≡◌ {A = Result Fields LineStop} (cond came (Err (fault word.at Kind.Word)) (ok_or (with_value edition parameter (key_of word.text) (after_first (λ c. c == 58) word.text) from) (fault word.at Kind.Value))) (Ok to) → AreFieldsWithin to
  by_test true h = absurd (not_ok to _ h)
  by_test false h = value_within edition parameter _ _ from to is (ok_or_went _ _ to h)

word_within : (edition : Edition) (slots : List Slot) (word : LineWord) (from to : Fields) → AreFieldsWithin from → with_word edition slots word from ≡ Ok to → AreFieldsWithin to
word_within edition slots word from to is e = by_test (nat_eq (length slots) 0) e where
  by_test : (none : Bool) → ◌≡◌ {A = Result Fields LineStop} (cond none (Err (fault word.at Kind.Extra)) (and_next (ok_or (slot_of slots (key_of word.text)) (fault word.at Kind.Word)) (λ slot. with_parameter edition slot.parameter word from))) (Ok to) → AreFieldsWithin to
  by_test true h = absurd (not_ok to _ h)
  by_test false h = let w = went (ok_or (slot_of slots (key_of word.text)) (fault word.at Kind.Word)) (λ slot. with_parameter edition slot.parameter word from) to h in parameter_within edition w.0.parameter word from to is w.2

words_within : (edition : Edition) (slots : List Slot) (words : List LineWord) (from to : Fields) → AreFieldsWithin from → with_words edition slots words from ≡ Ok to → AreFieldsWithin to
words_within edition slots [] from to is e = subst AreFieldsWithin (same_ok from to e) is
words_within edition slots (word ∷ words) from to is e =
    let w = went (with_word edition slots word from) (with_words edition slots words) to e in
    words_within edition slots words w.0 to (word_within edition slots word from w.0 is w.1) w.2

fields_within : (edition : Edition) (slots : List Slot) (end : ℕ) (words : List LineWord) (to : Fields) → read_fields edition slots end words ≡ Ok to → AreFieldsWithin to
fields_within edition slots end words to e =
    let w = went (with_words edition slots words no_fields) (λ fields. cond (is_complete slots fields) (Ok fields) (Err (fault end Kind.Missing))) to e in
    by_test w.0 (is_complete slots w.0) (words_within edition slots words no_fields w.0 none_within w.1) w.2
  where
    by_test : (fields : Fields) (whole : Bool) → AreFieldsWithin fields → ◌≡◌ {A = Result Fields LineStop} (cond whole (Ok fields) (Err (fault end Kind.Missing))) (Ok to) → AreFieldsWithin to
    by_test fields true is h = subst AreFieldsWithin (same_ok fields to h) is
    by_test fields false is h = absurd (not_ok to _ h)

said_within : (edition : Edition) (rows : List Row) (end : ℕ) (words : List LineWord) (said : Said) → read_said edition rows end words ≡ Ok said → AreFieldsWithin said.fields
said_within edition rows end words said e =
    let made : Row → Fields → Said = λ row fields. record { row = row; fields = fields } in
    let fields_of : Row → Result Fields LineStop = λ row. read_fields edition (form_of edition row).slots end (drop (length (form_of edition row).fixed) words) in
    let row = went (read_row edition rows end words) (λ r. and_next (fields_of r) (λ fields. Ok (made r fields))) said e in
    let fields = went (fields_of row.0) (λ f. Ok (made row.0 f)) said row.2 in
    subst (λ (s : Said). AreFieldsWithin s.fields) (same_ok (made row.0 fields.0) said fields.2) (fields_within edition (form_of edition row.0).slots end _ fields.0 fields.1)

pub led_within : (edition : Edition) (end : ℕ) (words : List LineWord) (said : Said) → read_led edition end words ≡ Ok said → AreFieldsWithin said.fields
unfolding read_led
led_within edition end words said e = by_tool (behind_tool words) e where
  by_tool : (o : Option (List LineWord)) → ◌≡◌ {A = Result Said LineStop} (elim o as (λ _. Result Said LineStop) [
    | Some rest ↦ read_said edition (line_rows true edition) end rest
    | None ↦ read_said edition (line_rows false edition) end words
  ]) (Ok said) → AreFieldsWithin said.fields
  by_tool (Some rest) h = said_within edition (line_rows true edition) end rest said h
  by_tool None h = said_within edition (line_rows false edition) end words said h

-- ---- the command

made : (command other : Command) → IsBounded command → Some command ≡ Some other → IsBounded other
made command other is e = subst IsBounded (same_Some command other e) is

pub command_within : (row : Row) (f : Fields) (command : Command) → AreFieldsWithin f → command_of row f ≡ Some command → IsBounded command
command_within In.CipsoAddPass f command is e =
    option_and_then_some _ f.doi command e (λ doi d h. option_and_then_some _ f.tags command h (λ tags t k. made (CipsoAddPass doi tags) command (said_is (λ x. is_doi x ≡ true) f.doi doi is.doi_is d) k))
command_within In.CipsoAddTrans f command is e =
    option_and_then_some _ f.doi command e (λ doi d h. option_and_then_some _ f.tags command h (λ tags t k. option_and_then_some _ f.levels command k (λ levels l m.
    made (CipsoAddTrans doi tags levels f.categories) command (said_is (λ x. is_doi x ≡ true) f.doi doi is.doi_is d, (said_is (All (IsPairWithin 255 255)) f.levels levels is.levels_are l, is.categories_are)) m)))
command_within In.CalipsoAddPass f command is e =
    option_and_then_some _ f.doi command e (λ doi d h. made (CalipsoAddPass doi) command (said_is (λ x. is_doi x ≡ true) f.doi doi is.doi_is d) h)
command_within In.CalipsoAddTrans f command is e =
    option_and_then_some _ f.doi command e (λ doi d h. option_and_then_some _ f.levels command h (λ levels l m.
    made (CalipsoAddTrans doi levels f.categories) command (said_is (λ x. is_doi x ≡ true) f.doi doi is.doi_is d, (said_is (All (IsPairWithin 255 255)) f.levels levels is.levels_are l, is.categories_are)) m))
command_within In.CipsoDel f command is e = option_and_then_some _ f.doi command e (λ doi d h. made _ command tt h)
command_within In.CalipsoDel f command is e = option_and_then_some _ f.doi command e (λ doi d h. made _ command tt h)
command_within In.CipsoList f command is e = made _ command tt e
command_within In.CalipsoList f command is e = made _ command tt e
command_within In.MapAdd f command is e = option_and_then_some _ f.domain command e (λ domain d h. option_and_then_some _ f.protocol command h (λ protocol p k. made _ command tt k))
command_within In.MapDel f command is e = option_and_then_some _ f.domain command e (λ domain d h. made _ command tt h)
command_within In.MapList f command is e = made _ command tt e
command_within In.AcceptOn f command is e = made _ command tt e
command_within In.AcceptOff f command is e = made _ command tt e
command_within In.UnlblAdd f command is e =
    option_and_then_some _ f.interface command e (λ interface i h. option_and_then_some _ f.prefix command h (λ prefix p k. option_and_then_some _ f.label command k (λ range r m.
    made (UnlblAdd interface prefix range) command (said_is IsMlsRange f.label range is.label_is r) m)))
command_within In.UnlblDel f command is e = option_and_then_some _ f.interface command e (λ interface i h. option_and_then_some _ f.prefix command h (λ prefix p k. made _ command tt k))
command_within In.UnlblList f command is e = made _ command tt e
command_within In.ReceiverAdd f command is e =
    option_and_then_some _ f.address command e (λ address a h. option_and_then_some _ f.home command h (λ home o k. option_and_then_some _ f.level command k (λ range r m.
    made (ReceiverAdd address home range) command (said_is IsMlsRange f.level range is.level_is r) m)))
command_within In.ReceiverDel f command is e = option_and_then_some _ f.address command e (λ address a h. made _ command tt h)
command_within In.RangeAdd f command is e = option_and_then_some _ f.interface command e (λ interface i h. option_and_then_some _ f.range command h (λ range r k.
    made (RangeAdd interface range) command (said_is IsMlsRange f.range range is.range_is r) k))
command_within In.RangeDel f command is e = option_and_then_some _ f.interface command e (λ interface i h. made _ command tt h)
command_within In.PairAdd f command is e = option_and_then_some _ f.four command e (λ four o h. option_and_then_some _ f.six command h (λ six s k. made _ command tt k))
command_within In.PairDel f command is e = option_and_then_some _ f.four command e (λ four o h. made _ command tt h)
command_within In.MgmtVersion f command is e = made _ command tt e
command_within In.MgmtProtocols f command is e = made _ command tt e
command_within In.Reading f command is e = absurd (none-some command e)

-- ---- the reading

no_fault : (named : NamedMeanings) → All (λ (p : ℕ × ℕ). p.0 < 65535) named.cats → reading_fault named.levels named.cats ≡ None → IsReading named
no_fault named categories e = by_tests (is_increasing named.levels) (names_once named.levels) (is_distinct named.cats) refl refl refl e where
  by_tests : (a b c : Bool) → is_increasing named.levels ≡ a → names_once named.levels ≡ b → is_distinct named.cats ≡ c
      → cond (not a) (Some NotIncreasing) (cond (b && c) None (Some NotDistinct)) ≡ None → IsReading named
  by_tests true true true a b c h = record { increasing = a; levels_once = b; distinct = c; categories = categories }
  by_tests true true false a b c h = absurd (cc)
  by_tests true false c a b is h = absurd (cc)
  by_tests false b c a is what h = absurd (cc)

categories_within : (value : Option (List (ℕ × ℕ))) → IfSome value (All (IsPairWithin 65534 4294967295)) → All (λ (p : ℕ × ℕ). p.0 < 65535) (unwrap_or value [])
categories_within None is = All-nil (λ (p : ℕ × ℕ). p.0 < 65535)
categories_within (Some pairs) is = All-weaker (IsPairWithin 65534 4294967295) (λ (p : ℕ × ℕ). p.0 < 65535) (λ p small. omega (arith, small.0)) pairs is

pub meanings_within : (place : ℕ) (f : Fields) (named : NamedMeanings) → AreFieldsWithin f → read_meanings place (named_by f) ≡ Ok named → IsReading named
meanings_within place f named is e = by_fault (reading_fault (named_by f).levels (named_by f).cats) refl e where
  by_fault : (o : Option ReadingFault) → reading_fault (named_by f).levels (named_by f).cats ≡ o
      → ◌≡◌ {A = Result NamedMeanings LineStop} (elim o as (λ _. Result NamedMeanings LineStop) [ Some unread ↦ Err (reading_stop place unread) | None ↦ Ok (named_by f) ]) (Ok named) → IsReading named
  by_fault (Some unread) found h = absurd (not_ok named _ h)
  by_fault None found h = subst IsReading (same_ok (named_by f) named h) (no_fault (named_by f) (categories_within f.reading_categories is.named_are) found)
