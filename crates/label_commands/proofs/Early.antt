-- What a line of an edition says is a command of that edition.
use Rattle.std.proofs.Common.{◌≡◌, ℕ, Bool, true, false, cond, ◌&&◌, List, [], ◌∷◌, length, drop, Option, Some, None, ok_or, Result, Ok, Err, refl, sym, subst, ap, ◌∙◌}
use Rattle.std.specs.Prelude.{◌==◌, find}
use Rattle.std.specs.List.{after_first, list_all}
use Rattle.std.proofs.lemmas.Bool.{false≢true}
use Rattle.std.proofs.lemmas.Option.{none-some, same_Some, cond_some, option_and_then_some}
use Rattle.script_lines.specs.declared.stop.ScriptKind.TheVariants as Kind
use Rattle.script_lines.specs.declared.stop.LineStop.{LineStop}
use Rattle.script_lines.specs.Word.{LineWord}
use Rattle.script_lines.specs.Stop.{fault, and_next}
use Rattle.domain_map.specs.address_text.Prefix.{AddressBlock}
use Rattle.script_lines.specs.declared.row.Row.{Row}
use Rattle.script_lines.specs.declared.row.Row.TheVariants as In
use Rattle.script_lines.specs.declared.parameter.Parameter.TheVariants.{Domain}
use Rattle.script_lines.specs.declared.form.Slot.{Slot}
use Rattle.script_lines.specs.declared.fields.Fields.{Fields}
use Rattle.script_lines.specs.declared.said.Said.{Said}
use Rattle.script_lines.specs.Form.{Edition, with_labels, with_ranges, with_translations, must, form_of, line_rows, is_key}
use Rattle.script_lines.specs.Fields.{no_fields, is_given, fields_with, with_value}
use Rattle.script_lines.specs.Said.{fits_row, key_of, slot_of, with_parameter, with_word, with_words, is_complete, read_row, read_fields, read_said}
use Rattle.script_lines.specs.declared.command.Command.{Command}
use Rattle.script_lines.specs.declared.command.Command.TheVariants.{MapDel}
use Rattle.script_lines.specs.Command.{command_of}
use Rattle.label_commands.specs.Editions.{is_early, has_command}
use Rattle.label_commands.specs.Line.{behind_tool, read_led}
use Rattle.label_commands.proofs.Results.{same_ok, not_ok, went, ok_or_went}

-- ---- the row

abbrev is_early_row : Row → Bool
is_early_row In.CalipsoAddTrans = false
is_early_row row = true

found_in : (p q : Row → Bool) (rows : List Row) (row : Row) → list_all q rows ≡ true → find p rows ≡ Some row → q row ≡ true
found_in p q [] row all e = absurd (none-some row e)
found_in p q (x ∷ rows) row all e = by_tests (p x) (q x) refl all e (found_in p q rows row) where
  by_tests : (t a : Bool) → q x ≡ a → (a && list_all q rows) ≡ true → cond t (Some x) (find p rows) ≡ Some row
      → (list_all q rows ≡ true → find p rows ≡ Some row → q row ≡ true) → q row ≡ true
  by_tests t false is all e behind = absurd (false≢true all)
  by_tests true true is all e behind = ap q (sym (same_Some x row e)) ∙ is
  by_tests false true is all e behind = behind all e

-- ---- the parameters of `map del`

domain_alone : (edition : Edition) (word : LineWord) (from to : Fields) → with_parameter edition Domain word from ≡ Ok to → from.prefix ≡ to.prefix
domain_alone edition word from to e = by_test (is_given Domain from) e where
  by_test : (came : Bool) → ◌≡◌ {A = Result Fields LineStop} (cond came (Err (fault word.at Kind.Word)) (ok_or (with_value edition Domain (key_of word.text) (after_first (λ c. c == 58) word.text) from) (fault word.at Kind.Value))) (Ok to) → from.prefix ≡ to.prefix
  by_test true h = absurd (not_ok to _ h)
  by_test false h =
      let read : Fields = fields_with edition Domain (key_of word.text) (after_first (λ c. c == 58) word.text) from in
      ap (λ (f : Fields). f.prefix) (cond_some (is_given Domain read) read to (ok_or_went _ _ to h)).1

abbrev domain_slots : List Slot
domain_slots = must Domain ∷ []

word_alone : (edition : Edition) (word : LineWord) (from to : Fields) → with_word edition domain_slots word from ≡ Ok to → from.prefix ≡ to.prefix
word_alone edition word from to e =
    let w = went (ok_or (slot_of domain_slots (key_of word.text)) (fault word.at Kind.Word)) (λ slot. with_parameter edition slot.parameter word from) to e in
    let slot : must Domain ≡ w.0 = (cond_some (is_key Domain (key_of word.text)) (must Domain) w.0 (ok_or_went (slot_of domain_slots (key_of word.text)) _ w.0 w.1)).1 in
    domain_alone edition word from to (subst (λ (s : Slot). with_parameter edition s.parameter word from ≡ Ok to) (sym slot) w.2)

words_alone : (edition : Edition) (words : List LineWord) (from to : Fields) → with_words edition domain_slots words from ≡ Ok to → from.prefix ≡ to.prefix
words_alone edition [] from to e = ap (λ (f : Fields). f.prefix) (same_ok from to e)
words_alone edition (word ∷ words) from to e =
    let w = went (with_word edition domain_slots word from) (with_words edition domain_slots words) to e in
    word_alone edition word from w.0 w.1 ∙ words_alone edition words w.0 to w.2

fields_alone : (edition : Edition) (end : ℕ) (words : List LineWord) (to : Fields) → read_fields edition domain_slots end words ≡ Ok to → to.prefix ≡ None
fields_alone edition end words to e =
    let w = went (with_words edition domain_slots words no_fields) (λ fields. cond (is_complete domain_slots fields) (Ok fields) (Err (fault end Kind.Missing))) to e in
    by_test w.0 (is_complete domain_slots w.0) (words_alone edition words no_fields w.0 w.1) w.2
  where
    by_test : (fields : Fields) (whole : Bool) → no_fields.prefix ≡ fields.prefix → ◌≡◌ {A = Result Fields LineStop} (cond whole (Ok fields) (Err (fault end Kind.Missing))) (Ok to) → to.prefix ≡ None
    by_test fields true is h = ap (λ (f : Fields). f.prefix) (sym (same_ok fields to h)) ∙ sym is
    by_test fields false is h = absurd (not_ok to _ h)

-- ---- the command

made : (command other : Command) → is_early command ≡ true → Some command ≡ Some other → is_early other ≡ true
made command other is e = ap is_early (sym (same_Some command other e)) ∙ is

early_command : (row : Row) (f : Fields) (command : Command) → is_early_row row ≡ true → (row ≡ In.MapDel → f.prefix ≡ None) → command_of row f ≡ Some command → is_early command ≡ true
early_command In.CipsoAddPass f command row alone e = option_and_then_some _ f.doi command e (λ doi d h. option_and_then_some _ f.tags command h (λ tags t k. made _ command refl k))
early_command In.CipsoAddTrans f command row alone e =
    option_and_then_some _ f.doi command e (λ doi d h. option_and_then_some _ f.tags command h (λ tags t k. option_and_then_some _ f.levels command k (λ levels l m. made _ command refl m)))
early_command In.CalipsoAddPass f command row alone e = option_and_then_some _ f.doi command e (λ doi d h. made _ command refl h)
early_command In.CalipsoAddTrans f command row alone e = absurd (false≢true row)
early_command In.CipsoDel f command row alone e = option_and_then_some _ f.doi command e (λ doi d h. made _ command refl h)
early_command In.CalipsoDel f command row alone e = option_and_then_some _ f.doi command e (λ doi d h. made _ command refl h)
early_command In.CipsoList f command row alone e = made _ command refl e
early_command In.CalipsoList f command row alone e = made _ command refl e
early_command In.MapAdd f command row alone e = option_and_then_some _ f.domain command e (λ domain d h. option_and_then_some _ f.protocol command h (λ protocol p k. made _ command refl k))
early_command In.MapDel f command row alone e =
    option_and_then_some _ f.domain command e (λ domain d h. made (MapDel domain None) command refl (ap (λ (prefix : Option AddressBlock). Some (MapDel domain prefix)) (sym (alone refl)) ∙ h))
early_command In.MapList f command row alone e = made _ command refl e
early_command In.AcceptOn f command row alone e = made _ command refl e
early_command In.AcceptOff f command row alone e = made _ command refl e
early_command In.UnlblAdd f command row alone e =
    option_and_then_some _ f.interface command e (λ interface i h. option_and_then_some _ f.prefix command h (λ prefix p k. option_and_then_some _ f.label command k (λ range r m. made _ command refl m)))
early_command In.UnlblDel f command row alone e = option_and_then_some _ f.interface command e (λ interface i h. option_and_then_some _ f.prefix command h (λ prefix p k. made _ command refl k))
early_command In.UnlblList f command row alone e = made _ command refl e
early_command In.ReceiverAdd f command row alone e =
    option_and_then_some _ f.address command e (λ address a h. option_and_then_some _ f.home command h (λ home o k. option_and_then_some _ f.level command k (λ range r m. made _ command refl m)))
early_command In.ReceiverDel f command row alone e = option_and_then_some _ f.address command e (λ address a h. made _ command refl h)
early_command In.RangeAdd f command row alone e = option_and_then_some _ f.interface command e (λ interface i h. option_and_then_some _ f.range command h (λ range r k. made _ command refl k))
early_command In.RangeDel f command row alone e = option_and_then_some _ f.interface command e (λ interface i h. made _ command refl h)
early_command In.PairAdd f command row alone e = option_and_then_some _ f.four command e (λ four o h. option_and_then_some _ f.six command h (λ six s k. made _ command refl k))
early_command In.PairDel f command row alone e = option_and_then_some _ f.four command e (λ four o h. made _ command refl h)
early_command In.MgmtVersion f command row alone e = made _ command refl e
early_command In.MgmtProtocols f command row alone e = made _ command refl e
early_command In.Reading f command row alone e = absurd (none-some command e)

-- ---- the line

-- what it makes, if that is a command, is one of the edition
abbrev pub HasSaid : Edition → Said → Type 0
HasSaid edition said = (command : Command) → command_of said.row said.fields ≡ Some command → has_command edition command ≡ true

abbrev EarlySaid : Said → Type 0
EarlySaid said = (command : Command) → command_of said.row said.fields ≡ Some command → is_early command ≡ true

said_early : (edition : Edition) (rows : List Row) (end : ℕ) (words : List LineWord) (said : Said) → (form_of edition In.MapDel).slots ≡ domain_slots → list_all is_early_row rows ≡ true
    → read_said edition rows end words ≡ Ok said → EarlySaid said
said_early edition rows end words said slots all e =
    let made_of : Row → Fields → Said = λ row fields. record { row = row; fields = fields } in
    let fields_of : Row → Result Fields LineStop = λ row. read_fields edition (form_of edition row).slots end (drop (length (form_of edition row).fixed) words) in
    let row = went (read_row edition rows end words) (λ r. and_next (fields_of r) (λ fields. Ok (made_of r fields))) said e in
    let fields = went (fields_of row.0) (λ f. Ok (made_of row.0 f)) said row.2 in
    let early : is_early_row row.0 ≡ true = found_in (fits_row edition words) is_early_row rows row.0 all (ok_or_went (find (fits_row edition words) rows) _ row.0 row.1) in
    let alone : row.0 ≡ In.MapDel → fields.0.prefix ≡ None = λ is.
    let behind : List LineWord = drop (length (form_of edition row.0).fixed) words in
    let same : (form_of edition row.0).slots ≡ domain_slots = ap (λ (r : Row). (form_of edition r).slots) is ∙ slots in
    fields_alone edition end behind fields.0 (ap (λ (s : List Slot). read_fields edition s end behind) (sym same) ∙ fields.1) in
    subst EarlySaid (same_ok (made_of row.0 fields.0) said fields.2) (λ command. early_command row.0 fields.0 command early alone)

module _ (edition : Edition) (slots : (form_of edition In.MapDel).slots ≡ domain_slots) (led : list_all is_early_row (line_rows true edition) ≡ true) (alone : list_all is_early_row (line_rows false edition) ≡ true) where
  early_led : (end : ℕ) (words : List LineWord) (said : Said) → read_led edition end words ≡ Ok said → EarlySaid said
  unfolding read_led
  early_led end words said e = by_tool (behind_tool words) e where
    by_tool : (o : Option (List LineWord)) → ◌≡◌ {A = Result Said LineStop} (elim o as (λ _. Result Said LineStop) [
      | Some rest ↦ read_said edition (line_rows true edition) end rest
      | None ↦ read_said edition (line_rows false edition) end words
    ]) (Ok said) → EarlySaid said
    by_tool (Some rest) h = said_early edition (line_rows true edition) end rest said slots led h
    by_tool None h = said_early edition (line_rows false edition) end words said slots alone h

pub led_has : (edition : Edition) (end : ℕ) (words : List LineWord) (said : Said) → read_led edition end words ≡ Ok said → HasSaid edition said
led_has with_labels end words said e = early_led with_labels refl refl refl end words said e
led_has with_ranges end words said e = early_led with_ranges refl refl refl end words said e
led_has with_translations end words said e = λ command is. refl
