-- What an edition reads, the next one reads alike.
use Rattle.std.proofs.Common.{◌≡◌, ℕ, Bool, true, false, cond, List, [], ◌∷◌, ◌++◌, length, drop, map, Option, Some, None, Result, Ok, Err, refl, sym, ap, ◌∙◌, arith, nat_eq}
use Rattle.std.specs.Prelude.{◌==◌, is_some, find, fold, max, ok_or, not, ◌||◌}
use Rattle.std.specs.List.{after_first, common_prefix_len}
use Rattle.std.specs.Option.{option_or}
use Rattle.std.proofs.lemmas.Bool.{and_from, cond-true, cond-false, ne_eqb}
use Rattle.std.proofs.lemmas.List.Folds.{find-append, list_all-append}
use Rattle.std.proofs.lemmas.Option.{none-some}
use Rattle.mls_range.specs.Range.{LabelRange}
use Rattle.script_lines.specs.declared.stop.ScriptKind.TheVariants.{Word, Value, Extra, Missing}
use Rattle.script_lines.specs.declared.stop.LineStop.{LineStop}
use Rattle.script_lines.specs.Word.{LineWord}
use Rattle.script_lines.specs.Stop.{fault, and_next}
use Rattle.script_lines.proofs.command_values.Law.{labels_stay_static_ranges, labels_stay_receiver_ranges}
use Rattle.script_lines.specs.declared.row.Row.{Row}
use Rattle.script_lines.specs.declared.row.Row.TheVariants.{CipsoAddPass, CipsoAddTrans, CalipsoAddPass, CipsoDel, CalipsoDel, CipsoList, CalipsoList, MapAdd, MapDel, MapList, AcceptOn, AcceptOff, UnlblAdd, UnlblDel, UnlblList, ReceiverAdd, ReceiverDel, RangeAdd, RangeDel, PairAdd, PairDel, MgmtVersion, MgmtProtocols, CalipsoAddTrans, Reading}
use Rattle.script_lines.specs.declared.parameter.Parameter.{Parameter}
use Rattle.script_lines.specs.declared.parameter.Parameter.TheVariants.{Doi, Tags, Levels, Categories, Domain, Interface, Prefix, Protocol, Label, Address, Home, Level, Range, Four, Six, ReadingLevels, ReadingCategories}
use Rattle.script_lines.specs.declared.form.Slot.{Slot}
use Rattle.script_lines.specs.declared.fields.Fields.{Fields}
use Rattle.script_lines.specs.declared.said.Said.{Said}
use Rattle.script_lines.specs.Form.{Edition, with_labels, with_ranges, with_translations, may, form_of, first_rows, line_rows, is_key}
use Rattle.script_lines.specs.Fields.{no_fields, is_given, static_by, receiver_by, with_value}
use Rattle.script_lines.specs.Said.{is_spelled, shared_words, fits_row, unfit_or_missing, read_row, key_of, slot_of, with_parameter, with_word, with_words, is_complete, read_fields, read_said}

-- ---- results

ok_there : {X : Type 0} (found : Option X) (stop : LineStop) (x : X) → ok_or found stop ≡ Ok x → found ≡ Some x
ok_there None stop x e = cc
ok_there (Some y) stop x e = let same : y ≡ x = cc in ap Some same

-- what a first step gave, and what followed from it
pub then_ok : {X Y P : Type 0} (first : Result X LineStop) (next : X → Result Y LineStop) (y : Y) → and_next first next ≡ Ok y → ((x : X) → first ≡ Ok x → next x ≡ Ok y → P) → P
then_ok (Ok x) next y e goes = goes x refl e
then_ok (Err stop) next y e goes = cc

then_some : {X Y P : Type 0} (found : Option X) (stop : LineStop) (next : X → Result Y LineStop) (y : Y) → and_next (ok_or found stop) next ≡ Ok y → ((x : X) → found ≡ Some x → next x ≡ Ok y → P) → P
then_some None stop next y e goes = cc
then_some (Some x) stop next y e goes = goes x refl e

-- ---- values

-- the fields with a value in its place, if there is one
abbrev pub put : {X : Type 0} → Option X → (Option X → Fields) → Option Fields
put value place = cond (is_some value) (Some (place value)) None

abbrev ReadsAlike : Edition → Edition → Type 0
ReadsAlike old new = ((text : List ℕ) (range : LabelRange) → static_by old text ≡ Some range → static_by new text ≡ Some range) × ((text : List ℕ) (range : LabelRange) → receiver_by old text ≡ Some range → receiver_by new text ≡ Some range)

put_alike : (old new : Option LabelRange) (place : Option LabelRange → Fields) (fields : Fields) → ((range : LabelRange) → old ≡ Some range → new ≡ Some range) → put old place ≡ Some fields → put new place ≡ Some fields
put_alike None new place fields alike e = absurd (none-some fields e)
put_alike (Some range) new place fields alike e = ap (λ o. put o place) (alike range refl) ∙ e

value_alike : (old new : Edition) (parameter : Parameter) (key text : List ℕ) (from to : Fields) → ReadsAlike old new → with_value old parameter key text from ≡ Some to → with_value new parameter key text from ≡ Some to
value_alike old new Doi key text from to alike e = e
value_alike old new Tags key text from to alike e = e
value_alike old new Levels key text from to alike e = e
value_alike old new Categories key text from to alike e = e
value_alike old new Domain key text from to alike e = e
value_alike old new Interface key text from to alike e = e
value_alike old new Prefix key text from to alike e = e
value_alike old new Protocol key text from to alike e = e
value_alike old new Label key text from to alike e = put_alike (static_by old text) (static_by new text) (λ v. record from { label = v }) to (alike.0 text) e
value_alike old new Address key text from to alike e = e
value_alike old new Home key text from to alike e = e
value_alike old new Level key text from to alike e = put_alike (receiver_by old text) (receiver_by new text) (λ v. record from { level = v }) to (alike.1 text) e
value_alike old new Range key text from to alike e = e
value_alike old new Four key text from to alike e = e
value_alike old new Six key text from to alike e = e
value_alike old new ReadingLevels key text from to alike e = e
value_alike old new ReadingCategories key text from to alike e = e

-- ---- parameters

by_given : (came : Bool) (old new : Option Fields) (twice wrong : LineStop) (to : Fields) → (old ≡ Some to → new ≡ Some to) → cond came (Err twice) (ok_or old wrong) ≡ Ok to → cond came (Err twice) (ok_or new wrong) ≡ Ok to
by_given true old new twice wrong to alike e = e
by_given false old new twice wrong to alike e = ap (λ o. ok_or o wrong) (alike (ok_there old wrong to e))

parameter_alike : (old new : Edition) (parameter : Parameter) (word : LineWord) (from to : Fields) → ReadsAlike old new → with_parameter old parameter word from ≡ Ok to → with_parameter new parameter word from ≡ Ok to
parameter_alike old new parameter word from to alike e =
    let key = key_of word.text in
    let text = after_first (λ c. c == 58) word.text in
    by_given (is_given parameter from) (with_value old parameter key text from) (with_value new parameter key text from) (fault word.at Word) (fault word.at Value) to (value_alike old new parameter key text from to alike) e

find_front : {X : Type 0} (p : X → Bool) (xs ys : List X) (x : X) → find p xs ≡ Some x → find p (xs ++ ys) ≡ Some x
find_front p xs ys x e = find-append p xs ys ∙ ap (λ o. option_or o (find p ys)) e

some_slots : (slot : Slot) (slots : List Slot) → nat_eq (length (slot ∷ slots)) 0 ≡ false
some_slots slot slots = ne_eqb (length (slot ∷ slots)) 0 (λ e. omega (arith, e))

word_alike : (old new : Edition) (slots more : List Slot) (word : LineWord) (from to : Fields) → ReadsAlike old new → with_word old slots word from ≡ Ok to → with_word new (slots ++ more) word from ≡ Ok to
word_alike old new [] more word from to alike e = cc
word_alike old new (slot ∷ slots) more word from to alike e =
    let key = key_of word.text in
    let none : LineStop = fault word.at Word in
    let extra : Result Fields LineStop = Err (fault word.at Extra) in
    let before : Slot → Result Fields LineStop = λ s. with_parameter old s.parameter word from in
    let after : Slot → Result Fields LineStop = λ s. with_parameter new s.parameter word from in
    let read = sym (cond-false _ extra (and_next (ok_or (slot_of (slot ∷ slots) key) none) before) (some_slots slot slots)) ∙ e in
    then_some (slot_of (slot ∷ slots) key) none before to read λ found found_is then.
    cond-false _ extra (and_next (ok_or (slot_of (slot ∷ (slots ++ more)) key) none) after) (some_slots slot (slots ++ more))
    ∙ ap (λ o. and_next (ok_or o none) after) (find_front (λ s. is_key s.parameter key) (slot ∷ slots) more found found_is)
    ∙ parameter_alike old new found.parameter word from to alike then

words_alike : (old new : Edition) (slots more : List Slot) (words : List LineWord) (from to : Fields) → ReadsAlike old new → with_words old slots words from ≡ Ok to → with_words new (slots ++ more) words from ≡ Ok to
words_alike old new slots more [] from to alike e = e
words_alike old new slots more (word ∷ words) from to alike e =
    then_ok (with_word old slots word from) (with_words old slots words) to e λ mid first rest.
    ap (λ r. and_next r (with_words new (slots ++ more) words)) (word_alike old new slots more word from mid alike first) ∙ words_alike old new slots more words mid to alike rest

if_ok : (test : Bool) (x y : Fields) (stop : LineStop) → cond test (Ok x) (Err stop) ≡ Ok y → (test ≡ true) × (x ≡ y)
if_ok true x y stop e = (refl, cc)
if_ok false x y stop e = cc

fields_alike : (old new : Edition) (slots more : List Slot) (end : ℕ) (words : List LineWord) (to : Fields) → ReadsAlike old new → ((fields : Fields) → is_complete more fields ≡ true) → read_fields old slots end words ≡ Ok to → read_fields new (slots ++ more) end words ≡ Ok to
fields_alike old new slots more end words to alike free e =
    let stop : LineStop = fault end Missing in
    let before : Fields → Result Fields LineStop = λ f. cond (is_complete slots f) (Ok f) (Err stop) in
    let after : Fields → Result Fields LineStop = λ f. cond (is_complete (slots ++ more) f) (Ok f) (Err stop) in
    then_ok (with_words old slots words no_fields) before to e λ fields words_is done.
    let parts = if_ok (is_complete slots fields) fields to stop done in
    let all = list_all-append (λ slot. not slot.must || is_given slot.parameter fields) slots more ∙ and_from (is_complete slots fields) (is_complete more fields) parts.0 (free fields) in
    ap (λ r. and_next r after) (words_alike old new slots more words no_fields fields alike words_is) ∙ cond-true (is_complete (slots ++ more) fields) (Ok fields) (Err stop) all ∙ ap Ok parts.1

-- ---- rows

fixed_same : (old new : Edition) (row : Row) → (form_of old row).fixed ≡ (form_of new row).fixed
fixed_same old new CipsoAddPass = refl
fixed_same old new CipsoAddTrans = refl
fixed_same old new CalipsoAddPass = refl
fixed_same old new CipsoDel = refl
fixed_same old new CalipsoDel = refl
fixed_same old new CipsoList = refl
fixed_same old new CalipsoList = refl
fixed_same old new MapAdd = refl
fixed_same old new MapDel = refl
fixed_same old new MapList = refl
fixed_same old new AcceptOn = refl
fixed_same old new AcceptOff = refl
fixed_same old new UnlblAdd = refl
fixed_same old new UnlblDel = refl
fixed_same old new UnlblList = refl
fixed_same old new ReceiverAdd = refl
fixed_same old new ReceiverDel = refl
fixed_same old new RangeAdd = refl
fixed_same old new RangeDel = refl
fixed_same old new PairAdd = refl
fixed_same old new PairDel = refl
fixed_same old new MgmtVersion = refl
fixed_same old new MgmtProtocols = refl
fixed_same old new CalipsoAddTrans = refl
fixed_same old new Reading = refl

row_alike : (old new : Edition) (rows more : List Row) (end : ℕ) (words : List LineWord) (row : Row) → read_row old rows end words ≡ Ok row → read_row new (rows ++ more) end words ≡ Ok row
row_alike old new rows more end words row e =
    let texts = map (λ word. word.text) words in
    let same : find (fits_row old words) rows ≡ find (fits_row new words) rows = λ i. find (λ r. nat_eq (common_prefix_len is_spelled (fixed_same old new r i) texts) (length (fixed_same old new r i))) rows in
    let found = sym same ∙ ok_there (find (fits_row old words) rows) _ row e in
    let stop = unfit_or_missing end (drop (fold max 0 (map (shared_words new words) (rows ++ more))) words) in
    ap (λ o. ok_or o stop) (find_front (fits_row new words) rows more row found)

-- what a later edition has more
record Grows (old new : Edition) : Type 0 where
  alike : ReadsAlike old new
  slots : Row → List Slot
  more : (row : Row) → (form_of new row).slots ≡ (form_of old row).slots ++ slots row
  free : (row : Row) (fields : Fields) → is_complete (slots row) fields ≡ true

said_alike : (old new : Edition) (rows more : List Row) (end : ℕ) (words : List LineWord) (said : Said) → Grows old new → read_said old rows end words ≡ Ok said → read_said new (rows ++ more) end words ≡ Ok said
said_alike old new rows more end words said grows e =
    let made : Row → Fields → Result Said LineStop = λ row fields. Ok (record { row = row; fields = fields }) in
    let before : Row → Result Said LineStop = λ row. and_next (read_fields old (form_of old row).slots end (drop (length (form_of old row).fixed) words)) (made row) in
    let after : Row → Result Said LineStop = λ row. and_next (read_fields new (form_of new row).slots end (drop (length (form_of new row).fixed) words)) (made row) in
    then_ok (read_row old rows end words) before said e λ row row_is rest.
    then_ok (read_fields old (form_of old row).slots end (drop (length (form_of old row).fixed) words)) (made row) said rest λ fields fields_is last.
    ap (λ r. and_next r after) (row_alike old new rows more end words row row_is)
    ∙ (λ i. and_next (read_fields new (grows.more row i) end (drop (length (fixed_same new old row i)) words)) (made row))
    ∙ ap (λ r. and_next r (made row)) (fields_alike old new (form_of old row).slots (grows.slots row) end (drop (length (form_of old row).fixed) words) fields grows.alike (grows.free row) fields_is)
    ∙ last

-- ---- the editions

no_more : (row : Row) → (form_of with_ranges row).slots ≡ (form_of with_labels row).slots ++ []
no_more CipsoAddPass = refl
no_more CipsoAddTrans = refl
no_more CalipsoAddPass = refl
no_more CipsoDel = refl
no_more CalipsoDel = refl
no_more CipsoList = refl
no_more CalipsoList = refl
no_more MapAdd = refl
no_more MapDel = refl
no_more MapList = refl
no_more AcceptOn = refl
no_more AcceptOff = refl
no_more UnlblAdd = refl
no_more UnlblDel = refl
no_more UnlblList = refl
no_more ReceiverAdd = refl
no_more ReceiverDel = refl
no_more RangeAdd = refl
no_more RangeDel = refl
no_more PairAdd = refl
no_more PairDel = refl
no_more MgmtVersion = refl
no_more MgmtProtocols = refl
no_more CalipsoAddTrans = refl
no_more Reading = refl

ranges_grow : Grows with_labels with_ranges
ranges_grow = record { alike = (labels_stay_static_ranges, labels_stay_receiver_ranges); slots = λ row. []; more = no_more; free = λ row fields. refl }

abbrev later_slots : Row → List Slot
later_slots MapDel = may Prefix ∷ []
later_slots row = []

later_more : (row : Row) → (form_of with_translations row).slots ≡ (form_of with_ranges row).slots ++ later_slots row
later_more CipsoAddPass = refl
later_more CipsoAddTrans = refl
later_more CalipsoAddPass = refl
later_more CipsoDel = refl
later_more CalipsoDel = refl
later_more CipsoList = refl
later_more CalipsoList = refl
later_more MapAdd = refl
later_more MapDel = refl
later_more MapList = refl
later_more AcceptOn = refl
later_more AcceptOff = refl
later_more UnlblAdd = refl
later_more UnlblDel = refl
later_more UnlblList = refl
later_more ReceiverAdd = refl
later_more ReceiverDel = refl
later_more RangeAdd = refl
later_more RangeDel = refl
later_more PairAdd = refl
later_more PairDel = refl
later_more MgmtVersion = refl
later_more MgmtProtocols = refl
later_more CalipsoAddTrans = refl
later_more Reading = refl

later_free : (row : Row) (fields : Fields) → is_complete (later_slots row) fields ≡ true
later_free CipsoAddPass fields = refl
later_free CipsoAddTrans fields = refl
later_free CalipsoAddPass fields = refl
later_free CipsoDel fields = refl
later_free CalipsoDel fields = refl
later_free CipsoList fields = refl
later_free CalipsoList fields = refl
later_free MapAdd fields = refl
later_free MapDel fields = refl
later_free MapList fields = refl
later_free AcceptOn fields = refl
later_free AcceptOff fields = refl
later_free UnlblAdd fields = refl
later_free UnlblDel fields = refl
later_free UnlblList fields = refl
later_free ReceiverAdd fields = refl
later_free ReceiverDel fields = refl
later_free RangeAdd fields = refl
later_free RangeDel fields = refl
later_free PairAdd fields = refl
later_free PairDel fields = refl
later_free MgmtVersion fields = refl
later_free MgmtProtocols fields = refl
later_free CalipsoAddTrans fields = refl
later_free Reading fields = refl

translations_grow : Grows with_ranges with_translations
translations_grow = record { alike = (λ text range e. e, λ text range e. e); slots = later_slots; more = later_more; free = later_free }

pub ranges_kept : (led : Bool) (end : ℕ) (words : List LineWord) (said : Said) → read_said with_labels (line_rows led with_labels) end words ≡ Ok said → read_said with_ranges (line_rows led with_ranges) end words ≡ Ok said
ranges_kept true end words said e = said_alike with_labels with_ranges first_rows [] end words said ranges_grow e
ranges_kept false end words said e = said_alike with_labels with_ranges (Reading ∷ first_rows) [] end words said ranges_grow e

pub translations_kept : (led : Bool) (end : ℕ) (words : List LineWord) (said : Said) → read_said with_ranges (line_rows led with_ranges) end words ≡ Ok said → read_said with_translations (line_rows led with_translations) end words ≡ Ok said
translations_kept true end words said e = said_alike with_ranges with_translations first_rows (CalipsoAddTrans ∷ []) end words said translations_grow e
translations_kept false end words said e = said_alike with_ranges with_translations (Reading ∷ first_rows) (CalipsoAddTrans ∷ []) end words said translations_grow e
