-- Faults stand within the text.
use Rattle.std.proofs.Common.{◌≡◌, ℕ, suc, ◌+◌, ◌-◌, ◌≤◌, Bool, true, false, cond, not, List, [], ◌∷◌, ◌++◌, length, drop, max, fold, map, find, Option, Some, None, ok_or, Result, Ok, Err, refl, ap, subst, ◌∙◌, arith, nat_eq}
use Rattle.std.specs.Prelude.{codes, position}
use Rattle.std.specs.List.{after_first, slice_get}
use Rattle.std.proofs.lemmas.List.{length-append}
use Rattle.std.proofs.lemmas.List.Elements.{All-head, All-tail, All-drop, All-weaker}
use Rattle.std.proofs.lemmas.List.Quantifiers.{position-Some}
use Rattle.script_lines.specs.declared.stop.ScriptKind.TheVariants as Kind
use Rattle.script_lines.specs.declared.stop.LimitName.{LimitName}
use Rattle.script_lines.specs.declared.stop.LineFault.{LineFault}
use Rattle.script_lines.specs.declared.stop.LineStop.{LineStop}
use Rattle.script_lines.specs.declared.stop.LineStop.TheVariants as Of
use Rattle.script_lines.specs.Octet.{is_plain}
use Rattle.script_lines.specs.Word.{LineWord, words_of_line, IsWordOf}
use Rattle.script_lines.specs.Stop.{fault, and_next}
use Rattle.script_lines.proofs.Law.{words_stand_in_their_line}
use Rattle.domain_map.specs.address_text.Name.{name_of_text}
use Rattle.label_commands.specs.declared.node_readings.fault.ReadingFault.{ReadingFault}
use Rattle.label_commands.specs.declared.node_readings.fault.ReadingFault.TheVariants as Unread
use Rattle.label_commands.specs.node_readings.Reading.{NamedMeanings, reading_fault}
use Rattle.script_lines.specs.declared.row.Row.{Row}
use Rattle.script_lines.specs.declared.parameter.Parameter.{Parameter}
use Rattle.script_lines.specs.declared.form.Slot.{Slot}
use Rattle.script_lines.specs.declared.fields.Fields.{Fields}
use Rattle.script_lines.specs.declared.said.Said.{Said}
use Rattle.script_lines.specs.Form.{Edition, form_of, line_rows}
use Rattle.script_lines.specs.Fields.{no_fields, is_given, with_value}
use Rattle.script_lines.specs.Said.{shared_words, fits_row, unfit_or_missing, read_row, key_of, slot_of, with_parameter, with_word, with_words, is_complete, read_fields, read_said}
use Rattle.script_lines.specs.Command.{command_of}
use Rattle.label_commands.specs.flow_lines.Flow.{read_flow}
use Rattle.label_commands.proofs.flow_lines.Law.{faults_stand_in_the_line}
use Rattle.label_commands.specs.declared.stop.ScriptFault.{ScriptFault}
use Rattle.label_commands.specs.declared.stop.ScriptStop.TheVariants as Stop
use Rattle.label_commands.specs.Above.{Above, at_node, has_reading, with_step, with_reading, with_flow}
use Rattle.label_commands.specs.Line.{is_word, alone, read_only_name, read_node, named_by, reading_stop, read_meanings, read_reading, is_reading, with_said, behind_tool, read_led, starts_table, read_table, read_flow_line, read_words, limit_passed, read_line}
use Rattle.label_commands.specs.Script.{stop_at, read_lines}
use Rattle.label_commands.specs.Sound.{StandsInText}
use Rattle.label_commands.proofs.Results.{same_err, not_err}
use Rattle.label_commands.proofs.Within.{Within, StandWithin, within_ok, within_fault, within_limit, within_memory, within_test, within_or, within_next}
use Rattle.label_commands.proofs.Walk.{go_on}

-- ---- a row of the table

unfit_within : (end : ℕ) (words : List LineWord) → StandWithin end words → Within {X = Row} end (Err (unfit_or_missing end words))
unfit_within end [] stand = within_fault end end Kind.Missing (omega arith)
unfit_within end (word ∷ words) stand = within_fault end word.at Kind.Word (All-head (λ (w : LineWord). w.at ≤ end) word words stand)

module _ (edition : Edition) (end : ℕ) where
  row_within : (rows : List Row) (words : List LineWord) → StandWithin end words → Within end (read_row edition rows end words)
  row_within rows words stand =
      let most = fold max 0 (map (shared_words edition words) rows) in
      within_or end (find (fits_row edition words) rows) (unfit_or_missing end (drop most words))
      (unfit_within end (drop most words) (All-drop (λ (w : LineWord). w.at ≤ end) most words stand))

  parameter_within : (parameter : Parameter) (word : LineWord) (fields : Fields) → word.at ≤ end → Within end (with_parameter edition parameter word fields)
  parameter_within parameter word fields le =
      let value = with_value edition parameter (key_of word.text) (after_first (λ c. nat_eq c 58) word.text) fields in
      within_test end (is_given parameter fields) (Err (fault word.at Kind.Word)) (ok_or value (fault word.at Kind.Value))
      (within_fault end word.at Kind.Word le) (within_or end value (fault word.at Kind.Value) (within_fault end word.at Kind.Value le))

  word_within : (slots : List Slot) (word : LineWord) (fields : Fields) → word.at ≤ end → Within end (with_word edition slots word fields)
  word_within slots word fields le =
      let slot = slot_of slots (key_of word.text) in
      let next : Slot → Result Fields LineStop = λ s. with_parameter edition s.parameter word fields in
      within_test end (nat_eq (length slots) 0) (Err (fault word.at Kind.Extra)) (and_next (ok_or slot (fault word.at Kind.Word)) next)
      (within_fault end word.at Kind.Extra le)
      (within_next end (ok_or slot (fault word.at Kind.Word)) next (within_or end slot (fault word.at Kind.Word) (within_fault end word.at Kind.Word le))
      (λ s. parameter_within s.parameter word fields le))

  words_within : (slots : List Slot) (words : List LineWord) (fields : Fields) → StandWithin end words → Within end (with_words edition slots words fields)
  words_within slots [] fields stand = within_ok end fields
  words_within slots (word ∷ words) fields stand =
      within_next end (with_word edition slots word fields) (with_words edition slots words)
      (word_within slots word fields (All-head (λ (w : LineWord). w.at ≤ end) word words stand))
      (λ more. words_within slots words more (All-tail (λ (w : LineWord). w.at ≤ end) word words stand))

  fields_within : (slots : List Slot) (words : List LineWord) → StandWithin end words → Within end (read_fields edition slots end words)
  fields_within slots words stand =
      within_next end (with_words edition slots words no_fields) (λ fields. cond (is_complete slots fields) (Ok fields) (Err (fault end Kind.Missing)))
      (words_within slots words no_fields stand)
      (λ fields. within_test end (is_complete slots fields) (Ok fields) (Err (fault end Kind.Missing)) (within_ok end fields) (within_fault end end Kind.Missing (omega arith)))

  said_within : (rows : List Row) (words : List LineWord) → StandWithin end words → Within end (read_said edition rows end words)
  said_within rows words stand =
      let made : Row → Fields → Said = λ row fields. record { row = row; fields = fields } in
      within_next end (read_row edition rows end words)
      (λ row. and_next (read_fields edition (form_of edition row).slots end (drop (length (form_of edition row).fixed) words)) (λ fields. Ok (made row fields)))
      (row_within rows words stand)
      (λ row.
      let rest = drop (length (form_of edition row).fixed) words in
      within_next end (read_fields edition (form_of edition row).slots end rest) (λ fields. Ok (made row fields))
      (fields_within (form_of edition row).slots rest (All-drop (λ (w : LineWord). w.at ≤ end) (length (form_of edition row).fixed) words stand))
      (λ fields. within_ok end (made row fields)))

  -- ---- a line

  tool_within : (words rest : List LineWord) → StandWithin end words → behind_tool words ≡ Some rest → StandWithin end rest
  tool_within [] rest stand is = absurd (none_some is) where
    none_some : ◌≡◌ {A = Option (List LineWord)} None (Some rest) → ⊥
    none_some e = cc
  tool_within (first ∷ words) rest stand is = by_test (is_word (codes "netlabelctl") first) is where
    by_test : (b : Bool) → ◌≡◌ {A = Option (List LineWord)} (cond b (Some words) None) (Some rest) → StandWithin end rest
    by_test true e = subst (StandWithin end) (same e) (All-tail (λ (w : LineWord). w.at ≤ end) first words stand) where
      same : ◌≡◌ {A = Option (List LineWord)} (Some words) (Some rest) → words ≡ rest
      same e = cc
    by_test false e = absurd (none_some e) where
      none_some : ◌≡◌ {A = Option (List LineWord)} None (Some rest) → ⊥
      none_some e = cc

  led_within : (words : List LineWord) → StandWithin end words → Within end (read_led edition end words)
  unfolding read_led
  led_within words stand = by_tool (behind_tool words) refl where
    by_tool : (tool : Option (List LineWord)) → behind_tool words ≡ tool → Within end (elim tool as (λ _. Result Said LineStop) [
      | Some rest ↦ read_said edition (line_rows true edition) end rest
      | None ↦ read_said edition (line_rows false edition) end words
    ])
    by_tool None is = said_within (line_rows false edition) words stand
    by_tool (Some rest) is = said_within (line_rows true edition) rest (tool_within words rest stand is)

module _ (end : ℕ) (above : Above) where
  alone_within : (name : List ℕ) (words : List LineWord) → StandWithin end words → Within end (alone name words)
  alone_within name [] stand = within_ok end name
  alone_within name (next ∷ words) stand = within_fault end next.at Kind.Extra (All-head (λ (w : LineWord). w.at ≤ end) next words stand)

  name_within : (words : List LineWord) → StandWithin end words → Within end (read_only_name end words)
  name_within [] stand = within_fault end end Kind.Missing (omega arith)
  name_within (word ∷ words) stand =
      within_next end (ok_or (name_of_text word.text) (fault word.at Kind.Value)) (λ name. alone name words)
      (within_or end (name_of_text word.text) (fault word.at Kind.Value) (within_fault end word.at Kind.Value (All-head (λ (w : LineWord). w.at ≤ end) word words stand)))
      (λ name. alone_within name words (All-tail (λ (w : LineWord). w.at ≤ end) word words stand))

  node_within : (words : List LineWord) → StandWithin end words → Within end (read_node above end words)
  node_within words stand =
      within_next end (read_only_name end words) (λ name. Ok (at_node above name)) (name_within words stand) (λ name. within_ok end (at_node above name))

  flow_within : (own : List ℕ) (words : List LineWord) → StandWithin end words → Within end (read_flow_line own above end words)
  flow_within own words stand =
      within_next end (read_flow own above.nodes above.flows (length above.steps) end words) (λ flow. Ok (with_flow above flow))
      (λ found e. faults_stand_in_the_line own above.nodes above.flows (length above.steps) end words found stand e) (λ flow. within_ok end (with_flow above flow))

  stop_within : (place : ℕ) (unread : ReadingFault) → place ≤ end → Within {X = NamedMeanings} end (Err (reading_stop place unread))
  stop_within place Unread.NotIncreasing le = within_fault end place Kind.NotIncreasing le
  stop_within place Unread.NotDistinct le = within_fault end place Kind.NotDistinct le
  stop_within place Unread.OutOfMemory le = within_memory end

  meanings_within : (place : ℕ) (named : NamedMeanings) → place ≤ end → Within end (read_meanings place named)
  meanings_within place named le = by_fault (reading_fault named.levels named.cats) where
    by_fault : (unread : Option ReadingFault) → Within end (elim unread as (λ _. Result NamedMeanings LineStop) [ Some f ↦ Err (reading_stop place f) | None ↦ Ok named ])
    by_fault None = within_ok end named
    by_fault (Some f) = stop_within place f le

  reading_within : (node place : ℕ) (fields : Fields) → place ≤ end → Within end (read_reading above node place fields)
  reading_within node place fields le =
      let read = and_next (read_meanings place (named_by fields)) (λ named. Ok (with_reading above node named)) in
      within_test end (has_reading above node) (Err (fault place Kind.ReadingTwice)) read (within_fault end place Kind.ReadingTwice le)
      (within_next end (read_meanings place (named_by fields)) (λ named. Ok (with_reading above node named)) (meanings_within place (named_by fields) le)
      (λ named. within_ok end (with_reading above node named)))

  with_said_within : (node place : ℕ) (said : Said) → place ≤ end → Within end (with_said above node place end said)
  with_said_within node place said le =
      let command = ok_or (command_of said.row said.fields) (fault end Kind.Missing) in
      within_test end (is_reading said.row) (read_reading above node place said.fields) (and_next command (λ c. Ok (with_step above node c)))
      (reading_within node place said.fields le)
      (within_next end command (λ c. Ok (with_step above node c))
      (within_or end (command_of said.row said.fields) (fault end Kind.Missing) (within_fault end end Kind.Missing (omega arith)))
      (λ c. within_ok end (with_step above node c)))

  table_within : (edition : Edition) (first : LineWord) (words : List LineWord) → StandWithin end (first ∷ words) → Within end (read_table edition above end first (first ∷ words))
  table_within edition first words stand = by_current above.current where
    place : first.at ≤ end
    place = All-head (λ (w : LineWord). w.at ≤ end) first words stand

    by_current : (current : Option ℕ) → Within end (elim current as (λ _. Result Above LineStop) [
      | Some node ↦ and_next (read_led edition end (first ∷ words)) (with_said above node first.at end)
      | None ↦ Err (fault first.at (cond (starts_table edition first) Kind.NoNode Kind.Word))
    ])
    by_current None = within_fault end first.at (cond (starts_table edition first) Kind.NoNode Kind.Word) place
    by_current (Some node) =
        within_next end (read_led edition end (first ∷ words)) (with_said above node first.at end) (led_within edition end (first ∷ words) stand)
        (λ said. with_said_within node first.at said place)

  line_words_within : (edition : Edition) (own : List ℕ) (words : List LineWord) → StandWithin end words → Within end (read_words edition own above end words)
  unfolding read_words
  line_words_within edition own [] stand = within_ok end above
  line_words_within edition own (first ∷ words) stand =
      let rest = All-tail (λ (w : LineWord). w.at ≤ end) first words stand in
      let node = read_node above end words in
      let flow = read_flow_line own above end words in
      let table = read_table edition above end first (first ∷ words) in
      within_test end (is_word (codes "node") first) node (cond (is_word (codes "flow") first) flow table) (node_within words rest)
      (within_test end (is_word (codes "flow") first) flow table (flow_within own words rest) (table_within edition first words stand))

words_stand : (line : List ℕ) → StandWithin (length line) (words_of_line line)
words_stand line =
    All-weaker (IsWordOf line) (λ (w : LineWord). w.at ≤ length line)
    (λ word is. omega (arith, is.place, ap length is.is, length-append is.front (word.text ++ is.back))) (words_of_line line) (words_stand_in_their_line line)

line_within : (edition : Edition) (own : List ℕ) (above : Above) (number : ℕ) (line : List ℕ) → Within (length line) (read_line edition own above number line)
unfolding read_line
line_within edition own above number line = by_octet (position (λ octet. not (is_plain octet)) line) refl where
  by_limit : (passed : Option LimitName) → Within (length line) (elim passed as (λ _. Result Above LineStop) [
    | Some what ↦ Err (Of.Limit what)
    | None ↦ read_words edition own above (length line) (words_of_line line)
  ])
  by_limit (Some what) = within_limit (length line) what
  by_limit None = line_words_within (length line) above edition own (words_of_line line) (words_stand line)

  by_octet : (place : Option ℕ) → position (λ octet. not (is_plain octet)) line ≡ place → Within (length line) (elim place as (λ _. Result Above LineStop) [
    | Some at ↦ Err (fault at Kind.Octet)
    | None ↦ elim (limit_passed above number (words_of_line line)) as (λ _. Result Above LineStop) [ Some what ↦ Err (Of.Limit what) | None ↦ read_words edition own above (length line) (words_of_line line) ]
  ])
  by_octet (Some at) is = let found = position-Some (λ octet. not (is_plain octet)) line at 0 is in within_fault (length line) at Kind.Octet (omega (arith, found.0))
  by_octet None is = by_limit (limit_passed above number (words_of_line line))

-- ---- all lines

-- the fault's line is one of these, of which the first has this number
record IsAmongLines (number : ℕ) (lines : List (List ℕ)) (fault : ScriptFault) : Type 0 where
  line : List ℕ
  later : number ≤ fault.line
  is : slice_get lines (fault.line - number) ≡ Some line
  octet : fault.octet ≤ length line

behind_one : (number : ℕ) (line : List ℕ) (lines : List (List ℕ)) (fault : ScriptFault) → IsAmongLines (number + 1) lines fault → IsAmongLines number (line ∷ lines) fault
behind_one number line lines fault among =
    let place : fault.line - number ≡ suc (fault.line - (number + 1)) = omega (arith, among.later) in
    record { line = among.line; later = omega (arith, among.later); is = ap (slice_get (line ∷ lines)) place ∙ among.is; octet = among.octet }

at_first : (number : ℕ) (line : List ℕ) (lines : List (List ℕ)) (found : LineFault) (fault : ScriptFault) → found.octet ≤ length line
    → stop_at number (Of.Fault found) ≡ Stop.Fault fault → IsAmongLines number (line ∷ lines) fault
at_first number line lines found fault le e =
    let here : ScriptFault = record { line = number; octet = found.octet; kind = found.kind } in
    let none : number - number ≡ 0 = omega arith in
    subst (IsAmongLines number (line ∷ lines)) (same e) (record { line = line; later = omega arith; is = ap (slice_get (line ∷ lines)) none; octet = le }) where
      same : {f g : ScriptFault} → Stop.Fault f ≡ Stop.Fault g → f ≡ g
      same e = cc

no_fault : (number : ℕ) (line : List ℕ) (lines : List (List ℕ)) (fault : ScriptFault) (stop : LineStop) → ((found : LineFault) → stop ≡ Of.Fault found → found.octet ≤ length line)
    → stop_at number stop ≡ Stop.Fault fault → IsAmongLines number (line ∷ lines) fault
no_fault number line lines fault (Of.Fault found) le e = at_first number line lines found fault (le found refl) e
no_fault number line lines fault (Of.Limit what) le e = absurd (cc)
no_fault number line lines fault Of.OutOfMemory le e = absurd (cc)

fault_among : (edition : Edition) (own : List ℕ) (lines : List (List ℕ)) (above : Above) (number : ℕ) (fault : ScriptFault)
    → read_lines edition own above number lines ≡ Err (Stop.Fault fault) → IsAmongLines number lines fault
fault_among edition own [] above number fault e = absurd (not_err above (Stop.Fault fault) e)
fault_among edition own (line ∷ lines) above number fault e =
    by_line (read_line edition own above number line) refl e
    (λ next is. behind_one number line lines fault (fault_among edition own lines next (number + 1) fault is)) where
      by_line : (r : Result Above LineStop) → read_line edition own above number line ≡ r → go_on edition own number lines r ≡ Err (Stop.Fault fault)
          → ((next : Above) → read_lines edition own next (number + 1) lines ≡ Err (Stop.Fault fault) → IsAmongLines number (line ∷ lines) fault)
          → IsAmongLines number (line ∷ lines) fault
      by_line (Ok next) is e go = go next e
      by_line (Err stop) is e go =
          no_fault number line lines fault stop (λ found same. line_within edition own above number line found (is ∙ ap Err same)) (same_err {X = Above} (stop_at number stop) (Stop.Fault fault) e)

pub fault_stands : (edition : Edition) (own : List ℕ) (lines : List (List ℕ)) (above : Above) (fault : ScriptFault) → read_lines edition own above 1 lines ≡ Err (Stop.Fault fault)
    → StandsInText lines fault
fault_stands edition own lines above fault e =
    let among = fault_among edition own lines above 1 fault e in record { line = among.line; number = among.later; is = among.is; octet = among.octet }
