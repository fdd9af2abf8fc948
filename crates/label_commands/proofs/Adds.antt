-- What a line adds to what those above it say.
use Rattle.std.proofs.Common.{◌≡◌, ℕ, ◌<◌, ◌≤◌, Bool, true, false, cond, not, ◌&&◌, List, [], ◌∷◌, length, Option, Some, None, ok_or, Result, Ok, Err, refl, sym, ◌∙◌, arith, ltb, leb}
use Rattle.std.specs.Prelude.{codes, position}
use Rattle.std.specs.Str.{bytes_eq}
use Rattle.std.proofs.lemmas.Bool.{false≢true}
use Rattle.std.proofs.lemmas.Bool.Decides.{nat_tests}
use Rattle.std.proofs.lemmas.Option.{none-some}
use Rattle.script_lines.specs.declared.stop.ScriptKind.TheVariants as Kind
use Rattle.script_lines.specs.declared.stop.LimitName.{LimitName}
use Rattle.script_lines.specs.declared.stop.LimitName.TheVariants.{Lines, Nodes, Flows}
use Rattle.script_lines.specs.declared.stop.LineStop.{LineStop}
use Rattle.script_lines.specs.declared.stop.LineStop.TheVariants as Stop
use Rattle.script_lines.specs.Octet.{is_plain}
use Rattle.script_lines.specs.Word.{LineWord, words_of_line}
use Rattle.script_lines.specs.Stop.{fault, and_next}
use Rattle.domain_map.specs.address_text.Name.{is_name, name_of_text}
use Rattle.label_commands.specs.node_readings.Reading.{NamedMeanings, IsReading}
use Rattle.script_lines.specs.declared.command.Command.{Command}
use Rattle.script_lines.specs.declared.said.Said.{Said}
use Rattle.script_lines.specs.Form.{Edition}
use Rattle.script_lines.specs.Command.{command_of}
use Rattle.script_lines.specs.Bounded.{IsBounded}
use Rattle.label_commands.specs.declared.flow_lines.flow.FlowLine.{FlowLine}
use Rattle.label_commands.specs.flow_lines.Flow.{read_flow}
use Rattle.label_commands.specs.Above.{Above, at_node, with_step, has_reading, with_reading, with_flow}
use Rattle.label_commands.specs.Editions.{has_command}
use Rattle.label_commands.specs.Line.{is_word, alone, read_only_name, read_node, named_by, read_meanings, read_reading, is_reading, with_said, read_led, starts_table, read_table, read_flow_line, read_words, names_new_node, is_flow_line, limit_passed, read_line}
use Rattle.label_commands.proofs.Results.{same_ok, not_ok, went, ok_or_went}
use Rattle.label_commands.proofs.Early.{HasSaid, led_has}
use Rattle.label_commands.proofs.Saids.{AreFieldsWithin, led_within, command_within, meanings_within}

pub data Adds (edition : Edition) (own : List ℕ) (above next : Above) : Type 0 where
  nothing : next ≡ above → Adds edition own above next
  a_node : (name : List ℕ) → (position (bytes_eq name) above.nodes ≡ None → length above.nodes < 32) → next ≡ at_node above name → Adds edition own above next
  a_step : (node : ℕ) (command : Command) → above.current ≡ Some node → IsBounded command → has_command edition command ≡ true → next ≡ with_step above node command → Adds edition own above next
  a_reading : (node : ℕ) (named : NamedMeanings) → above.current ≡ Some node → IsReading named → next ≡ with_reading above node named → Adds edition own above next
  a_flow : (flow : FlowLine) (end : ℕ) (words : List LineWord) → length above.flows < 256 → read_flow own above.nodes above.flows (length above.steps) end words ≡ Ok flow
      → next ≡ with_flow above flow → Adds edition own above next

-- ---- the limits

-- no limit is passed
record IsWithin (above : Above) (number : ℕ) (words : List LineWord) : Type 0 where
  lines : number ≤ 16384
  nodes : names_new_node above words ≡ true → length above.nodes < 32
  flows : is_flow_line words ≡ true → length above.flows < 256

no_limit : (p a q b r : Bool) → cond p (Some Lines) (cond (a && q) (Some Nodes) (cond (b && r) (Some Flows) None)) ≡ None
    → (p ≡ false) × (a ≡ true → q ≡ false) × (b ≡ true → r ≡ false)
no_limit true a q b r e = absurd (none-some Lines (sym e))
no_limit false true true b r e = absurd (none-some Nodes (sym e))
no_limit false true false true true e = absurd (none-some Flows (sym e))
no_limit false true false true false e = (refl, λ _. refl, λ _. refl)
no_limit false true false false r e = (refl, λ _. refl, λ is. absurd (false≢true is))
no_limit false false q true true e = absurd (none-some Flows (sym e))
no_limit false false q true false e = (refl, λ is. absurd (false≢true is), λ _. refl)
no_limit false false q false r e = (refl, λ is. absurd (false≢true is), λ is. absurd (false≢true is))

not_below : (a b : ℕ) → ltb a b ≡ false → b ≤ a
not_below a b e = grind (arith, nat_tests)

below : (a b : ℕ) → leb a b ≡ false → b < a
below a b e = grind (arith, nat_tests)

within : (above : Above) (number : ℕ) (words : List LineWord) → limit_passed above number words ≡ None → IsWithin above number words
unfolding limit_passed
within above number words e =
    let found = no_limit (ltb 16384 number) (names_new_node above words) (leb 32 (length above.nodes)) (is_flow_line words) (leb 256 (length above.flows)) e in
    record {
      lines = not_below 16384 number found.0;
      nodes = λ is. below 32 (length above.nodes) (found.1 is);
      flows = λ is. below 256 (length above.flows) (found.2 is);
    }

-- ---- a node

-- the words are one name
record IsOnlyName (words : List LineWord) (name : List ℕ) : Type 0 where
  word : LineWord
  is : words ≡ word ∷ []
  text : word.text ≡ name
  valid : is_name word.text ≡ true

name_given : (text name : List ℕ) → name_of_text text ≡ Some name → (text ≡ name) × (is_name text ≡ true)
name_given text name e = by_test (is_name text) refl e where
  by_test : (t : Bool) → is_name text ≡ t → cond t (Some text) None ≡ Some name → (text ≡ name) × (is_name text ≡ true)
  by_test false is e = absurd (none-some name e)
  by_test true is e = (cc, is)

only_name : (end : ℕ) (words : List LineWord) (name : List ℕ) → read_only_name end words ≡ Ok name → IsOnlyName words name
only_name end [] name e = absurd (not_ok name _ e)
only_name end (word ∷ []) name e =
    let w = went (ok_or (name_of_text word.text) (fault word.at Kind.Value)) (λ n. alone n []) name e in
    let given = name_given word.text w.0 (ok_or_went (name_of_text word.text) _ w.0 w.1) in
    record { word = word; is = refl; text = given.0 ∙ same_ok w.0 name w.2; valid = given.1 }
only_name end (word ∷ next ∷ words) name e =
    let w = went (ok_or (name_of_text word.text) (fault word.at Kind.Value)) (λ n. alone n (next ∷ words)) name e in
    absurd (not_ok name _ w.2)

-- ---- a command or a reading

module _ (edition : Edition) (own : List ℕ) (above next : Above) where
  reading_adds : (node place : ℕ) (said : Said) → above.current ≡ Some node → AreFieldsWithin said.fields → read_reading above node place said.fields ≡ Ok next → Adds edition own above next
  reading_adds node place said at is e = by_test (has_reading above node) e where
    by_test : (b : Bool) → ◌≡◌ {A = Result Above LineStop} (cond b (Err (fault place Kind.ReadingTwice)) (and_next (read_meanings place (named_by said.fields)) (λ named. Ok (with_reading above node named)))) (Ok next)
        → Adds edition own above next
    by_test true e = absurd (not_ok next _ e)
    by_test false e =
        let w = went (read_meanings place (named_by said.fields)) (λ named. Ok (with_reading above node named)) next e in
        a_reading node w.0 at (meanings_within place said.fields w.0 is w.1) (sym (same_ok _ next w.2))

  said_adds : (node place end : ℕ) (said : Said) → above.current ≡ Some node → AreFieldsWithin said.fields → HasSaid edition said → with_said above node place end said ≡ Ok next → Adds edition own above next
  said_adds node place end said at is has e = by_test (is_reading said.row) e where
    by_test : (b : Bool) → ◌≡◌ {A = Result Above LineStop} (cond b (read_reading above node place said.fields)
        (and_next (ok_or (command_of said.row said.fields) (fault end Kind.Missing)) (λ command. Ok (with_step above node command)))) (Ok next) → Adds edition own above next
    by_test true e = reading_adds node place said at is e
    by_test false e =
        let w = went (ok_or (command_of said.row said.fields) (fault end Kind.Missing)) (λ command. Ok (with_step above node command)) next e in
        let made = ok_or_went (command_of said.row said.fields) _ w.0 w.1 in
        a_step node w.0 at (command_within said.row said.fields w.0 is made) (has w.0 made) (sym (same_ok _ next w.2))

  table_adds : (end : ℕ) (first : LineWord) (words : List LineWord) → read_table edition above end first words ≡ Ok next → Adds edition own above next
  table_adds end first words e = by_current above.current refl e where
    by_current : (current : Option ℕ) → above.current ≡ current
        → ◌≡◌ {A = Result Above LineStop} (elim current as (λ _. Result Above LineStop) [
          | Some node ↦ and_next (read_led edition end words) (with_said above node first.at end)
          | None ↦ Err (fault first.at (cond (starts_table edition first) Kind.NoNode Kind.Word))
        ]) (Ok next) → Adds edition own above next
    by_current None at e = absurd (not_ok next _ e)
    by_current (Some node) at e =
        let w = went (read_led edition end words) (with_said above node first.at end) next e in said_adds node first.at end w.0 at (led_within edition end words w.0 w.1) (led_has edition end words w.0 w.1) w.2

  -- ---- a line

  flow_adds : (end : ℕ) (words : List LineWord) → length above.flows < 256 → read_flow_line own above end words ≡ Ok next → Adds edition own above next
  flow_adds end words room e =
      let w = went (read_flow own above.nodes above.flows (length above.steps) end words) (λ flow. Ok (with_flow above flow)) next e in
      a_flow w.0 end words room w.1 (sym (same_ok _ next w.2))

  node_adds : (number end : ℕ) (first : LineWord) (words : List LineWord) → is_word (codes "node") first ≡ true → IsWithin above number (first ∷ words)
      → read_node above end words ≡ Ok next → Adds edition own above next
  node_adds number end first words begins limits e =
      let w = went (read_only_name end words) (λ name. Ok (at_node above name)) next e in
      let only = only_name end words w.0 w.1 in
      let room : position (bytes_eq w.0) above.nodes ≡ None → length above.nodes < 32 = λ new.
      limits.nodes (rw (only.is, begins, only.valid, only.text, new) refl) in
      a_node w.0 room (sym (same_ok _ next w.2))

  words_add : (number end : ℕ) (words : List LineWord) → IsWithin above number words → read_words edition own above end words ≡ Ok next → Adds edition own above next
  unfolding read_words
  words_add number end [] limits e = nothing (sym (same_ok above next e))
  words_add number end (first ∷ words) limits e = by_node (is_word (codes "node") first) refl e where
    by_flow : (b : Bool) → is_word (codes "flow") first ≡ b
        → ◌≡◌ {A = Result Above LineStop} (cond b (read_flow_line own above end words) (read_table edition above end first (first ∷ words))) (Ok next) → Adds edition own above next
    by_flow true is e = flow_adds end words (limits.flows is) e
    by_flow false is e = table_adds end first (first ∷ words) e

    by_node : (b : Bool) → is_word (codes "node") first ≡ b
        → ◌≡◌ {A = Result Above LineStop} (cond b (read_node above end words) (cond (is_word (codes "flow") first) (read_flow_line own above end words) (read_table edition above end first (first ∷ words)))) (Ok next)
        → Adds edition own above next
    by_node true is e = node_adds number end first words is limits e
    by_node false is e = by_flow (is_word (codes "flow") first) refl e

-- a line that isn't refused stands within the limits, and adds something
pub line_adds : (edition : Edition) (own : List ℕ) (above next : Above) (number : ℕ) (line : List ℕ) → read_line edition own above number line ≡ Ok next
    → (number ≤ 16384) × Adds edition own above next
unfolding read_line
line_adds edition own above next number line e = by_octet (position (λ octet. not (is_plain octet)) line) e where
  by_limit : (passed : Option LimitName) → limit_passed above number (words_of_line line) ≡ passed
      → ◌≡◌ {A = Result Above LineStop} (elim passed as (λ _. Result Above LineStop) [ Some what ↦ Err (Stop.Limit what) | None ↦ read_words edition own above (length line) (words_of_line line) ]) (Ok next)
      → (number ≤ 16384) × Adds edition own above next
  by_limit (Some what) is e = absurd (not_ok next _ e)
  by_limit None is e =
      let limits = within above number (words_of_line line) is in
      (limits.lines, words_add edition own above next number (length line) (words_of_line line) limits e)

  by_octet : (place : Option ℕ) → ◌≡◌ {A = Result Above LineStop} (elim place as (λ _. Result Above LineStop) [
    | Some at ↦ Err (fault at Kind.Octet)
    | None ↦ elim (limit_passed above number (words_of_line line)) as (λ _. Result Above LineStop) [ Some what ↦ Err (Stop.Limit what) | None ↦ read_words edition own above (length line) (words_of_line line) ]
  ]) (Ok next) → (number ≤ 16384) × Adds edition own above next
  by_octet (Some at) e = absurd (not_ok next _ e)
  by_octet None e = by_limit (limit_passed above number (words_of_line line)) refl e
