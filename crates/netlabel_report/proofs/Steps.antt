-- The commands that are taken of a right script are its steps.
use Rattle.std.proofs.Common.{◌≡◌, ℕ, zero, suc, ◌+◌, Bool, true, false, cond, not, ◌&&◌, ◌||◌, List, [], ◌∷◌, ◌++◌, length, drop, map, get_or, Option, Some, None, ok_or, Result, Ok, Err, refl, sym, ap, subst, ◌∙◌, append_assoc, ltb}
use Rattle.std.specs.Prelude.{codes, nat_eq, position, find}
use Rattle.std.specs.Str.{bytes_eq}
use Rattle.std.specs.Str.Lines.{lines}
use Rattle.std.specs.List.{slice_get, list_all}
use Rattle.std.proofs.lemmas.Bool.{false≢true}
use Rattle.std.proofs.lemmas.List.{append-nil, map-append}
use Rattle.std.proofs.lemmas.List.Quantifiers.{position-Some}
use Rattle.std.proofs.lemmas.Option.{none-some, same_Some, slice_get-get_or}
use Rattle.std.proofs.lemmas.Slice.Eq.{bytes_eq-Decides}
use Rattle.domain_map.specs.address_text.Name.{name_of_text}
use Rattle.script_lines.specs.declared.command.Command.{Command}
use Rattle.script_lines.specs.declared.command.Step.{Step}
use Rattle.script_lines.specs.declared.row.Row.{Row}
use Rattle.script_lines.specs.declared.row.Row.TheVariants as In
use Rattle.script_lines.specs.declared.fields.Fields.{Fields}
use Rattle.script_lines.specs.declared.said.Said.{Said}
use Rattle.script_lines.specs.declared.stop.LimitName.{LimitName}
use Rattle.script_lines.specs.declared.stop.LimitName.TheVariants.{Octets}
use Rattle.script_lines.specs.declared.stop.LineStop.{LineStop}
use Rattle.script_lines.specs.declared.stop.LineStop.TheVariants as Of
use Rattle.script_lines.specs.declared.stop.ScriptKind.TheVariants as Kind
use Rattle.script_lines.specs.Command.{command_of}
use Rattle.script_lines.specs.Form.{with_translations, form_of, line_rows}
use Rattle.script_lines.specs.Octet.{is_plain}
use Rattle.script_lines.specs.Said.{fits_row, read_row, read_fields, read_said}
use Rattle.script_lines.specs.Stop.{fault, and_next}
use Rattle.script_lines.specs.Word.{LineWord, words_of_line}
use Rattle.label_commands.specs.flow_lines.Flow.{read_flow}
use Rattle.label_commands.specs.declared.script.Script.{Script}
use Rattle.label_commands.specs.declared.stop.ScriptStop.{ScriptStop}
use Rattle.label_commands.specs.Above.{Above, nothing_above, at_number, at_node, has_reading, with_reading, with_step, with_flow}
use Rattle.label_commands.specs.Line.{is_word, alone, read_only_name, read_node, named_by, read_meanings, read_reading, is_reading, with_said, read_led, starts_table, read_table, read_flow_line, read_words, limit_passed, read_line}
use Rattle.label_commands.specs.Script.{stop_at, passed, read_lines, script_of, read_text}
use Rattle.call_report.specs.script_input.ScriptFile.{script_read}
use Rattle.netlabel_report.specs.declared.report_telling.commands.CommandPlace.{CommandPlace}
use Rattle.netlabel_report.specs.Places.{is_no_command, node_behind, place_under, place_in, places_from, places_of}

-- ---- results

same_ok : {X E : Type 0} (x y : X) → ◌≡◌ {A = Result X E} (Ok x) (Ok y) → x ≡ y
same_ok x y e = cc

not_ok : {X E : Type 0} (x : X) (stop : E) → ◌≡◌ {A = Result X E} (Err stop) (Ok x) → ⊥
not_ok x stop e = cc

went : {X Y : Type 0} (r : Result X LineStop) (next : X → Result Y LineStop) (y : Y) → and_next r next ≡ Ok y → (x : X) × (r ≡ Ok x) × (next x ≡ Ok y)
went (Ok x) next y e = (x, refl, e)
went (Err stop) next y e = absurd (not_ok y stop e)

ok_or_went : {X : Type 0} (o : Option X) (stop : LineStop) (x : X) → ok_or o stop ≡ Ok x → o ≡ Some x
ok_or_went None stop x e = absurd (not_ok x stop e)
ok_or_went (Some y) stop x e = ap Some (same_ok y x e)

-- ---- lists

get_front : {X : Type 0} (xs ys : List X) (k : ℕ) (x : X) → slice_get xs k ≡ Some x → slice_get (xs ++ ys) k ≡ Some x
get_front [] ys k x is = absurd (none-some x is)
get_front (y ∷ xs) ys zero x is = is
get_front (y ∷ xs) ys (suc k) x is = get_front xs ys k x is

get_last : {X : Type 0} (xs : List X) (x : X) → slice_get (xs ++ x ∷ []) (length xs) ≡ Some x
get_last [] x = refl
get_last (y ∷ xs) x = get_last xs x

text_is : (a b : List ℕ) → bytes_eq a b ≡ true → a ≡ b
text_is a b is = (bytes_eq-Decides a b).0 is

-- ---- the row of a line

found_in : (p q : Row → Bool) (rows : List Row) (row : Row) → list_all q rows ≡ true → find p rows ≡ Some row → q row ≡ true
found_in p q [] row all e = absurd (none-some row e)
found_in p q (x ∷ rows) row all e = by_tests (p x) (q x) refl all e (found_in p q rows row) where
  by_tests : (t a : Bool) → q x ≡ a → (a && list_all q rows) ≡ true → cond t (Some x) (find p rows) ≡ Some row
      → (list_all q rows ≡ true → find p rows ≡ Some row → q row ≡ true) → q row ≡ true
  by_tests t false is all e behind = absurd (false≢true all)
  by_tests true true is all e behind = ap q (sym (same_Some x row e)) ∙ is
  by_tests false true is all e behind = behind all e

said_row : (rows : List Row) (end : ℕ) (words : List LineWord) (said : Said) → read_said with_translations rows end words ≡ Ok said → find (fits_row with_translations words) rows ≡ Some said.row
said_row rows end words said e =
    let made_of : Row → Fields → Said = λ row fields. record { row = row; fields = fields } in
    let fields_of : Row → Result Fields LineStop = λ row. read_fields with_translations (form_of with_translations row).slots end (drop (length (form_of with_translations row).fixed) words) in
    let row = went (read_row with_translations rows end words) (λ r. and_next (fields_of r) (λ fields. Ok (made_of r fields))) said e in
    let fields = went (fields_of row.0) (λ f. Ok (made_of row.0 f)) said row.2 in
    ok_or_went (find (fits_row with_translations words) rows) _ row.0 row.1 ∙ ap (λ (s : Said). Some s.row) (same_ok (made_of row.0 fields.0) said fields.2)

abbrev says_command : Row → Bool
says_command row = not (is_reading row)

no_reading : (row : Row) → says_command row ≡ true → is_reading row ≡ false
no_reading row is = by_test (is_reading row) is where
  by_test : (b : Bool) → not b ≡ true → b ≡ false
  by_test true is = absurd (false≢true is)
  by_test false is = refl

-- a line of the table is one of a reading exactly where its first word is `reading`
module _ (end : ℕ) (first : LineWord) (words : List LineWord) (said : Said) where
  led_command : (rest : List LineWord) → read_said with_translations (line_rows true with_translations) end rest ≡ Ok said → is_reading said.row ≡ false
  led_command rest e = no_reading said.row (found_in (fits_row with_translations rest) says_command (line_rows true with_translations) said.row refl (said_row (line_rows true with_translations) end rest said e))

  -- whether the words fit the row of readings
  fits_reading : (b : Bool) → bytes_eq first.text (codes "reading") ≡ b → fits_row with_translations (first ∷ words) In.Reading ≡ b
  fits_reading b is = ap (λ (t : Bool). nat_eq (cond (t || false) 1 0) 1) is ∙ by_case b where
    by_case : (t : Bool) → nat_eq (cond (t || false) 1 0) 1 ≡ t
    by_case true = refl
    by_case false = refl

  alone_row : read_said with_translations (line_rows false with_translations) end (first ∷ words) ≡ Ok said → is_reading said.row ≡ bytes_eq first.text (codes "reading")
  alone_row e = by_test (bytes_eq first.text (codes "reading")) (subst (λ (t : Bool). cond t (Some In.Reading) (find (fits_row with_translations (first ∷ words)) (line_rows true with_translations)) ≡ Some said.row)
      (fits_reading (bytes_eq first.text (codes "reading")) refl) (said_row (line_rows false with_translations) end (first ∷ words) said e)) where
        by_test : (b : Bool) → cond b (Some In.Reading) (find (fits_row with_translations (first ∷ words)) (line_rows true with_translations)) ≡ Some said.row → is_reading said.row ≡ b
        by_test true found = ap is_reading (sym (same_Some In.Reading said.row found))
        by_test false found = no_reading said.row (found_in (fits_row with_translations (first ∷ words)) says_command (line_rows true with_translations) said.row refl found)

  led_row : read_led with_translations end (first ∷ words) ≡ Ok said → is_reading said.row ≡ bytes_eq first.text (codes "reading")
  unfolding read_led
  led_row e = by_tool (is_word (codes "netlabelctl") first) refl e where
    by_tool : (b : Bool) → is_word (codes "netlabelctl") first ≡ b
        → ◌≡◌ {A = Result Said LineStop} (elim (cond b (Some words) None) as (λ _. Result Said LineStop) [
          | Some rest ↦ read_said with_translations (line_rows true with_translations) end rest
          | None ↦ read_said with_translations (line_rows false with_translations) end (first ∷ words)
        ]) (Ok said) → is_reading said.row ≡ bytes_eq first.text (codes "reading")
    by_tool true is e = led_command words e ∙ sym (ap (λ (t : List ℕ). bytes_eq t (codes "reading")) (text_is first.text (codes "netlabelctl") is))
    by_tool false is e = alone_row e

-- ---- a line

-- the current node's number and its name
abbrev IsCurrent : List (List ℕ) → Option ℕ → Option (List ℕ) → Type 0
IsCurrent nodes None None = Unit {0}
IsCurrent nodes (Some number) (Some name) = slice_get nodes number ≡ Some name
IsCurrent nodes number name = ⊥

abbrev node_of_place : CommandPlace → Option (List ℕ)
node_of_place place = Some place.node

abbrev node_of_step : List (List ℕ) → Step → Option (List ℕ)
node_of_step nodes step = slice_get nodes step.node

-- Nodes and steps stand behind those above, and these places are those of the steps.
record AddsPlaces (above next : Above) (node' : Option (List ℕ)) (places : List CommandPlace) : Type 0 where
  nodes : List (List ℕ)
  steps : List Step
  nodes_are : next.nodes ≡ above.nodes ++ nodes
  steps_are : next.steps ≡ above.steps ++ steps
  places_are : (more : List (List ℕ)) → map node_of_place places ≡ map (node_of_step (next.nodes ++ more)) steps
  current : IsCurrent next.nodes next.current node'

-- nothing but flows and readings
keeps : (above next : Above) (node : Option (List ℕ)) → next.nodes ≡ above.nodes → next.steps ≡ above.steps → next.current ≡ above.current → IsCurrent above.nodes above.current node → AddsPlaces above next node []
keeps above next node nodes steps current is = record {
  nodes = [];
  steps = [];
  nodes_are = nodes ∙ sym (append-nil above.nodes);
  steps_are = steps ∙ sym (append-nil above.steps);
  places_are = λ more. refl;
  current = subst (λ (c : Option ℕ). IsCurrent next.nodes c node) (sym current) (subst (λ (ns : List (List ℕ)). IsCurrent ns above.current node) (sym nodes) is);
}

node_adds : (above : Above) (name : List ℕ) (place : Option ℕ) → position (bytes_eq name) above.nodes ≡ place → AddsPlaces above (at_number above name place) (Some name) []
node_adds above name (Some number) is =
    let found = position-Some (bytes_eq name) above.nodes number name is in
    record {
      nodes = [];
      steps = [];
      nodes_are = sym (append-nil above.nodes);
      steps_are = sym (append-nil above.steps);
      places_are = λ more. refl;
      current = slice_get-get_or above.nodes number name found.0 ∙ ap Some (sym (text_is name (get_or above.nodes number name) found.1));
    }
node_adds above name None is = record {
  nodes = name ∷ [];
  steps = [];
  nodes_are = refl;
  steps_are = sym (append-nil above.steps);
  places_are = λ more. refl;
  current = get_last above.nodes name;
}

step_adds : (above : Above) (node number : ℕ) (named : Option (List ℕ)) (command : Command) → above.current ≡ Some node → IsCurrent above.nodes (Some node) named
    → AddsPlaces above (with_step above node command) named (place_under named number)
step_adds above node number (Some name) command at is = record {
  nodes = [];
  steps = (record { node = node; command = command }) ∷ [];
  nodes_are = sym (append-nil above.nodes);
  steps_are = refl;
  places_are = λ more. ap (λ (n : Option (List ℕ)). n ∷ []) (sym (get_front above.nodes more node name is));
  current = subst (λ (c : Option ℕ). IsCurrent above.nodes c (Some name)) (sym at) is;
}
step_adds above node number None command at is = absurd is

module _ (own : List ℕ) (above next : Above) (number : ℕ) (node : Option (List ℕ)) (current : IsCurrent above.nodes above.current node) where
  abbrev Added : List LineWord → Type 0
  Added words = AddsPlaces above next (node_behind node words) (place_in node number words)

  -- of a line that names no node
  other_node : (first : LineWord) (words : List LineWord) → bytes_eq first.text (codes "node") ≡ false → node_behind node (first ∷ words) ≡ node
  other_node first [] is = refl
  other_node first (name ∷ words) is = rw is refl

  name_line : (end : ℕ) (first : LineWord) (words : List LineWord) → bytes_eq first.text (codes "node") ≡ true → read_node above end words ≡ Ok next → Added (first ∷ words)
  name_line end first [] is e = absurd (let w = went (read_only_name end []) (λ name. Ok (at_node above name)) next e in not_ok w.0 _ w.1)
  name_line end first (word ∷ []) is e =
      let w = went (read_only_name end (word ∷ [])) (λ name. Ok (at_node above name)) next e in
      let v = went (ok_or (name_of_text word.text) (fault word.at Kind.Value)) (λ n. alone n []) w.0 w.1 in
      let named : name_of_text word.text ≡ Some w.0 = ok_or_went (name_of_text word.text) _ v.0 v.1 ∙ ap Some (same_ok v.0 w.0 v.2) in
      rw (is, named) (subst (λ (a : Above). AddsPlaces above a (Some w.0) []) (same_ok (at_node above w.0) next w.2) (node_adds above w.0 (position (bytes_eq w.0) above.nodes) refl))
  name_line end first (word ∷ more ∷ words) is e =
      absurd (let w = went (read_only_name end (word ∷ more ∷ words)) (λ name. Ok (at_node above name)) next e in
      let v = went (ok_or (name_of_text word.text) (fault word.at Kind.Value)) (λ n. alone n (more ∷ words)) w.0 w.1 in
      not_ok w.0 _ v.2)

  flow_line : (end : ℕ) (first : LineWord) (words : List LineWord) → bytes_eq first.text (codes "node") ≡ false → bytes_eq first.text (codes "flow") ≡ true → read_flow_line own above end words ≡ Ok next → Added (first ∷ words)
  flow_line end first words other is e =
      let w = went (read_flow own above.nodes above.flows (length above.steps) end words) (λ flow. Ok (with_flow above flow)) next e in
      let flow_text : first.text ≡ codes "flow" = text_is first.text (codes "flow") is in
      let none : place_in node number (first ∷ words) ≡ [] = ap (λ (t : List ℕ). cond (not (is_no_command t)) (place_under node number) []) flow_text in
      subst (AddsPlaces above next (node_behind node (first ∷ words))) (sym none)
      (subst (λ (n : Option (List ℕ)). AddsPlaces above next n []) (sym (other_node first words other))
      (subst (λ (a : Above). AddsPlaces above a node []) (same_ok (with_flow above w.0) next w.2) (keeps above (with_flow above w.0) node refl refl refl current)))

  reading_line : (place at : ℕ) (said : Said) → read_reading above at place said.fields ≡ Ok next → AddsPlaces above next node []
  reading_line place at said e = by_test (has_reading above at) e where
    by_test : (b : Bool) → ◌≡◌ {A = Result Above LineStop} (cond b (Err (fault place Kind.ReadingTwice)) (and_next (read_meanings place (named_by said.fields)) (λ named. Ok (with_reading above at named)))) (Ok next)
        → AddsPlaces above next node []
    by_test true e = absurd (not_ok next _ e)
    by_test false e =
        let w = went (read_meanings place (named_by said.fields)) (λ named. Ok (with_reading above at named)) next e in
        subst (λ (a : Above). AddsPlaces above a node []) (same_ok (with_reading above at w.0) next w.2) (keeps above (with_reading above at w.0) node refl refl refl current)

  said_line : (at place end : ℕ) (said : Said) → above.current ≡ Some at → with_said above at place end said ≡ Ok next
      → AddsPlaces above next node (cond (is_reading said.row) [] (place_under node number))
  said_line at place end said is e = by_test (is_reading said.row) e where
    by_test : (b : Bool) → ◌≡◌ {A = Result Above LineStop} (cond b (read_reading above at place said.fields)
        (and_next (ok_or (command_of said.row said.fields) (fault end Kind.Missing)) (λ command. Ok (with_step above at command)))) (Ok next) → AddsPlaces above next node (cond b [] (place_under node number))
    by_test true e = reading_line place at said e
    by_test false e =
        let w = went (ok_or (command_of said.row said.fields) (fault end Kind.Missing)) (λ command. Ok (with_step above at command)) next e in
        subst (λ (a : Above). AddsPlaces above a node (place_under node number)) (same_ok (with_step above at w.0) next w.2)
        (step_adds above at number node w.0 is (subst (λ (c : Option ℕ). IsCurrent above.nodes c node) is current))

  -- a line of the table has a place exactly where its first word isn't `reading`
  places_told : (b : Bool) (first : LineWord) (words : List LineWord) → bytes_eq first.text (codes "node") ≡ false → bytes_eq first.text (codes "flow") ≡ false → bytes_eq first.text (codes "reading") ≡ b
      → place_in node number (first ∷ words) ≡ cond b [] (place_under node number)
  places_told true first words no_node no_flow is = rw (no_node, is) refl
  places_told false first words no_node no_flow is = rw (no_node, is, no_flow) refl

  table_line : (end : ℕ) (first : LineWord) (words : List LineWord) → bytes_eq first.text (codes "node") ≡ false → bytes_eq first.text (codes "flow") ≡ false
      → read_table with_translations above end first (first ∷ words) ≡ Ok next → Added (first ∷ words)
  table_line end first words no_node no_flow e = by_current above.current refl e where
    by_current : (number' : Option ℕ) → above.current ≡ number'
        → ◌≡◌ {A = Result Above LineStop} (elim number' as (λ _. Result Above LineStop) [
          | Some at ↦ and_next (read_led with_translations end (first ∷ words)) (with_said above at first.at end)
          | None ↦ Err (fault first.at (cond (starts_table with_translations first) Kind.NoNode Kind.Word))
        ]) (Ok next) → Added (first ∷ words)
    by_current None is e = absurd (not_ok next _ e)
    by_current (Some at) is e =
        let w = went (read_led with_translations end (first ∷ words)) (with_said above at first.at end) next e in
        let told = said_line at first.at end w.0 is w.2 in
        let row : is_reading w.0.row ≡ bytes_eq first.text (codes "reading") = led_row end first words w.0 w.1 in
        let places : place_in node number (first ∷ words) ≡ cond (is_reading w.0.row) [] (place_under node number) = places_told (is_reading w.0.row) first words no_node no_flow (sym row) in
        subst (AddsPlaces above next (node_behind node (first ∷ words))) (sym places)
        (subst (λ (n : Option (List ℕ)). AddsPlaces above next n (cond (is_reading w.0.row) [] (place_under node number))) (sym (other_node first words no_node)) told)

  words_line : (end : ℕ) (words : List LineWord) → read_words with_translations own above end words ≡ Ok next → Added words
  unfolding read_words
  words_line end [] e = subst (λ (a : Above). AddsPlaces above a node []) (same_ok above next e) (keeps above above node refl refl refl current)
  words_line end (first ∷ words) e = by_node (is_word (codes "node") first) refl e where
    by_flow : (b : Bool) → is_word (codes "flow") first ≡ b → is_word (codes "node") first ≡ false
        → ◌≡◌ {A = Result Above LineStop} (cond b (read_flow_line own above end words) (read_table with_translations above end first (first ∷ words))) (Ok next) → Added (first ∷ words)
    by_flow true is other e = flow_line end first words other is e
    by_flow false is other e = table_line end first words other is e

    by_node : (b : Bool) → is_word (codes "node") first ≡ b
        → ◌≡◌ {A = Result Above LineStop} (cond b (read_node above end words) (cond (is_word (codes "flow") first) (read_flow_line own above end words) (read_table with_translations above end first (first ∷ words)))) (Ok next)
        → Added (first ∷ words)
    by_node true is e = name_line end first words is e
    by_node false is e = by_flow (is_word (codes "flow") first) refl is e

  whole_line : (line : List ℕ) → read_line with_translations own above number line ≡ Ok next → Added (words_of_line line)
  unfolding read_line
  whole_line line e = by_tests (position (λ octet. not (is_plain octet)) line) (limit_passed above number (words_of_line line)) e where
    by_tests : (place : Option ℕ) (limit : Option LimitName)
        → ◌≡◌ {A = Result Above LineStop} (elim place as (λ _. Result Above LineStop) [
          | Some at ↦ Err (fault at Kind.Octet)
          | None ↦ elim limit as (λ _. Result Above LineStop) [ Some what ↦ Err (Of.Limit what) | None ↦ read_words with_translations own above (length line) (words_of_line line) ]
        ]) (Ok next) → Added (words_of_line line)
    by_tests (Some at) limit e = absurd (not_ok next _ e)
    by_tests None (Some what) e = absurd (not_ok next _ e)
    by_tests None None e = words_line (length line) (words_of_line line) e

-- ---- all lines

-- Steps stand behind those above, and the places of the lines are those of the steps.
record AreAdded (above last : Above) (places : List CommandPlace) : Type 0 where
  nodes : List (List ℕ)
  steps : List Step
  nodes_are : last.nodes ≡ above.nodes ++ nodes
  steps_are : last.steps ≡ above.steps ++ steps
  places_are : map node_of_place places ≡ map (node_of_step last.nodes) steps

-- a line in front of others
in_front : (above next last : Above) (node' : Option (List ℕ)) (places behind : List CommandPlace) → AddsPlaces above next node' places → AreAdded next last behind → AreAdded above last (places ++ behind)
in_front above next last node' places behind line rest = record {
  nodes = line.nodes ++ rest.nodes;
  steps = line.steps ++ rest.steps;
  nodes_are = rest.nodes_are ∙ ap (λ ns. ns ++ rest.nodes) line.nodes_are ∙ append_assoc above.nodes line.nodes rest.nodes;
  steps_are = rest.steps_are ∙ ap (λ ss. ss ++ rest.steps) line.steps_are ∙ append_assoc above.steps line.steps rest.steps;
  places_are =
      let first : map node_of_place places ≡ map (node_of_step last.nodes) line.steps = subst (λ (ns : List (List ℕ)). map node_of_place places ≡ map (node_of_step ns) line.steps) (sym rest.nodes_are) (line.places_are rest.nodes) in
      map-append node_of_place places behind
      ∙ ap (λ ps. ps ++ map node_of_place behind) first
      ∙ ap (λ ps. map (node_of_step last.nodes) line.steps ++ ps) rest.places_are
      ∙ sym (map-append (node_of_step last.nodes) line.steps rest.steps);
}

abbrev go_on : List ℕ → ℕ → List (List ℕ) → Result Above LineStop → Result Above ScriptStop
go_on own number rest (Ok next) = read_lines with_translations own next (number + 1) rest
go_on own number rest (Err stop) = Err (stop_at number stop)

lines_add : (own : List ℕ) (texts : List (List ℕ)) (above last : Above) (number : ℕ) (named : Option (List ℕ)) → IsCurrent above.nodes above.current named
    → read_lines with_translations own above number texts ≡ Ok last → AreAdded above last (places_from named number texts)
lines_add own [] above last number named current e = record {
  nodes = [];
  steps = [];
  nodes_are = ap (λ (a : Above). a.nodes) (sym (same_ok above last e)) ∙ sym (append-nil above.nodes);
  steps_are = ap (λ (a : Above). a.steps) (sym (same_ok above last e)) ∙ sym (append-nil above.steps);
  places_are = refl;
}
lines_add own (line ∷ texts) above last number named current e = by_line (read_line with_translations own above number line) refl e (λ next. lines_add own texts next last (number + 1) (node_behind named (words_of_line line))) where
  by_line : (r : Result Above LineStop) → read_line with_translations own above number line ≡ r → go_on own number texts r ≡ Ok last
      → ((next : Above) → IsCurrent next.nodes next.current (node_behind named (words_of_line line)) → read_lines with_translations own next (number + 1) texts ≡ Ok last
      → AreAdded next last (places_from (node_behind named (words_of_line line)) (number + 1) texts))
      → AreAdded above last (places_from named number (line ∷ texts))
  by_line (Err stop) is e rest = absurd (not_ok last _ e)
  by_line (Ok next) is e rest =
      let added = whole_line own above next number named current line is in
      in_front above next last (node_behind named (words_of_line line)) (place_in named number (words_of_line line)) (places_from (node_behind named (words_of_line line)) (number + 1) texts) added
      (rest next added.current e)

-- ---- a script

abbrev ArePlaces : List ℕ → Script → Type 0
ArePlaces text script = map node_of_place (places_of text) ≡ map (node_of_step script.nodes) script.steps

abbrev whole : Result Above ScriptStop → Result Script ScriptStop
whole (Ok above) = Ok (script_of above)
whole (Err stop) = Err stop

pub places_are_steps : (file text : List ℕ) (script : Script) → script_read file text ≡ Ok script → map (λ place. Some place.node) (places_of text) ≡ map (λ step. slice_get script.nodes step.node) script.steps
unfolding read_text
places_are_steps file text script e = by_length (ltb 1048576 (length text)) e where
  by_lines : (r : Result Above ScriptStop) → read_lines with_translations file nothing_above 1 (lines text) ≡ r → whole r ≡ Ok script → ArePlaces text script
  by_lines (Err stop) is e = absurd (not_ok script stop e)
  by_lines (Ok last) is e =
      let added = lines_add file (lines text) nothing_above last 1 None tt is in
      let same : script_of last ≡ script = same_ok (script_of last) script e in
      subst (ArePlaces text) same
      (added.places_are ∙ ap (map (node_of_step last.nodes)) (sym added.steps_are))

  by_length : (b : Bool) → ◌≡◌ {A = Result Script ScriptStop} (cond b (Err (passed Octets)) (whole (read_lines with_translations file nothing_above 1 (lines text)))) (Ok script) → ArePlaces text script
  by_length true e = absurd (not_ok script _ e)
  by_length false e = by_lines (read_lines with_translations file nothing_above 1 (lines text)) refl e
