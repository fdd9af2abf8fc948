-- What a line says, under those above it, or why it is refused.
use Rattle.std.specs.Prelude.{ℕ, Bool, true, false, not, ◌&&◌, ◌||◌, nat_le, nat_lt, List, [], ◌∷◌, length, codes, Option, Some, None, is_none, ok_or, unwrap_or, position, Result, Ok, Err, if◌then◌else◌}
use Rattle.std.specs.Str.{bytes_eq}
use Rattle.script_lines.specs.declared.stop.ScriptKind.TheVariants as Kind
use Rattle.script_lines.specs.declared.stop.LimitName.{LimitName}
use Rattle.script_lines.specs.declared.stop.LimitName.TheVariants.{Octets, Lines, Nodes, Flows, Hops}
use Rattle.script_lines.specs.declared.stop.LineStop.{LineStop}
use Rattle.script_lines.specs.declared.stop.LineStop.TheVariants as Stop
use Rattle.script_lines.specs.Octet.{is_plain}
use Rattle.script_lines.specs.Word.{LineWord, words_of_line}
use Rattle.script_lines.specs.Stop.{fault, and_next}
use Rattle.domain_map.specs.address_text.Name.{is_name, name_of_text}
use Rattle.label_commands.specs.declared.node_readings.fault.ReadingFault.{ReadingFault}
use Rattle.label_commands.specs.declared.node_readings.fault.ReadingFault.TheVariants as Unread
use Rattle.label_commands.specs.node_readings.Reading.{NamedMeanings, reading_fault}
use Rattle.script_lines.specs.declared.row.Row.{Row}
use Rattle.script_lines.specs.declared.row.Row.TheVariants.{Reading}
use Rattle.script_lines.specs.declared.fields.Fields.{Fields}
use Rattle.script_lines.specs.declared.said.Said.{Said}
use Rattle.script_lines.specs.Form.{Edition, line_rows}
use Rattle.script_lines.specs.Said.{begins_line, read_said}
use Rattle.script_lines.specs.Command.{command_of}
use Rattle.label_commands.specs.flow_lines.Flow.{read_flow}
use Rattle.label_commands.specs.Above.{Above, at_node, with_step, has_reading, with_reading, with_flow}

-- the word has this text
abbrev pub is_word : List ℕ → LineWord → Bool
is_word text word = bytes_eq word.text text

-- a line of a node

-- nothing stands behind the name
abbrev pub alone : List ℕ → List LineWord → Result (List ℕ) LineStop
alone name [] = Ok name
alone name (next ∷ words) = Err (fault next.at Kind.Extra)

-- one name and nothing behind it
abbrev pub read_only_name : ℕ → List LineWord → Result (List ℕ) LineStop
read_only_name end [] = Err (fault end Kind.Missing)
read_only_name end (word ∷ words) = and_next (ok_or (name_of_text word.text) (fault word.at Kind.Value)) (λ name. alone name words)

-- the words behind `node`
abbrev pub read_node : Above → ℕ → List LineWord → Result Above LineStop
read_node above end words = and_next (read_only_name end words) (λ name. Ok (at_node above name))

-- a line of a reading

-- what the parameters name
abbrev pub named_by : Fields → NamedMeanings
named_by fields = record { levels = unwrap_or fields.reading_levels []; cats = unwrap_or fields.reading_categories [] }

-- why they are no reading, at the line's first word
abbrev pub reading_stop : ℕ → ReadingFault → LineStop
reading_stop place Unread.NotIncreasing = fault place Kind.NotIncreasing
reading_stop place Unread.NotDistinct = fault place Kind.NotDistinct
reading_stop place Unread.OutOfMemory = Stop.OutOfMemory

-- meanings that are strictly increasing and distinct
abbrev pub read_meanings : ℕ → NamedMeanings → Result NamedMeanings LineStop
read_meanings place named = elim (reading_fault named.levels named.cats) [
  | Some unread ↦ Err (reading_stop place unread)
  | None ↦ Ok named
]

-- the reading of a node, which has none yet
abbrev pub read_reading : Above → ℕ → ℕ → Fields → Result Above LineStop
read_reading above node place fields =
    if has_reading above node then Err (fault place Kind.ReadingTwice)
    else and_next (read_meanings place (named_by fields)) (λ named. Ok (with_reading above node named))

-- a line of the table of forms

-- the row of the line of readings
abbrev pub is_reading : Row → Bool
is_reading Reading = true
is_reading row = false

-- what the line of a row adds for a node; the line begins at a place
abbrev pub with_said : Above → ℕ → ℕ → ℕ → Said → Result Above LineStop
with_said above node place end said =
    if is_reading said.row then read_reading above node place said.fields
    else and_next (ok_or (command_of said.row said.fields) (fault end Kind.Missing)) (λ command. Ok (with_step above node command))

-- what stands behind a leading `netlabelctl`
abbrev pub behind_tool : List LineWord → Option (List LineWord)
behind_tool [] = None
behind_tool (first ∷ words) = if is_word (codes "netlabelctl") first then Some words else None

-- a row of the table; a reading isn't led by `netlabelctl`
unfoldable pub read_led : Edition → ℕ → List LineWord → Result Said LineStop
read_led edition end words = elim (behind_tool words) [
  | Some rest ↦ read_said edition (line_rows true edition) end rest
  | None ↦ read_said edition (line_rows false edition) end words
]

-- the word begins a command or a reading
unfoldable pub starts_table : Edition → LineWord → Bool
starts_table edition word = is_word (codes "netlabelctl") word || begins_line edition word.text

-- a command or a reading is that of the current node
abbrev pub read_table : Edition → Above → ℕ → LineWord → List LineWord → Result Above LineStop
read_table edition above end first words = elim above.current [
  | Some node ↦ and_next (read_led edition end words) (with_said above node first.at end)
  | None ↦ Err (fault first.at (if starts_table edition first then Kind.NoNode else Kind.Word))
]

-- each line

-- the words behind `flow`
abbrev pub read_flow_line : List ℕ → Above → ℕ → List LineWord → Result Above LineStop
read_flow_line own above end words = and_next (read_flow own above.nodes above.flows (length above.steps) end words) (λ flow. Ok (with_flow above flow))

-- what is above with one line more, by its words
unfoldable pub read_words : Edition → List ℕ → Above → ℕ → List LineWord → Result Above LineStop
read_words edition own above end [] = Ok above
read_words edition own above end (first ∷ words) =
    if is_word (codes "node") first then read_node above end words
    else (if is_word (codes "flow") first then read_flow_line own above end words
    else read_table edition above end first (first ∷ words))

-- the line names a node that no line above names
abbrev pub names_new_node : Above → List LineWord → Bool
names_new_node above (first ∷ word ∷ words) = is_word (codes "node") first && (is_name word.text && is_none (position (bytes_eq word.text) above.nodes))
names_new_node above words = false

-- the words begin a flow
abbrev pub is_flow_line : List LineWord → Bool
is_flow_line [] = false
is_flow_line (first ∷ words) = is_word (codes "flow") first

-- the most octets and lines of a script, nodes that it names, flows, and hops of a flow
abbrev pub limit_of : LimitName → ℕ
limit_of Octets = 1048576
limit_of Lines = 16384
limit_of Nodes = 32
limit_of Flows = 256
limit_of Hops = 16

-- the first limit that the line passes; lines are counted from 1
unfoldable pub limit_passed : Above → ℕ → List LineWord → Option LimitName
limit_passed above number words =
    if nat_lt (limit_of Lines) number then Some Lines
    else (if names_new_node above words && nat_le (limit_of Nodes) (length above.nodes) then Some Nodes
    else (if is_flow_line words && nat_le (limit_of Flows) (length above.flows) then Some Flows else None))

-- What the lines say up to this one, or why this one is refused: its octets are tested first, then the limits, then its words.
unfoldable pub read_line : Edition → List ℕ → Above → ℕ → List ℕ → Result Above LineStop
read_line edition own above number line = elim (position (λ octet. not (is_plain octet)) line) [
  | Some place ↦ Err (fault place Kind.Octet)
  | None ↦ elim (limit_passed above number (words_of_line line)) [
    | Some what ↦ Err (Stop.Limit what)
    | None ↦ read_words edition own above (length line) (words_of_line line)
  ]
]
