-- What an edition of the grammar keeps of an earlier one.
use Rattle.std.proofs.Common.{◌≡◌, ℕ, ◌+◌, Bool, true, false, cond, not, List, [], ◌∷◌, length, Option, Some, None, Result, Ok, Err, ap, ◌∙◌}
use Rattle.std.specs.Prelude.{codes, position}
use Rattle.std.specs.Str.Lines.{lines}
use Rattle.script_lines.specs.declared.stop.ScriptKind.TheVariants as Kind
use Rattle.script_lines.specs.declared.stop.LimitName.{LimitName}
use Rattle.script_lines.specs.declared.stop.LineStop.{LineStop}
use Rattle.script_lines.specs.declared.stop.LineStop.TheVariants as Of
use Rattle.script_lines.specs.Octet.{is_plain}
use Rattle.script_lines.specs.Word.{LineWord, words_of_line}
use Rattle.script_lines.specs.Stop.{fault, and_next}
use Rattle.script_lines.specs.declared.said.Said.{Said}
use Rattle.script_lines.specs.Form.{Edition, line_rows}
use Rattle.script_lines.specs.Said.{read_said}
use Rattle.label_commands.specs.declared.script.Script.{Script}
use Rattle.label_commands.specs.Above.{Above, nothing_above}
use Rattle.label_commands.specs.Line.{is_word, read_node, with_said, behind_tool, read_led, starts_table, read_table, read_flow_line, read_words, limit_passed, read_line}
use Rattle.label_commands.specs.Script.{read_lines, IsScript}
use Rattle.label_commands.proofs.Results.{not_ok, went}
use Rattle.label_commands.proofs.Texts.{text_went, text_says}
use Rattle.label_commands.proofs.Walk.{go_on}

-- what the old edition reads of a row's words, the new one reads
abbrev pub KeepsRows : Edition → Edition → Type 0
KeepsRows old new = (end : ℕ) (words : List LineWord) (said : Said) → read_led old end words ≡ Ok said → read_led new end words ≡ Ok said

pub rows_kept : (old new : Edition)
    → ((led : Bool) (end : ℕ) (words : List LineWord) (said : Said) → read_said old (line_rows led old) end words ≡ Ok said → read_said new (line_rows led new) end words ≡ Ok said)
    → KeepsRows old new
unfolding read_led
rows_kept old new kept end words said e = by_tool (behind_tool words) e where
  by_tool : (tool : Option (List LineWord))
      → ◌≡◌ {A = Result Said LineStop} (elim tool as (λ _. Result Said LineStop) [
        | Some rest ↦ read_said old (line_rows true old) end rest
        | None ↦ read_said old (line_rows false old) end words
      ]) (Ok said)
      → ◌≡◌ {A = Result Said LineStop} (elim tool as (λ _. Result Said LineStop) [
        | Some rest ↦ read_said new (line_rows true new) end rest
        | None ↦ read_said new (line_rows false new) end words
      ]) (Ok said)
  by_tool (Some rest) e = kept true end rest said e
  by_tool None e = kept false end words said e

module _ (old new : Edition) (kept : KeepsRows old new) (own : List ℕ) where
  table_kept : (above next : Above) (end : ℕ) (first : LineWord) (words : List LineWord) → read_table old above end first words ≡ Ok next → read_table new above end first words ≡ Ok next
  table_kept above next end first words e = by_current above.current e where
    by_current : (current : Option ℕ)
        → ◌≡◌ {A = Result Above LineStop} (elim current as (λ _. Result Above LineStop) [
          | Some node ↦ and_next (read_led old end words) (with_said above node first.at end)
          | None ↦ Err (fault first.at (cond (starts_table old first) Kind.NoNode Kind.Word))
        ]) (Ok next)
        → ◌≡◌ {A = Result Above LineStop} (elim current as (λ _. Result Above LineStop) [
          | Some node ↦ and_next (read_led new end words) (with_said above node first.at end)
          | None ↦ Err (fault first.at (cond (starts_table new first) Kind.NoNode Kind.Word))
        ]) (Ok next)
    by_current None e = absurd (not_ok next _ e)
    by_current (Some node) e =
        let w = went (read_led old end words) (with_said above node first.at end) next e in
        ap (λ (r : Result Said LineStop). and_next r (with_said above node first.at end)) (kept end words w.0 w.1) ∙ w.2

  words_kept : (above next : Above) (end : ℕ) (words : List LineWord) → read_words old own above end words ≡ Ok next → read_words new own above end words ≡ Ok next
  unfolding read_words
  words_kept above next end [] e = e
  words_kept above next end (first ∷ words) e = by_tests (is_word (codes "node") first) (is_word (codes "flow") first) e where
    by_tests : (n f : Bool)
        → ◌≡◌ {A = Result Above LineStop} (cond n (read_node above end words) (cond f (read_flow_line own above end words) (read_table old above end first (first ∷ words)))) (Ok next)
        → ◌≡◌ {A = Result Above LineStop} (cond n (read_node above end words) (cond f (read_flow_line own above end words) (read_table new above end first (first ∷ words)))) (Ok next)
    by_tests true f e = e
    by_tests false true e = e
    by_tests false false e = table_kept above next end first (first ∷ words) e

  line_kept : (above next : Above) (number : ℕ) (line : List ℕ) → read_line old own above number line ≡ Ok next → read_line new own above number line ≡ Ok next
  unfolding read_line
  line_kept above next number line e = by_tests (position (λ octet. not (is_plain octet)) line) (limit_passed above number (words_of_line line)) e where
    by_tests : (place : Option ℕ) (passed : Option LimitName)
        → ◌≡◌ {A = Result Above LineStop} (elim place as (λ _. Result Above LineStop) [
          | Some at ↦ Err (fault at Kind.Octet)
          | None ↦ elim passed as (λ _. Result Above LineStop) [ Some what ↦ Err (Of.Limit what) | None ↦ read_words old own above (length line) (words_of_line line) ]
        ]) (Ok next)
        → ◌≡◌ {A = Result Above LineStop} (elim place as (λ _. Result Above LineStop) [
          | Some at ↦ Err (fault at Kind.Octet)
          | None ↦ elim passed as (λ _. Result Above LineStop) [ Some what ↦ Err (Of.Limit what) | None ↦ read_words new own above (length line) (words_of_line line) ]
        ]) (Ok next)
    by_tests (Some at) passed e = absurd (not_ok next _ e)
    by_tests None (Some what) e = absurd (not_ok next _ e)
    by_tests None None e = words_kept above next (length line) (words_of_line line) e

  lines_kept : (rest : List (List ℕ)) (above last : Above) (number : ℕ) → read_lines old own above number rest ≡ Ok last → read_lines new own above number rest ≡ Ok last
  lines_kept [] above last number e = e
  lines_kept (line ∷ rest) above last number e = by_line (read_line old own above number line) (λ next is. line_kept above next number line is) e (λ next. lines_kept rest next last (number + 1)) where
    by_line : (r : Result Above LineStop) → ((next : Above) → r ≡ Ok next → read_line new own above number line ≡ Ok next) → go_on old own number rest r ≡ Ok last
        → ((next : Above) → read_lines old own next (number + 1) rest ≡ Ok last → read_lines new own next (number + 1) rest ≡ Ok last)
        → read_lines new own above number (line ∷ rest) ≡ Ok last
    by_line (Err stop) same e go = absurd (not_ok last _ e)
    by_line (Ok next) same e go = ap (go_on new own number rest) (same next (λ i. Ok next)) ∙ go next e

  pub script_kept : (text : List ℕ) (script : Script) → IsScript old own text script → IsScript new own text script
  script_kept text script e =
      let said = text_went old own text script e in
      text_says new own text script (record { few = said.few; last = said.last; said = lines_kept (lines text) nothing_above said.last 1 said.said; is = said.is })
