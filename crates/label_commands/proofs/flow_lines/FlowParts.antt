-- What a flow's words say, one after another.
use Rattle.std.proofs.Common.{◌≡◌, ℕ, Bool, true, false, cond, not, List, [], ◌∷◌, Option, Some, None, Result, Ok, Err, refl, subst, ◌∙◌}
use Rattle.std.specs.Prelude.{codes, drop}
use Rattle.std.specs.Str.{bytes_eq}
use Rattle.std.proofs.lemmas.Option.{none-some, same_Some}
use Rattle.script_lines.specs.declared.stop.ScriptKind.TheVariants as Kind
use Rattle.script_lines.specs.declared.stop.LineStop.{LineStop}
use Rattle.script_lines.specs.Word.{LineWord}
use Rattle.script_lines.specs.Stop.{fault, and_next}
use Rattle.label_commands.specs.declared.flow_lines.hop.Hop.{Hop}
use Rattle.label_commands.specs.declared.flow_lines.flow.FlowLine.{FlowLine}
use Rattle.label_commands.specs.flow_lines.FileName.{is_file_name}
use Rattle.label_commands.specs.flow_lines.Flow.{outputs_of, is_among, is_taken, read_input, read_output, read_route, read_behind_input, read_flow}
use Rattle.label_commands.proofs.flow_lines.Stops.{went, same_ok, not_ok}

pub record FlowSaid (own : List ℕ) (nodes : List (List ℕ)) (flows : List FlowLine) (end : ℕ) (words : List LineWord) (flow : FlowLine) : Type 0 where
  pub first : LineWord
  pub second : LineWord
  pub input : read_input flows first ≡ Ok flow.input
  pub output : read_output own flows flow.input second ≡ Ok flow.output
  pub hops : read_route nodes end (drop 2 words) ≡ Ok flow.hops

said_behind : (own : List ℕ) (nodes : List (List ℕ)) (flows : List FlowLine) (before end : ℕ) (first : LineWord) (input : List ℕ) (words : List LineWord) (flow : FlowLine)
    → read_input flows first ≡ Ok input → read_behind_input own nodes flows before end input words ≡ Ok flow → FlowSaid own nodes flows end (first ∷ words) flow
said_behind own nodes flows before end first input [] flow is e = absurd (not_ok flow _ e)
said_behind own nodes flows before end first input (word ∷ words) flow is e =
    let made = λ (output : Option (List ℕ)) (hops : List Hop). let f : FlowLine = record { input = input; output = output; hops = hops; before = before } in f in
    let output = went (read_output own flows input word) (λ o. and_next (read_route nodes end words) (λ hs. Ok (made o hs))) flow e in
    let hops = went (read_route nodes end words) (λ hs. Ok (made output.0 hs)) flow output.2 in
    subst (FlowSaid own nodes flows end (first ∷ word ∷ words)) (same_ok (made output.0 hops.0) flow hops.2)
    (record { first = first; second = word; input = is; output = output.1; hops = hops.1 })

pub flow_said : (own : List ℕ) (nodes : List (List ℕ)) (flows : List FlowLine) (before end : ℕ) (words : List LineWord) (flow : FlowLine)
    → read_flow own nodes flows before end words ≡ Ok flow → FlowSaid own nodes flows end words flow
unfolding read_flow
flow_said own nodes flows before end [] flow e = absurd (not_ok flow _ e)
flow_said own nodes flows before end (word ∷ words) flow e =
    let input = went (read_input flows word) (λ i. read_behind_input own nodes flows before end i words) flow e in
    said_behind own nodes flows before end word input.0 words flow input.1 input.2

-- an input that is read is no output
pub input_is_no_output : (flows : List FlowLine) (word : LineWord) (input : List ℕ) → read_input flows word ≡ Ok input → is_among (outputs_of flows) input ≡ false
input_is_no_output flows word input e = by_tests (fault word.at Kind.Value) (fault word.at Kind.NameTwice) (is_file_name word.text) (is_among (outputs_of flows) word.text) refl e where
  by_tests : (value twice : LineStop) (fits there : Bool) → is_among (outputs_of flows) word.text ≡ there
      → ◌≡◌ {A = Result (List ℕ) LineStop} (cond (not fits) (Err value) (cond there (Err twice) (Ok word.text))) (Ok input) → is_among (outputs_of flows) input ≡ false
  by_tests value twice false there is e = absurd (not_ok input value e)
  by_tests value twice true true is e = absurd (not_ok input twice e)
  by_tests value twice true false is e = subst (λ t. is_among (outputs_of flows) t ≡ false) (same_ok word.text input e) is

-- an output that is read is no name that is taken
pub output_is_free : (own : List ℕ) (flows : List FlowLine) (input : List ℕ) (word : LineWord) (read : Option (List ℕ)) (output : List ℕ)
    → read_output own flows input word ≡ Ok read → read ≡ Some output → is_taken own flows input output ≡ false
output_is_free own flows input word read output e some = by_tests (fault word.at Kind.Value) (fault word.at Kind.NameTwice) (bytes_eq word.text (codes "-")) (is_file_name word.text) (is_taken own flows input word.text) refl e where
  by_tests : (value twice : LineStop) (none fits taken : Bool) → is_taken own flows input word.text ≡ taken
      → ◌≡◌ {A = Result (Option (List ℕ)) LineStop} (cond none (Ok None) (cond (not fits) (Err value) (cond taken (Err twice) (Ok (Some word.text))))) (Ok read)
      → is_taken own flows input output ≡ false
  by_tests value twice true fits taken is e = absurd (none-some output (same_ok None read e ∙ some))
  by_tests value twice false false taken is e = absurd (not_ok read value e)
  by_tests value twice false true true is e = absurd (not_ok read twice e)
  by_tests value twice false true false is e = subst (λ t. is_taken own flows input t ≡ false) (same_Some word.text output (same_ok (Some word.text) read e ∙ some)) is
