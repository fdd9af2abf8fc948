-- Written commands are steps, and a listing of them is lines of a script.
use Rattle.std.proofs.Common.{◌≡◌, ℕ, ◌+◌, ◌≤◌, Bool, true, false, cond, not, List, [], ◌∷◌, ◌++◌, length, All, filter_map, Option, Some, None, Result, Ok, Err, refl, sym, ap, ◌∙◌, codes, ltb, arith, append_assoc}
use Rattle.std.specs.Prelude.{position, fold, IsTrue}
use Rattle.std.specs.List.{flat_map, position_or_len}
use Rattle.std.specs.Str.{bytes_eq}
use Rattle.std.specs.Str.Lines.{lines}
use Rattle.std.proofs.lemmas.Bool.{cond-false}
use Rattle.std.proofs.lemmas.Bool.Decides.{nat_tests}
use Rattle.std.proofs.lemmas.List.Elements.{All-append, All-get_or, All-head, All-tail, All-weaker}
use Rattle.std.proofs.lemmas.List.Sums.{position_or_len_is}
use Rattle.script_lines.specs.declared.stop.ScriptKind.TheVariants as Kind
use Rattle.script_lines.specs.declared.stop.LimitName.{LimitName}
use Rattle.script_lines.specs.declared.stop.LineStop.{LineStop}
use Rattle.script_lines.specs.declared.stop.LineStop.TheVariants as Of
use Rattle.script_lines.specs.Octet.{is_blank, is_plain}
use Rattle.script_lines.specs.Word.{LineWord, placed, words_of_line}
use Rattle.script_lines.specs.Stop.{fault, and_next}
use Rattle.script_lines.proofs.Law.{plain_octets_are_a_line, commands_are_what_they_say, written_command_has_its_words, written_command_is_plain, written_command_reads_back}
use Rattle.script_lines.specs.declared.row.Row.{Row}
use Rattle.script_lines.specs.declared.row.Row.TheVariants.{CipsoAddPass, CipsoAddTrans, CalipsoAddPass, CipsoDel, CalipsoDel, CipsoList, CalipsoList, MapAdd, MapDel, MapList, AcceptOn, AcceptOff, UnlblAdd, UnlblDel, UnlblList, ReceiverAdd, ReceiverDel, RangeAdd, RangeDel, PairAdd, PairDel, MgmtVersion, MgmtProtocols, CalipsoAddTrans, Reading}
use Rattle.script_lines.specs.declared.said.Said.{Said}
use Rattle.script_lines.specs.declared.command.Command.{Command}
use Rattle.script_lines.specs.declared.command.Command.TheVariants as Do
use Rattle.script_lines.specs.Form.{with_translations, form_of, line_rows}
use Rattle.script_lines.specs.Value.{word_of}
use Rattle.script_lines.specs.Said.{read_said}
use Rattle.script_lines.specs.Command.{command_of, said_of, texts_of_said, command_text, IsCommand}
use Rattle.label_commands.specs.Above.{Above, with_step}
use Rattle.label_commands.specs.Line.{is_word, is_reading, with_said, read_led, starts_table, read_words, names_new_node, limit_passed, read_line}
use Rattle.label_commands.specs.Script.{read_lines}
use Rattle.label_commands.proofs.Walk.{line_goes}

-- ---- the first word of a row

-- some text that leads no other line
record IsOwnFirst (fixed : List (List ℕ)) : Type 0 where
  first : List ℕ
  more : List (List ℕ)
  is : fixed ≡ first ∷ more
  node : bytes_eq first (codes "node") ≡ false
  flow : bytes_eq first (codes "flow") ≡ false
  tool : bytes_eq first (codes "netlabelctl") ≡ false

of_own : (first : List ℕ) (more : List (List ℕ)) → bytes_eq first (codes "node") ≡ false → bytes_eq first (codes "flow") ≡ false → bytes_eq first (codes "netlabelctl") ≡ false → IsOwnFirst (first ∷ more)
of_own first more node flow tool = record { first = first; more = more; is = refl; node = node; flow = flow; tool = tool }

own_first : (row : Row) → IsOwnFirst (form_of with_translations row).fixed
own_first CipsoAddPass = of_own (codes "cipsov4") _ refl refl refl
own_first CipsoAddTrans = of_own (codes "cipsov4") _ refl refl refl
own_first CalipsoAddPass = of_own (codes "calipso") _ refl refl refl
own_first CipsoDel = of_own (codes "cipsov4") _ refl refl refl
own_first CalipsoDel = of_own (codes "calipso") _ refl refl refl
own_first CipsoList = of_own (codes "cipsov4") _ refl refl refl
own_first CalipsoList = of_own (codes "calipso") _ refl refl refl
own_first MapAdd = of_own (codes "map") _ refl refl refl
own_first MapDel = of_own (codes "map") _ refl refl refl
own_first MapList = of_own (codes "map") _ refl refl refl
own_first AcceptOn = of_own (codes "unlbl") _ refl refl refl
own_first AcceptOff = of_own (codes "unlbl") _ refl refl refl
own_first UnlblAdd = of_own (codes "unlbl") _ refl refl refl
own_first UnlblDel = of_own (codes "unlbl") _ refl refl refl
own_first UnlblList = of_own (codes "unlbl") _ refl refl refl
own_first ReceiverAdd = of_own (codes "receiver") _ refl refl refl
own_first ReceiverDel = of_own (codes "receiver") _ refl refl refl
own_first RangeAdd = of_own (codes "range") _ refl refl refl
own_first RangeDel = of_own (codes "range") _ refl refl refl
own_first PairAdd = of_own (codes "pair") _ refl refl refl
own_first PairDel = of_own (codes "pair") _ refl refl refl
own_first MgmtVersion = of_own (codes "mgmt") _ refl refl refl
own_first MgmtProtocols = of_own (codes "mgmt") _ refl refl refl
own_first CalipsoAddTrans = of_own (codes "calipso") _ refl refl refl
own_first Reading = of_own (codes "reading") _ refl refl refl

-- words of which the first leads no other line
record LeadsNothing (words : List LineWord) : Type 0 where
  first : LineWord
  more : List LineWord
  is : words ≡ first ∷ more
  node : is_word (codes "node") first ≡ false
  flow : is_word (codes "flow") first ≡ false
  tool : is_word (codes "netlabelctl") first ≡ false

said_leads : (place : ℕ) (said : Said) → LeadsNothing (placed place (texts_of_said said))
said_leads place said =
    let begins = own_first said.row in
    let given = filter_map (λ slot. word_of slot.parameter said.fields) (form_of with_translations said.row).slots in
    record {
      first = record { at = place; text = begins.first };
      more = placed (place + length begins.first + 1) (begins.more ++ given);
      is = ap (λ (fixed : List (List ℕ)). placed place (fixed ++ given)) begins.is;
      node = begins.node;
      flow = begins.flow;
      tool = begins.tool;
    }

no_reading : (command : Command) → is_reading (said_of command).row ≡ false
no_reading (Do.CipsoAddPass doi tags) = refl
no_reading (Do.CipsoAddTrans doi tags levels categories) = refl
no_reading (Do.CalipsoAddPass doi) = refl
no_reading (Do.CalipsoAddTrans doi levels categories) = refl
no_reading (Do.CipsoDel doi) = refl
no_reading (Do.CalipsoDel doi) = refl
no_reading (Do.CipsoList doi) = refl
no_reading (Do.CalipsoList doi) = refl
no_reading (Do.MapAdd domain prefix protocol) = refl
no_reading (Do.MapDel domain prefix) = refl
no_reading Do.MapList = refl
no_reading Do.AcceptOn = refl
no_reading Do.AcceptOff = refl
no_reading (Do.UnlblAdd interface prefix range) = refl
no_reading (Do.UnlblDel interface prefix) = refl
no_reading Do.UnlblList = refl
no_reading (Do.ReceiverAdd address home range) = refl
no_reading (Do.ReceiverDel address) = refl
no_reading (Do.RangeAdd interface range) = refl
no_reading (Do.RangeDel interface) = refl
no_reading (Do.PairAdd four six) = refl
no_reading (Do.PairDel four) = refl
no_reading Do.MgmtVersion = refl
no_reading Do.MgmtProtocols = refl

-- ---- a line of such words

module _ (above : Above) (node number : ℕ) (command : Command) (at : above.current ≡ Some node) where
  names_none : (first : LineWord) (words : List LineWord) → is_word (codes "node") first ≡ false → names_new_node above (first ∷ words) ≡ false
  names_none first [] other = refl
  names_none first (word ∷ words) other = rw other refl

  passes_none : (first : LineWord) (words : List LineWord) → number ≤ 16384 → is_word (codes "node") first ≡ false → is_word (codes "flow") first ≡ false
      → limit_passed above number (first ∷ words) ≡ None
  unfolding limit_passed
  passes_none first words few no_node no_flow = rw (few_enough number few, names_none first words no_node, no_flow) refl where
    few_enough : (n : ℕ) → n ≤ 16384 → ltb 16384 n ≡ false
    few_enough n le = grind (arith, nat_tests)

  led : (end : ℕ) (first : LineWord) (words : List LineWord) (said : Said) → is_word (codes "netlabelctl") first ≡ false
      → read_said with_translations (line_rows false with_translations) end (first ∷ words) ≡ Ok said → read_led with_translations end (first ∷ words) ≡ Ok said
  unfolding read_led
  led end first words said other reads = by_test (is_word (codes "netlabelctl") first) other where
    by_test : (b : Bool) → b ≡ false → ◌≡◌ {A = Result Said LineStop} (elim (cond b (Some words) None) as (λ _. Result Said LineStop) [
      | Some rest ↦ read_said with_translations (line_rows true with_translations) end rest
      | None ↦ read_said with_translations (line_rows false with_translations) end (first ∷ words)
    ]) (Ok said)
    by_test true e = absurd (cc)
    by_test false e = reads

  said_step : (place end : ℕ) → command_of (said_of command).row (said_of command).fields ≡ Some command → with_said above node place end (said_of command) ≡ Ok (with_step above node command)
  said_step place end makes = rw (no_reading command, makes) refl

  words_step : (own : List ℕ) (end : ℕ) (words : List LineWord) → command_of (said_of command).row (said_of command).fields ≡ Some command → LeadsNothing words
      → read_said with_translations (line_rows false with_translations) end words ≡ Ok (said_of command) → read_words with_translations own above end words ≡ Ok (with_step above node command)
  unfolding read_words
  words_step own end words makes leads reads =
      let table : Option ℕ → Result Above LineStop = λ current. elim current as (λ _. Result Above LineStop) [
        | Some n ↦ and_next (read_led with_translations end (leads.first ∷ leads.more)) (with_said above n leads.first.at end)
        | None ↦ Err (fault leads.first.at (cond (starts_table with_translations leads.first) Kind.NoNode Kind.Word))
      ] in
      let reads_led = led end leads.first leads.more (said_of command) leads.tool (ap (read_said with_translations (line_rows false with_translations) end) (sym leads.is) ∙ reads) in
      let goes : table above.current ≡ Ok (with_step above node command) =
      ap table at ∙ ap (λ (r : Result Said LineStop). and_next r (with_said above node leads.first.at end)) reads_led ∙ said_step leads.first.at end makes in
      rw (leads.is, leads.node, leads.flow) goes

  written_step : (own : List ℕ) (place : ℕ) (line : List ℕ) → number ≤ 16384 → command_of (said_of command).row (said_of command).fields ≡ Some command
      → position (λ octet. not (is_plain octet)) line ≡ None
      → words_of_line line ≡ placed place (texts_of_said (said_of command))
      → read_said with_translations (line_rows false with_translations) (length line) (words_of_line line) ≡ Ok (said_of command)
      → read_line with_translations own above number line ≡ Ok (with_step above node command)
  unfolding read_line
  written_step own place line few makes plain words reads =
      let leads = said_leads place (said_of command) in
      let said : read_words with_translations own above (length line) (words_of_line line) ≡ Ok (with_step above node command) =
      words_step own (length line) (words_of_line line) makes (record { first = leads.first; more = leads.more; is = words ∙ leads.is; node = leads.node; flow = leads.flow; tool = leads.tool }) reads in
      let limit : limit_passed above number (words_of_line line) ≡ None =
      ap (limit_passed above number) (words ∙ leads.is) ∙ passes_none leads.first leads.more few leads.node leads.flow in
      by_tests (position (λ octet. not (is_plain octet)) line) (limit_passed above number (words_of_line line)) plain limit said where
        by_tests : (unfit : Option ℕ) (passed : Option LimitName) → unfit ≡ None → passed ≡ None
            → read_words with_translations own above (length line) (words_of_line line) ≡ Ok (with_step above node command)
            → ◌≡◌ {A = Result Above LineStop} (elim unfit as (λ _. Result Above LineStop) [
              | Some o ↦ Err (fault o Kind.Octet)
              | None ↦ elim passed as (λ _. Result Above LineStop) [ Some what ↦ Err (Of.Limit what) | None ↦ read_words with_translations own above (length line) (words_of_line line) ]
            ]) (Ok (with_step above node command))
        by_tests None None a b said = said
        by_tests None (Some what) a b said = absurd (cc)
        by_tests (Some o) passed a b said = absurd (cc)

-- ---- a written command behind blanks

abbrev Plain : ℕ → Type 0
Plain octet = IsTrue (is_plain octet)

abbrev Blank : ℕ → Type 0
Blank octet = IsTrue (is_blank octet)

none_found : (p : ℕ → Bool) (text : List ℕ) → All (λ c. p c ≡ false) text → position p text ≡ None
none_found p text fails =
    let n = length text in
    let all : position_or_len p text ≡ n =
    position_or_len_is p text n 0 (omega arith) (λ k below. All-get_or (λ c. p c ≡ false) text k 0 below fails) (λ below. absurd (omega (arith, below))) in
    let past : ltb n n ≡ false = grind (arith, nat_tests) in
    ap (λ k. cond (ltb k n) (Some k) None) all ∙ cond-false (ltb n n) (Some n) None past

blank_plain : (octet : ℕ) → Blank octet → Plain octet
blank_plain octet blank = grind (arith, nat_tests)

line_plain : (blanks : List ℕ) (command : Command) → All Blank blanks → IsCommand command → All Plain (blanks ++ command_text command)
line_plain blanks command in_front is =
    All-append Plain blanks (command_text command) (All-weaker Blank Plain blank_plain blanks in_front) (written_command_is_plain command is)

pub command_line : (blanks text : List ℕ) (command : Command) → All Blank blanks → IsCommand command
    → lines ((blanks ++ command_text command) ++ (10 ∷ text)) ≡ (blanks ++ command_text command) ∷ lines text
command_line blanks text command in_front is = plain_octets_are_a_line (blanks ++ command_text command) text (line_plain blanks command in_front is)

pub command_step : (own blanks : List ℕ) (above : Above) (node number : ℕ) (command : Command) → All Blank blanks → IsCommand command → above.current ≡ Some node → number ≤ 16384
    → read_line with_translations own above number (blanks ++ command_text command) ≡ Ok (with_step above node command)
command_step own blanks above node number command in_front is at few =
    let line = blanks ++ command_text command in
    let fit = All-weaker Plain (λ octet. not (is_plain octet) ≡ false) (λ octet plain. ap not plain) line (line_plain blanks command in_front is) in
    written_step above node number command at own (length blanks) line few (commands_are_what_they_say command) (none_found (λ octet. not (is_plain octet)) line fit)
    (written_command_has_its_words blanks command in_front is) (written_command_reads_back false (length line) blanks command in_front is)

-- ---- a listing

-- written commands, each behind the blanks and with LF behind it
abbrev listing : List ℕ → List Command → List ℕ
listing blanks commands = flat_map (λ command. (blanks ++ command_text command) ++ (10 ∷ [])) commands

pub listing_steps : (own blanks : List ℕ) (above : Above) (node number : ℕ) (commands : List Command) (text : List ℕ) → All Blank blanks → All IsCommand commands
    → above.current ≡ Some node → number + length commands ≤ 16385 → read_lines with_translations own above number (lines (listing blanks commands ++ text))
    ≡ read_lines with_translations own (fold (λ before command. with_step before node command) above commands) (number + length commands) (lines text)
listing_steps own blanks above node number [] text in_front all at few =
    let same : number ≡ number + 0 = omega arith in ap (λ n. read_lines with_translations own above n (lines text)) same
listing_steps own blanks above node number (command ∷ commands) text in_front all at few =
    let is = All-head IsCommand command commands all in
    let next = with_step above node command in
    let rest = listing blanks commands ++ text in
    let line = blanks ++ command_text command in
    let split : listing blanks (command ∷ commands) ++ text ≡ line ++ (10 ∷ rest) =
    append_assoc (line ++ (10 ∷ [])) (listing blanks commands) text ∙ append_assoc line (10 ∷ []) rest in
    let count : number + 1 + length commands ≡ number + length (command ∷ commands) = omega arith in
    ap (λ t. read_lines with_translations own above number (lines t)) split
    ∙ sym (line_goes with_translations own above number line (line ++ (10 ∷ rest)) rest (command_line blanks rest command in_front is) next
    (command_step own blanks above node number command in_front is at (omega (arith, few))))
    ∙ listing_steps own blanks next node (number + 1) commands text in_front (All-tail IsCommand command commands all) at (omega (arith, few))
    ∙ ap (λ n. read_lines with_translations own (fold (λ before c. with_step before node c) next commands) n (lines text)) count
