-- The lines that are written, by their words.
use Rattle.std.proofs.Common.{◌≡◌, ◌∙◌, ℕ, ◌<◌, ◌^◌, true, not, List, [], ◌∷◌, ◌++◌, length, codes, decimal, append_assoc, None, refl, sym, ap, subst, arith}
use Rattle.std.specs.Prelude.{◌==◌}
use Rattle.std.specs.List.{All, join_with_byte, list_all}
use Rattle.std.proofs.lemmas.List.Elements.{All-cons, All-nil}
use Rattle.domain_map.specs.address_text.Name.{is_name}
use Rattle.label_commands.specs.flow_lines.FileName.{is_file_name}
use Rattle.call_report.specs.Lines.Flow.{flow_line, flow_end_line}
use Rattle.call_report.specs.Lines.Fixed.{done_line}
use Rattle.call_report.specs.Lines.Script.{ok_line}
use Rattle.call_report.specs.Lines.Reply.{reply_text, listed_lines}
use Rattle.node_tables.specs.declared.reply.Reply.TheVariants.{Done, Listed, Refused}
use Rattle.node_tables.specs.declared.reply.Refusal.{Refusal}
use Rattle.node_tables.specs.declared.reply.Refusal.TheVariants.{DoiExists, DoiUnknown, DoiInUse, NotOneToOne, TooManyPairs, MapExists, MapUnknown, MapPlain, MapHasAddresses, StaticExists, StaticUnknown, ReceiverExists, ReceiverUnknown, RangeExists, RangeUnknown, PairExists, PairUnknown, TableFull}
use Rattle.node_tables.specs.Refusal.{refusal_name}
use Rattle.call_report.specs.declared.report_lines.form.Form.{Form}
use Rattle.call_report.specs.declared.report_lines.form.Form.TheVariants as form
use Rattle.call_report.specs.declared.report_lines.slot.Field.{Field}
use Rattle.call_report.specs.declared.report_lines.slot.Field.TheVariants as name
use Rattle.call_report.specs.declared.report_lines.slot.Slot.{Slot}
use Rattle.call_report.specs.report_lines.Slot.{may_stand, is_one_of, refusals}
use Rattle.call_report.specs.report_lines.Form.{slots_of}
use Rattle.call_report.specs.report_lines.Line.{line_words, misfit_of, AreWords}
use Rattle.call_report.specs.report_lines.Told.{told_word, IsToldAs}
use Rattle.call_report.proofs.report_lines.Numbers.{a_number}
use Rattle.call_report.proofs.report_lines.Blanks.{fixed, number_word, file_word, name_word}
use Rattle.call_report.proofs.report_lines.Law.{joined_words_are_read_back, a_line_that_fits_is_read}

-- ---- parts of a line, from the left and from the right

abbrev pub left_join : List ℕ → List (List ℕ) → List ℕ
left_join front [] = front
left_join front (part ∷ parts) = left_join (front ++ part) parts

abbrev pub right_join : List (List ℕ) → List ℕ
right_join [] = []
right_join (part ∷ []) = part
right_join (part ∷ next ∷ parts) = part ++ right_join (next ∷ parts)

pub left_right : (front part : List ℕ) (parts : List (List ℕ)) → left_join front (part ∷ parts) ≡ front ++ right_join (part ∷ parts)
left_right front part [] = refl
left_right front part (next ∷ parts) = left_right (front ++ part) next parts ∙ append_assoc front part (right_join (next ∷ parts))

-- words and the end of their line
abbrev pub ended : List (List ℕ) → List ℕ
ended [] = 10 ∷ []
ended (word ∷ []) = word ++ 10 ∷ []
ended (word ∷ next ∷ words) = word ++ (32 ∷ ended (next ∷ words))

joined_ended : (words : List (List ℕ)) → join_with_byte 32 words ++ 10 ∷ [] ≡ ended words
joined_ended [] = refl
joined_ended (word ∷ []) = refl
joined_ended (word ∷ next ∷ words) = append_assoc word (32 ∷ join_with_byte 32 (next ∷ words)) (10 ∷ []) ∙ ap (λ t. word ++ (32 ∷ t)) (joined_ended (next ∷ words))

-- ---- words and what they tell

-- words in slots tell under each of these fields the text beside it
abbrev pub Tell : List Slot → List (List ℕ) → List (Field × List ℕ) → Type 0
Tell slots words [] = Unit {0}
Tell slots words (pair ∷ pairs) = (told_word pair.0 slots words ≡ pair.1) × Tell slots words pairs

all_told : (slots : List Slot) (words : List (List ℕ)) (fields : List (Field × List ℕ)) → Tell slots words fields → All (λ (pair : Field × List ℕ). told_word pair.0 slots words ≡ pair.1) fields
all_told slots words [] told = All-nil (λ (pair : Field × List ℕ). told_word pair.0 slots words ≡ pair.1)
all_told slots words (pair ∷ pairs) told = All-cons (λ (pair : Field × List ℕ). told_word pair.0 slots words ≡ pair.1) pair pairs told.0 (all_told slots words pairs told.1)

pub by_words : (form : Form) {fields : List (Field × List ℕ)} (words : List (List ℕ)) (front part : List ℕ) (parts : List (List ℕ)) → 0 < length words → AreWords words
    → front ++ right_join (part ∷ parts) ≡ ended words → misfit_of 0 [] (slots_of form) words ≡ None → Tell (slots_of form) words fields → IsToldAs form fields (left_join front (part ∷ parts))
by_words form {fields} words front part parts some are is fit told =
    let read : line_words (join_with_byte 32 words) ≡ words = joined_words_are_read_back words some are in record {
      line = join_with_byte 32 words;
      is = left_right front part parts ∙ is ∙ sym (joined_ended words);
      read = a_line_that_fits_is_read (join_with_byte 32 words) form (ap (misfit_of 0 [] (slots_of form)) read ∙ fit);
      told = subst (λ (ws : List (List ℕ)). All (λ (pair : Field × List ℕ). told_word pair.0 (slots_of form) ws ≡ pair.1) fields) (sym read) (all_told (slots_of form) words fields told);
    }

-- ---- lines of flows

flow_fits : (flow : ℕ) (input : List ℕ) → flow < 2 ^ 64 → is_file_name input ≡ true → misfit_of 0 [] (slots_of form.Flow) (codes "flow" ∷ decimal flow ∷ input ∷ []) ≡ None
unfolding may_stand
flow_fits flow input small is = rw (a_number flow (decimal flow) small refl, is) refl

pub flow_written : (flow : ℕ) (input : List ℕ) → flow < 2 ^ 64 → is_file_name input ≡ true → IsToldAs form.Flow ((name.Flow, decimal flow) ∷ (name.Input, input) ∷ []) (flow_line flow input)
unfolding flow_line
flow_written flow input small is =
    by_words form.Flow (codes "flow" ∷ decimal flow ∷ input ∷ []) (codes "flow ") (decimal flow) (codes " " ∷ input ∷ (10 ∷ []) ∷ []) (omega arith) (fixed (codes "flow") refl, (number_word flow small, (file_word input is, tt))) refl (flow_fits flow input small is) (refl, (refl, tt))

end_fits : (f p q d : ℕ) → f < 2 ^ 64 → p < 2 ^ 64 → q < 2 ^ 64 → d < 2 ^ 64
    → misfit_of 0 [] (slots_of form.End) (codes "end" ∷ decimal f ∷ codes "packets" ∷ decimal p ∷ codes "passed" ∷ decimal q ∷ codes "denied" ∷ decimal d ∷ []) ≡ None
unfolding may_stand
end_fits f p q d hf hp hq hd = rw (a_number f (decimal f) hf refl, a_number p (decimal p) hp refl, a_number q (decimal q) hq refl, a_number d (decimal d) hd refl) refl

pub end_written : (f p q d : ℕ) → f < 2 ^ 64 → p < 2 ^ 64 → q < 2 ^ 64 → d < 2 ^ 64
    → IsToldAs form.End ((name.Flow, decimal f) ∷ (name.Packets, decimal p) ∷ (name.Passed, decimal q) ∷ (name.Denied, decimal d) ∷ []) (flow_end_line f p q d)
unfolding flow_end_line
end_written f p q d hf hp hq hd =
    by_words form.End (codes "end" ∷ decimal f ∷ codes "packets" ∷ decimal p ∷ codes "passed" ∷ decimal q ∷ codes "denied" ∷ decimal d ∷ []) (codes "end ") (decimal f) (codes " packets " ∷ decimal p ∷ codes " passed " ∷ decimal q ∷ codes " denied " ∷ decimal d ∷ (10 ∷ []) ∷ []) (omega arith)
    (fixed (codes "end") refl, (number_word f hf, (fixed (codes "packets") refl, (number_word p hp, (fixed (codes "passed") refl, (number_word q hq, (fixed (codes "denied") refl, (number_word d hd, tt)))))))) refl (end_fits f p q d hf hp hq hd) (refl, (refl, (refl, (refl, tt))))

done_fits : misfit_of 0 [] (slots_of form.Finished) (codes "done" ∷ []) ≡ None
unfolding may_stand
done_fits = refl

pub done_written : IsToldAs form.Finished [] done_line
unfolding done_line
done_written = by_words form.Finished (codes "done" ∷ []) (codes "done") (10 ∷ []) [] (omega arith) (fixed (codes "done") refl, tt) refl done_fits tt

ok_fits : (n c f : ℕ) → n < 2 ^ 64 → c < 2 ^ 64 → f < 2 ^ 64
    → misfit_of 0 [] (slots_of form.Ok) (codes "ok" ∷ decimal n ∷ codes "nodes" ∷ decimal c ∷ codes "commands" ∷ decimal f ∷ codes "flows" ∷ []) ≡ None
unfolding may_stand
ok_fits n c f hn hc hf = rw (a_number n (decimal n) hn refl, a_number c (decimal c) hc refl, a_number f (decimal f) hf refl) refl

pub ok_written : (n c f : ℕ) → n < 2 ^ 64 → c < 2 ^ 64 → f < 2 ^ 64
    → IsToldAs form.Ok ((name.Nodes, decimal n) ∷ (name.Commands, decimal c) ∷ (name.Flows, decimal f) ∷ []) (ok_line n c f)
unfolding ok_line
ok_written n c f hn hc hf =
    by_words form.Ok (codes "ok" ∷ decimal n ∷ codes "nodes" ∷ decimal c ∷ codes "commands" ∷ decimal f ∷ codes "flows" ∷ []) (codes "ok ") (decimal n) (codes " nodes " ∷ decimal c ∷ codes " commands " ∷ decimal f ∷ codes " flows" ∷ (10 ∷ []) ∷ []) (omega arith)
    (fixed (codes "ok") refl, (number_word n hn, (fixed (codes "nodes") refl, (number_word c hc, (fixed (codes "commands") refl, (number_word f hf, (fixed (codes "flows") refl, tt))))))) refl (ok_fits n c f hn hc hf) (refl, (refl, (refl, tt)))

-- ---- replies

reply_fits : (k : ℕ) (node : List ℕ) → k < 2 ^ 64 → is_name node ≡ true → misfit_of 0 [] (slots_of form.Done) (codes "command" ∷ decimal k ∷ node ∷ codes "done" ∷ []) ≡ None
unfolding may_stand
reply_fits k node small is = rw (a_number k (decimal k) small refl, is) refl

pub done_reply_written : (k : ℕ) (node : List ℕ) → k < 2 ^ 64 → is_name node ≡ true → IsToldAs form.Done ((name.Step, decimal k) ∷ (name.Node, node) ∷ (name.Answer, codes "done") ∷ []) (reply_text k node Done)
unfolding reply_text
done_reply_written k node small is =
    by_words form.Done (codes "command" ∷ decimal k ∷ node ∷ codes "done" ∷ []) (codes "command ") (decimal k) (codes " " ∷ node ∷ codes " " ∷ codes "done\n" ∷ []) (omega arith)
    (fixed (codes "command") refl, (number_word k small, (name_word node is, (fixed (codes "done") refl, tt)))) refl (reply_fits k node small is) (refl, (refl, (refl, tt)))

-- the name of a refusal is one, and has no blank
one_refusal : (why : Refusal) → is_one_of refusals (refusal_name why) ≡ true
unfolding refusals
one_refusal DoiExists = refl
one_refusal DoiUnknown = refl
one_refusal DoiInUse = refl
one_refusal NotOneToOne = refl
one_refusal TooManyPairs = refl
one_refusal MapExists = refl
one_refusal MapUnknown = refl
one_refusal MapPlain = refl
one_refusal MapHasAddresses = refl
one_refusal StaticExists = refl
one_refusal StaticUnknown = refl
one_refusal ReceiverExists = refl
one_refusal ReceiverUnknown = refl
one_refusal RangeExists = refl
one_refusal RangeUnknown = refl
one_refusal PairExists = refl
one_refusal PairUnknown = refl
one_refusal TableFull = refl

plain_refusal : (why : Refusal) → list_all (λ c. not (c == 32)) (refusal_name why) ≡ true
plain_refusal DoiExists = refl
plain_refusal DoiUnknown = refl
plain_refusal DoiInUse = refl
plain_refusal NotOneToOne = refl
plain_refusal TooManyPairs = refl
plain_refusal MapExists = refl
plain_refusal MapUnknown = refl
plain_refusal MapPlain = refl
plain_refusal MapHasAddresses = refl
plain_refusal StaticExists = refl
plain_refusal StaticUnknown = refl
plain_refusal ReceiverExists = refl
plain_refusal ReceiverUnknown = refl
plain_refusal RangeExists = refl
plain_refusal RangeUnknown = refl
plain_refusal PairExists = refl
plain_refusal PairUnknown = refl
plain_refusal TableFull = refl

refused_fits : (k : ℕ) (node : List ℕ) (why : Refusal) → k < 2 ^ 64 → is_name node ≡ true → misfit_of 0 [] (slots_of form.Refused) (codes "command" ∷ decimal k ∷ node ∷ refusal_name why ∷ []) ≡ None
unfolding may_stand
refused_fits k node why small is = rw (a_number k (decimal k) small refl, is, one_refusal why) refl

pub refused_reply_written : (k : ℕ) (node : List ℕ) (why : Refusal) → k < 2 ^ 64 → is_name node ≡ true
    → IsToldAs form.Refused ((name.Step, decimal k) ∷ (name.Node, node) ∷ (name.Answer, refusal_name why) ∷ []) (reply_text k node (Refused why))
unfolding reply_text
refused_reply_written k node why small is =
    by_words form.Refused (codes "command" ∷ decimal k ∷ node ∷ refusal_name why ∷ []) (codes "command ") (decimal k) (codes " " ∷ node ∷ codes " " ∷ (refusal_name why ++ 10 ∷ []) ∷ []) (omega arith)
    (fixed (codes "command") refl, (number_word k small, (name_word node is, (fixed (refusal_name why) (plain_refusal why), tt)))) refl (refused_fits k node why small is) (refl, (refl, (refl, tt)))

listed_fits : (k : ℕ) (node : List ℕ) (n : ℕ) → k < 2 ^ 64 → is_name node ≡ true → n < 2 ^ 64 → misfit_of 0 [] (slots_of form.Listed) (codes "command" ∷ decimal k ∷ node ∷ codes "listed" ∷ decimal n ∷ []) ≡ None
unfolding may_stand
listed_fits k node n small is few = rw (a_number k (decimal k) small refl, is, a_number n (decimal n) few refl) refl

-- the line in front of those that are listed
listed_line_written : (k : ℕ) (node : List ℕ) (n : ℕ) → k < 2 ^ 64 → is_name node ≡ true → n < 2 ^ 64
    → IsToldAs form.Listed ((name.Step, decimal k) ∷ (name.Node, node) ∷ (name.Answer, codes "listed") ∷ (name.Lines, decimal n) ∷ []) (codes "command " ++ decimal k ++ codes " " ++ node ++ codes " " ++ (codes "listed " ++ decimal n ++ 10 ∷ []))
listed_line_written k node n small is few =
    by_words form.Listed (codes "command" ∷ decimal k ∷ node ∷ codes "listed" ∷ decimal n ∷ []) (codes "command ") (decimal k) (codes " " ∷ node ∷ codes " " ∷ (codes "listed " ++ decimal n ++ 10 ∷ []) ∷ []) (omega arith)
    (fixed (codes "command") refl, (number_word k small, (name_word node is, (fixed (codes "listed") refl, (number_word n few, tt))))) refl (listed_fits k node n small is few) (refl, (refl, (refl, (refl, tt))))

pub listed_reply_written : (k : ℕ) (node : List ℕ) (lines : List (List ℕ)) → k < 2 ^ 64 → is_name node ≡ true → length lines < 2 ^ 64
    → (first : List ℕ) × IsToldAs form.Listed ((name.Step, decimal k) ∷ (name.Node, node) ∷ (name.Answer, codes "listed") ∷ (name.Lines, decimal (length lines)) ∷ []) first × (reply_text k node (Listed lines) ≡ first ++ listed_lines lines)
unfolding reply_text
listed_reply_written k node lines small is few = (
  codes "command " ++ decimal k ++ codes " " ++ node ++ codes " " ++ (codes "listed " ++ decimal (length lines) ++ 10 ∷ []),
  listed_line_written k node (length lines) small is few,
  sym (append_assoc (codes "command " ++ decimal k ++ codes " " ++ node ++ codes " ") (codes "listed " ++ decimal (length lines) ++ 10 ∷ []) (listed_lines lines)),
)
