-- Texts of whole lines, and lines.
use Rattle.std.proofs.Common.{◌≡◌, ◌<◌, inl, inr, ℕ, zero, suc, ◌+◌, Bool, true, false, cond, List, [], ◌∷◌, ◌++◌, codes, decimal, length, Option, Some, None, refl, sym, ap, ◌∙◌, subst, arith, append_assoc}
use Rattle.std.specs.Prelude.{All, ◌==◌, ◌||◌, slice_get}
use Rattle.std.specs.Option.{option_map_or}
use Rattle.domain_map.specs.address_text.Name.{IsNameText}
use Rattle.script_lines.specs.declared.command.Step.{Step}
use Rattle.node_tables.specs.declared.reply.Reply.{Reply}
use Rattle.node_tables.specs.declared.reply.Reply.TheVariants.{Done, Listed, Refused}
use Rattle.node_tables.specs.Refusal.{refusal_name}
use Rattle.node_tables.specs.Steps.{reply_at}
use Rattle.label_commands.specs.declared.flow_lines.hop.Hop.{Hop}
use Rattle.label_flow.specs.declared.packet_walk.walked.Walked.{Walked}
use Rattle.call_report.specs.Lines.Parts.{line_of, name_at}
use Rattle.call_report.specs.Lines.Flow.{flow_line, flow_end_line, walked_line, versions_text}
use Rattle.call_report.specs.Lines.Fixed.{done_line}
use Rattle.call_report.specs.Lines.Reply.{listed_lines, answer_text, reply_text, reply_line_at, replies_text}
use Rattle.call_report.proofs.Law.{no_steps_have_no_replies, replies_come_one_by_one}
use Rattle.call_report.specs.report_file.Meeting.{lines_in}
use Rattle.label_audit.proofs.Fronts.{Whole, one_at, lines-cons}
use Rattle.label_audit.proofs.Reading.{OneLine, lines-append, whole_both}
use Rattle.label_audit.proofs.NoEnd.{has_end}
use Rattle.label_audit.proofs.PacketLines.{in_line, versions}

pub line_whole : (text : List ℕ) → Whole (line_of text)
line_whole text = inr (text, refl)

pub some_line : (text : List ℕ) → 0 < lines_in (line_of text)
some_line text =
    let one : lines_in (10 ∷ []) ≡ 1 = refl in
    omega (arith, lines-append text (10 ∷ []), one)

pub flow_whole : (flow : ℕ) (input : List ℕ) → Whole (flow_line flow input)
unfolding flow_line
flow_whole flow input = line_whole (codes "flow " ++ decimal flow ++ codes " " ++ input)

pub flow_some : (flow : ℕ) (input : List ℕ) → 0 < lines_in (flow_line flow input)
unfolding flow_line
flow_some flow input = some_line (codes "flow " ++ decimal flow ++ codes " " ++ input)

pub end_whole : (flow packets passed denied : ℕ) → Whole (flow_end_line flow packets passed denied)
unfolding flow_end_line
end_whole flow packets passed denied = line_whole (codes "end " ++ decimal flow ++ codes " packets " ++ decimal packets ++ codes " passed " ++ decimal passed ++ codes " denied " ++ decimal denied)

pub done_whole : Whole done_line
unfolding done_line
done_whole = line_whole (codes "done")

-- ---- replies

behind_text : (front text : List ℕ) → ((line : List ℕ) × (text ≡ line_of line)) → Whole (front ++ text)
behind_text front text last = inr (front ++ last.0, ap (λ t. front ++ t) last.1 ∙ sym (append_assoc front last.0 (10 ∷ [])))

listed_whole : (lines : List (List ℕ)) → Whole (listed_lines lines)
listed_whole [] = inl refl
listed_whole (line ∷ lines) = whole_both (line_of (codes "  " ++ line)) (listed_lines lines) (line_whole (codes "  " ++ line)) (listed_whole lines)

ends_in_line : (front text : List ℕ) → Whole text → (line : List ℕ) × (line_of front ++ text ≡ line_of line)
ends_in_line front text (inl none) = (front, ap (λ t. line_of front ++ t) none ∙ nothing (line_of front)) where
  nothing : (xs : List ℕ) → xs ++ [] ≡ xs
  nothing [] = refl
  nothing (x ∷ xs) = ap (λ t. x ∷ t) (nothing xs)
ends_in_line front text (inr last) = (line_of front ++ last.0, ap (λ t. line_of front ++ t) last.1 ∙ sym (append_assoc (line_of front) last.0 (10 ∷ [])))

answer_ends : (reply : Reply) → (line : List ℕ) × (answer_text reply ≡ line_of line)
answer_ends Done = (codes "done", refl)
answer_ends (Refused why) = (refusal_name why, refl)
answer_ends (Listed lines) = ends_in_line (codes "listed " ++ decimal (length lines)) (listed_lines lines) (listed_whole lines)

reply_whole : (number : ℕ) (node : List ℕ) (reply : Reply) → Whole (reply_text number node reply)
unfolding reply_text
reply_whole number node reply =
    let last = answer_ends reply in
    let front : List ℕ = codes "command " ++ decimal number ++ codes " " ++ node ++ codes " " in
    inr (
      front ++ last.0,
      (let is : codes "command " ++ decimal number ++ codes " " ++ node ++ codes " " ++ answer_text reply ≡ (codes "command " ++ decimal number ++ codes " " ++ node ++ codes " ") ++ answer_text reply = simp append_assoc in
          is ∙ ap (λ t. front ++ t) last.1 ∙ sym (append_assoc front last.0 (10 ∷ []))),
    )

line_at_whole : (names : List (List ℕ)) (steps : List Step) (k : ℕ) → Whole (reply_line_at names steps k)
line_at_whole names steps k = by_step (slice_get steps k) where
  by_reply : (node : List ℕ) (found : Option Reply) → Whole (option_map_or (reply_text (k + 1) node) found [])
  by_reply node None = inl refl
  by_reply node (Some reply) = reply_whole (k + 1) node reply

  by_step : (found : Option Step) → Whole (option_map_or (λ (step : Step). option_map_or (reply_text (k + 1) (name_at names step.node)) (reply_at (length names) steps k) []) found [])
  by_step None = inl refl
  by_step (Some step) = by_reply (name_at names step.node) (reply_at (length names) steps k)

pub replies_whole : (names : List (List ℕ)) (steps : List Step) (k count : ℕ) → Whole (replies_text names steps k count)
replies_whole names steps k zero = inl (no_steps_have_no_replies names steps k)
replies_whole names steps k (suc count) =
    let more : suc count ≡ count + 1 = omega arith in
    let is : replies_text names steps k (suc count) ≡ reply_line_at names steps k ++ replies_text names steps (k + 1) count = ap (replies_text names steps k) more ∙ replies_come_one_by_one names steps k count in
    subst Whole (sym is) (whole_both (reply_line_at names steps k) (replies_text names steps (k + 1) count) (line_at_whole names steps k) (replies_whole names steps (k + 1) count))

-- ---- lines of packets

no_line_here : (o : ℕ) (text : List ℕ) (b : Bool) → (o == 10) ≡ b → (b || has_end text) ≡ false → (has_end text ≡ false → lines_in text ≡ 0) → lines_in (o ∷ text) ≡ 0
no_line_here o text true is none behind = absurd cc
no_line_here o text false is none behind =
    let none_here : one_at o ≡ 0 = ap (λ (b : Bool). cond b 1 0) is in
    omega (arith, lines-cons o text, none_here, behind none)

no_lines : (text : List ℕ) → has_end text ≡ false → lines_in text ≡ 0
no_lines [] none = refl
no_lines (o ∷ text) none = no_line_here o text (o == 10) refl none (λ more. no_lines text more)

pub packet_line : (flow number : ℕ) (names : List (List ℕ)) (hops : List Hop) (walked : Walked) → All IsNameText names → OneLine (walked_line flow number names hops walked)
packet_line flow number names hops walked all =
    let line = in_line flow number names hops walked all in
    let vs = versions_text walked.versions in
    let is : walked_line flow number names hops walked ≡ (line.front ++ 32 ∷ vs) ++ 10 ∷ [] = line.is ∙ sym (append_assoc line.front (32 ∷ vs) (10 ∷ [])) in
    let one : lines_in (10 ∷ []) ≡ 1 = refl in
    let blank : one_at 32 ≡ 0 = refl in
    record {
      whole = inr (line.front ++ 32 ∷ vs, is);
      one = omega (
        arith,
        ap lines_in is,
        lines-append (line.front ++ 32 ∷ vs) (10 ∷ []),
        lines-append line.front (32 ∷ vs),
        lines-cons 32 vs,
        one,
        blank,
        no_lines line.front line.none.none,
        no_lines vs (versions walked.versions).none,
      );
    }
