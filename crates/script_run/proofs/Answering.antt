-- Replies that are handed on one by one, over plain values.
use Rattle.std.proofs.Common.{◌≡◌, ◌<◌, ℕ, zero, suc, ◌+◌, ◌-◌, get_or, List, [], ◌∷◌, ◌++◌, length, Some, Result, Ok, Err, refl, sym, ap, subst, ◌∙◌, append_assoc, arith}
use Rattle.std.specs.Prelude.{All, OnOk, slice_get, option_map}
use Rattle.std.proofs.lemmas.List.{append-nil}
use Rattle.std.proofs.lemmas.Option.{none-some, slice_get_within, get_or_from_slice_get, slice_get-get_or, unwrap_or-slice_get}
use Rattle.net_io.specs.declared.fault.IoFault.{IoFault}
use Rattle.net_io.specs.Sink.{SinkState}
use Rattle.script_lines.specs.declared.command.Step.{Step}
use Rattle.node_tables.specs.declared.reply.Reply.{Reply}
use Rattle.node_tables.specs.Tables.{TableState, fresh}
use Rattle.node_tables.specs.Effect.{reply_of}
use Rattle.node_tables.specs.Steps.{step_applied, step_reply, reply_at, tables_after}
use Rattle.node_tables.proofs.Law.{steps_apply_one_by_one, nodes_keep_their_number}
use Rattle.call_report.specs.Lines.Parts.{name_at}
use Rattle.call_report.specs.Lines.Reply.{reply_text, reply_line_at, replies_text}
use Rattle.call_report.proofs.Law.{no_steps_have_no_replies, replies_come_one_by_one, a_step_is_answered_at_its_node}
use Rattle.call_report.specs.Printing.{HandsOn}
use Rattle.call_report.proofs.Law.{texts_join, nothing_is_handed_on, a_failing_text_fails_with_more}

-- ---- one step

-- all elements have it, and so the one at a place
pub at_place : {X : Type 0} (P : X → Type 0) (xs : List X) (i : ℕ) (x : X) → All P xs → slice_get xs i ≡ Some x → P x
at_place P xs i x all at = subst P (get_or_from_slice_get xs i x x at) (all i x (slice_get_within xs i x at))

pub name_there : (names : List (List ℕ)) (node : ℕ) → node < length names → slice_get names node ≡ Some (name_at names node)
name_there names node within = let none : List ℕ = [] in slice_get-get_or names node none within ∙ ap Some (sym (unwrap_or-slice_get names node none))

-- what a step answers that is carried out behind those in front of it
pub given_by : (count : ℕ) (steps : List Step) (k : ℕ) (nodes : List TableState) (step : Step) (reply : Reply) → slice_get steps k ≡ Some step → nodes ≡ tables_after count steps k → step_reply nodes step ≡ Some reply
    → reply_at count steps k ≡ Some reply
given_by count steps k nodes step reply at is replied = (steps_apply_one_by_one count steps k step at).1 ∙ ap (λ (ns : List TableState). step_reply ns step) (sym is) ∙ replied

-- the reply to a step is the one to be printed, at the step's node
pub answered : (names : List (List ℕ)) (steps : List Step) (k : ℕ) (step : Step) (reply : Reply) → slice_get steps k ≡ Some step → step.node < length names → reply_at (length names) steps k ≡ Some reply
    → reply_text (k + 1) (name_at names step.node) reply ≡ reply_line_at names steps k
answered names steps k step reply at within given =
    sym (a_step_is_answered_at_its_node names steps k step (name_at names step.node) reply at (name_there names step.node within) (sym (steps_apply_one_by_one (length names) steps k step at).1 ∙ given))

pub one_on : (count : ℕ) (steps : List Step) (k : ℕ) (nodes next : List TableState) (step : Step) → slice_get steps k ≡ Some step → nodes ≡ tables_after count steps k → next ≡ step_applied nodes step → next ≡ tables_after count steps (k + 1)
one_on count steps k nodes next step at is made = made ∙ ap (λ (ns : List TableState). step_applied ns step) is ∙ sym (steps_apply_one_by_one count steps k step at).0

pub as_many : (count : ℕ) (steps : List Step) (k : ℕ) (nodes : List TableState) → nodes ≡ tables_after count steps k → length nodes ≡ count
as_many count steps k nodes is = ap length is ∙ nodes_keep_their_number count steps k

-- a step of one of the nodes has a reply
pub has_reply : (nodes : List TableState) (step : Step) → step.node < length nodes → (reply : Reply) × (step_reply nodes step ≡ Some reply)
has_reply nodes step within = let at = slice_get-get_or nodes step.node fresh within in (reply_of (get_or nodes step.node fresh) step.command, ap (option_map (λ (t : TableState). reply_of t step.command)) at)

pub reply_some : (number : ℕ) (name : List ℕ) (reply : Reply) → 0 < length (reply_text number name reply)
unfolding reply_text
reply_some number name reply = omega arith

-- each step's line has some octets
pub line_some : (names : List (List ℕ)) (steps : List Step) (k : ℕ) (step : Step) → slice_get steps k ≡ Some step → step.node < length names → 0 < length (reply_line_at names steps k)
line_some names steps k step at within =
    let nodes = tables_after (length names) steps k in
    let many : step.node < length nodes = omega (arith, within, nodes_keep_their_number (length names) steps k) in
    let reply = has_reply nodes step many in
    subst (λ (t : List ℕ). 0 < length t) (answered names steps k step reply.0 at within (given_by (length names) steps k nodes step reply.0 at refl reply.1))
    (reply_some (k + 1) (name_at names step.node) reply.0)

pub on_ok_of : {T E P : Type 0} (result : Result T E) → P → OnOk result P
on_ok_of (Ok given) fact = fact
on_ok_of (Err error) fact = tt

-- ---- replies one after the other

-- of the replies to `count` steps behind the first `from`, those to the first k were handed on
pub record IsReplying (names : List (List ℕ)) (steps : List Step) (from count : ℕ) (waited : List ℕ) (k : ℕ) (waits : List ℕ) (before now : SinkState) : Type 0 where
  pub text : List ℕ
  pub all : text ++ replies_text names steps (from + k) (count - k) ≡ replies_text names steps from count
  pub hands : HandsOn {T = Unit {0}} text waited waits (Ok tt) before now

module _ (names : List (List ℕ)) (steps : List Step) (from count : ℕ) (waited : List ℕ) where
  pub replying_start : (a : SinkState) → IsReplying names steps from count waited 0 waited a a
  replying_start a = record {
    text = [];
    all = let here : from + 0 ≡ from = omega arith in let whole : count - 0 ≡ count = omega arith in ap (λ n. replies_text names steps n (count - 0)) here ∙ ap (replies_text names steps from) whole;
    hands = subst (λ (w : List ℕ). HandsOn {T = Unit {0}} [] waited w (Ok tt) a a) (append-nil waited) (nothing_is_handed_on [] waited tt a);
  }

  module _ (k : ℕ) (waits : List ℕ) (a b : SinkState) (replying : IsReplying names steps from count waited k waits a b) where
    pub replying_all : k ≡ count → HandsOn {T = Unit {0}} (replies_text names steps from count) waited waits (Ok tt) a b
    replying_all last =
        let none : count - k ≡ 0 = omega (arith, last) in
        let whole : replying.text ≡ replies_text names steps from count =
        sym (append-nil replying.text)
        ∙ ap (λ t. replying.text ++ t) (sym (no_steps_have_no_replies names steps (from + k)))
        ∙ ap (λ n. replying.text ++ replies_text names steps (from + k) n) (sym none)
        ∙ replying.all in
        subst (λ (t : List ℕ). HandsOn {T = Unit {0}} t waited waits (Ok tt) a b) whole replying.hands

    module _ (within : k < count) (line still : List ℕ) (is : line ≡ reply_line_at names steps (from + k)) (c : SinkState) where
      rest : List ℕ
      rest = replies_text names steps (from + (k + 1)) (count - (k + 1))

      one_more : (replying.text ++ line) ++ rest ≡ replies_text names steps from count
      unfolding rest
      one_more =
          let less : count - (k + 1) + 1 ≡ count - k = omega (arith, within) in
          let further : from + (k + 1) ≡ from + k + 1 = omega arith in
          append_assoc replying.text line (replies_text names steps (from + (k + 1)) (count - (k + 1)))
          ∙ ap (λ t. replying.text ++ (t ++ replies_text names steps (from + (k + 1)) (count - (k + 1)))) is
          ∙ ap (λ n. replying.text ++ (reply_line_at names steps (from + k) ++ replies_text names steps n (count - (k + 1)))) further
          ∙ ap (λ t. replying.text ++ t) (sym (replies_come_one_by_one names steps (from + k) (count - (k + 1))))
          ∙ ap (λ n. replying.text ++ replies_text names steps (from + k) n) less
          ∙ replying.all

      pub replying_next : HandsOn {T = Unit {0}} line waits still (Ok tt) b c → IsReplying names steps from count waited (k + 1) still a c
      unfolding rest
      replying_next hands = record {
        text = replying.text ++ line;
        all = one_more;
        hands = texts_join replying.text line waited waits still tt (Ok tt) a b c replying.hands hands;
      }

      pub replying_fails : (fault : IoFault) → HandsOn {T = Unit {0}} line waits still (Err fault) b c → HandsOn {T = Unit {0}} (replies_text names steps from count) waited still (Err fault) a c
      replying_fails fault hands =
          let joined : HandsOn {T = Unit {0}} (replying.text ++ line) waited still (Err fault) a c = texts_join replying.text line waited waits still tt (Err fault) a b c replying.hands hands in
          subst (λ (t : List ℕ). HandsOn {T = Unit {0}} t waited still (Err fault) a c) one_more
          (a_failing_text_fails_with_more (replying.text ++ line) rest waited still fault a c joined)
