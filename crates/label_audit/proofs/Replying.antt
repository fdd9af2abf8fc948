-- Replies to steps, one by one, over plain values.
use Rattle.std.proofs.Common.{◌≡◌, ◌<◌, ◌≤◌, ℕ, zero, suc, ◌+◌, ◌-◌, List, [], ◌++◌, length, Some, refl, sym, ap, subst, ◌∙◌, append_assoc, arith}
use Rattle.std.specs.Prelude.{All, slice_get}
use Rattle.std.proofs.lemmas.List.{append-nil}
use Rattle.std.proofs.lemmas.Option.{slice_get_within, get_or_from_slice_get}
use Rattle.script_lines.specs.declared.command.Step.{Step}
use Rattle.node_tables.specs.declared.reply.Reply.{Reply}
use Rattle.node_tables.specs.Tables.{TableState}
use Rattle.node_tables.specs.Steps.{step_applied, step_reply, tables_after}
use Rattle.node_tables.proofs.Law.{steps_apply_one_by_one, nodes_keep_their_number}
use Rattle.call_report.specs.Lines.Reply.{reply_text, reply_line_at, replies_text}
use Rattle.call_report.proofs.Law.{no_steps_have_no_replies, replies_come_one_by_one, a_step_is_answered_at_its_node}

-- all elements have it, and so the one at a place
pub at_place : {X : Type 0} (P : X → Type 0) (xs : List X) (i : ℕ) (x : X) → All P xs → slice_get xs i ≡ Some x → P x
at_place P xs i x all at = subst P (get_or_from_slice_get xs i x x at) (all i x (slice_get_within xs i x at))

pub one_on : (count : ℕ) (steps : List Step) (k : ℕ) (nodes next : List TableState) (step : Step) → slice_get steps k ≡ Some step → nodes ≡ tables_after count steps k → next ≡ step_applied nodes step → next ≡ tables_after count steps (k + 1)
one_on count steps k nodes next step at is made = made ∙ ap (λ (ns : List TableState). step_applied ns step) is ∙ sym (steps_apply_one_by_one count steps k step at).0

pub as_many : (count : ℕ) (steps : List Step) (k : ℕ) (nodes : List TableState) → nodes ≡ tables_after count steps k → length nodes ≡ count
as_many count steps k nodes is = ap length is ∙ nodes_keep_their_number count steps k

-- the reply to a step is the one to be printed, at the step's node
pub answered : (names : List (List ℕ)) (steps : List Step) (k : ℕ) (step : Step) (name : List ℕ) (nodes : List TableState) (reply : Reply) → slice_get steps k ≡ Some step → slice_get names step.node ≡ Some name → nodes ≡ tables_after (length names) steps k
    → step_reply nodes step ≡ Some reply → reply_text (k + 1) name reply ≡ reply_line_at names steps k
answered names steps k step name nodes reply at named is given =
    sym (a_step_is_answered_at_its_node names steps k step name reply at named (ap (λ (ns : List TableState). step_reply ns step) (sym is) ∙ given))

-- one more reply behind others
pub replies_behind : (names : List (List ℕ)) (steps : List Step) (k count : ℕ) → replies_text names steps k (count + 1) ≡ replies_text names steps k count ++ reply_line_at names steps (k + count)
replies_behind names steps k zero =
    let none : 0 + 1 ≡ 1 = refl in
    let here : k ≡ k + 0 = omega arith in
    replies_come_one_by_one names steps k 0 ∙ ap (λ t. reply_line_at names steps k ++ t) (no_steps_have_no_replies names steps (k + 1)) ∙ append-nil (reply_line_at names steps k)
    ∙ ap (λ t. t ++ reply_line_at names steps k) (sym (no_steps_have_no_replies names steps k)) ∙ ap (λ n. replies_text names steps k 0 ++ reply_line_at names steps n) here
replies_behind names steps k (suc count) =
    let one : suc count ≡ count + 1 = omega arith in
    let on : k + 1 + count ≡ k + suc count = omega arith in
    replies_come_one_by_one names steps k (suc count)
    ∙ ap (λ n. reply_line_at names steps k ++ replies_text names steps (k + 1) n) one
    ∙ ap (λ t. reply_line_at names steps k ++ t) (replies_behind names steps (k + 1) count)
    ∙ sym (append_assoc (reply_line_at names steps k) (replies_text names steps (k + 1) count) (reply_line_at names steps (k + 1 + count)))
    ∙ ap (λ t. t ++ reply_line_at names steps (k + 1 + count)) (sym (ap (replies_text names steps k) one ∙ replies_come_one_by_one names steps k count))
    ∙ ap (λ n. replies_text names steps k (suc count) ++ reply_line_at names steps n) on

-- all replies, of which some are a beginning
pub replies_to : (names : List (List ℕ)) (steps : List Step) (from done upto : ℕ) → from ≤ done → done < upto → (rest : List ℕ) × (replies_text names steps from (upto - from) ≡ replies_text names steps from (done + 1 - from) ++ rest)
replies_to names steps from done upto low more =
    let same : done + 1 - from + (upto - (done + 1)) ≡ upto - from = omega (arith, low, more) in
    let rest = by (done + 1 - from) (upto - (done + 1)) in
    (rest.0, ap (replies_text names steps from) (sym same) ∙ rest.1)
  where
    by : (count more : ℕ) → (rest : List ℕ) × (replies_text names steps from (count + more) ≡ replies_text names steps from count ++ rest)
    by count zero = let none : count + 0 ≡ count = omega arith in ([], ap (replies_text names steps from) none ∙ sym (append-nil (replies_text names steps from count)))
    by count (suc more) =
        let next : count + suc more ≡ count + more + 1 = omega arith in
        let rest = by count more in
        let line = reply_line_at names steps (from + (count + more)) in
        (rest.0 ++ line, ap (replies_text names steps from) next ∙ replies_behind names steps from (count + more) ∙ ap (λ t. t ++ line) rest.1 ∙ append_assoc (replies_text names steps from count) rest.0 line)
