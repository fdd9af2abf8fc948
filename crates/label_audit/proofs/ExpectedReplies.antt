-- Replies that are looked for one after the other.
use Rattle.std.proofs.Common.{◌≡◌, ◌<◌, ◌≤◌, ℕ, ◌+◌, ◌-◌, Bool, true, false, List, ◌++◌, sym, ap, ◌∙◌, subst, arith}
use Rattle.script_lines.specs.declared.command.Step.{Step}
use Rattle.call_report.specs.Lines.Reply.{reply_line_at, replies_text}
use Rattle.call_report.proofs.Law.{no_steps_have_no_replies}
use Rattle.label_audit.specs.declared.place.Place.{Place}
use Rattle.label_audit.specs.inside.Reading.{StandsIn, IsExpected}
use Rattle.label_audit.proofs.Places.{expected_then, expected_fails, nothing_expected}
use Rattle.label_audit.proofs.Replying.{replies_behind, replies_to}

module _ (file : List ℕ) (names : List (List ℕ)) (steps : List Step) where
  pub none_expected : (done : ℕ) (a : Place) → StandsIn file a → IsExpected file (replies_text names steps done (done - done)) a a true
  none_expected done a stands =
      let zero : done - done ≡ 0 = omega arith in
      subst (λ (t : List ℕ). IsExpected file t a a true) (sym (ap (replies_text names steps done) zero ∙ no_steps_have_no_replies names steps done)) (nothing_expected file a stands)

  pub next_expected : (from done : ℕ) (a b c : Place) (met : Bool) → from ≤ done → IsExpected file (replies_text names steps from (done - from)) a b true → IsExpected file (reply_line_at names steps done) b c met
      → IsExpected file (replies_text names steps from (done + 1 - from)) a c met
  next_expected from done a b c met low one two =
      let more : done + 1 - from ≡ done - from + 1 = omega (arith, low) in
      let here : from + (done - from) ≡ done = omega (arith, low) in
      let is : replies_text names steps from (done + 1 - from) ≡ replies_text names steps from (done - from) ++ reply_line_at names steps done =
      ap (replies_text names steps from) more ∙ replies_behind names steps from (done - from) ∙ ap (λ n. replies_text names steps from (done - from) ++ reply_line_at names steps n) here in
      subst (λ (t : List ℕ). IsExpected file t a c met) (sym is) (expected_then file (replies_text names steps from (done - from)) (reply_line_at names steps done) a b c met one two)

  pub replies_fail : (from done upto : ℕ) (a c : Place) → from ≤ done → done < upto → IsExpected file (replies_text names steps from (done + 1 - from)) a c false → IsExpected file (replies_text names steps from (upto - from)) a c false
  replies_fail from done upto a c low more e =
      let rest = replies_to names steps from done upto low more in
      subst (λ (t : List ℕ). IsExpected file t a c false) (sym rest.1) (expected_fails file (replies_text names steps from (done + 1 - from)) rest.0 a c e)
