-- The rule on names is kept.
use Rattle.std.proofs.Common.{◌≡◌, ℕ, ◌<◌, false, List, [], ◌∷◌, ◌++◌, length, get_or, Option, Some, None, refl, sym, subst, ◌∙◌, All}
use Rattle.std.specs.Prelude.{◌≢◌, AllPairs}
use Rattle.std.specs.Str.{bytes_eq}
use Rattle.std.proofs.lemmas.Bool.{or_from, or_parts, both_ways, false_from_ne_true}
use Rattle.std.proofs.lemmas.List.Elements.{All-nil, All-cons, All-push}
use Rattle.std.proofs.lemmas.List.Folds.{list_any_at}
use Rattle.std.proofs.lemmas.List.Quantifiers.{all_pairs_push}
use Rattle.std.proofs.lemmas.Slice.Eq.{bytes_eq-Decides}
use Rattle.label_commands.specs.declared.flow_lines.flow.FlowLine.{FlowLine}
use Rattle.label_commands.specs.flow_lines.Flow.{inputs_of, outputs_of, is_among, is_taken}
use Rattle.label_commands.specs.flow_lines.Apart.{AreApart}
use Rattle.label_commands.proofs.flow_lines.NameSets.{inputs-push, outputs-push_some, outputs-push_none, among_push}

differ : (a b : List ℕ) → bytes_eq a b ≡ false → a ≢ b
differ a b e same = both_ways (bytes_eq a b) e ((bytes_eq-Decides a b).1 same)

not_same : (a b : List ℕ) → bytes_eq a b ≡ false → bytes_eq b a ≡ false
not_same a b e = false_from_ne_true (bytes_eq b a) (λ is. differ a b e (sym ((bytes_eq-Decides b a).0 is)))

-- a text that is none of these is other than each
none_is : (texts : List (List ℕ)) (text : List ℕ) → is_among texts text ≡ false → All (λ t. bytes_eq t text ≡ false) texts
none_is [] text e = All-nil (λ t. bytes_eq t text ≡ false)
none_is (t ∷ ts) text e =
    let parts = or_parts (bytes_eq text t) (is_among ts text) e in
    All-cons (λ u. bytes_eq u text ≡ false) t ts (not_same text t parts.0) (none_is ts text parts.1)

module _ (own : List ℕ) (flows : List FlowLine) (flow : FlowLine) (apart : AreApart own flows) (fresh : is_among (outputs_of flows) flow.input ≡ false) where
  -- the outputs above are no inputs, with the new one among these
  no_inputs : All (λ output. is_among (inputs_of flows ++ (flow.input ∷ [])) output ≡ false) (outputs_of flows)
  no_inputs = λ k d within.
      among_push (inputs_of flows) flow.input (get_or (outputs_of flows) k d)
      ∙ or_from _ _ (apart.inputs k d within) (none_is (outputs_of flows) flow.input fresh k d within)

  apart_without : flow.output ≡ None → AreApart own (flows ++ (flow ∷ []))
  apart_without none =
      let inputs = inputs-push flows flow in
      let outputs = outputs-push_none flows flow none in record {
        outputs = subst (λ os. AllPairs (λ a b. a ≢ b) os) (sym outputs) apart.outputs;
        inputs = subst (λ os. All (λ output. is_among (inputs_of (flows ++ (flow ∷ []))) output ≡ false) os) (sym outputs)
            (subst (λ is. All (λ output. is_among is output ≡ false) (outputs_of flows)) (sym inputs) no_inputs);
        script = subst (λ os. All (λ output. output ≢ own) os) (sym outputs) apart.script;
      }

  apart_with : (output : List ℕ) → flow.output ≡ Some output → is_taken own flows flow.input output ≡ false → AreApart own (flows ++ (flow ∷ []))
  apart_with output some free =
      let inputs = inputs-push flows flow in
      let outputs = outputs-push_some flows flow output some in
      let above = outputs_of flows in
      let last = or_parts _ (is_among above output) free in
      let third = or_parts _ (is_among (inputs_of flows) output) last.0 in
      let front = or_parts (bytes_eq output own) (bytes_eq output flow.input) third.0 in
      let other : (k : ℕ) (d : List ℕ) → k < length above → get_or above k d ≢ output = λ k d within same.
      both_ways (is_among above output) last.1 (list_any_at (bytes_eq output) above k d within ((bytes_eq-Decides output (get_or above k d)).1 (sym same))) in
      let free_of_inputs = among_push (inputs_of flows) flow.input output ∙ or_from _ _ third.1 front.1 in record {
        outputs = subst (λ os. AllPairs (λ a b. a ≢ b) os) (sym outputs) (all_pairs_push (λ (a b : List ℕ). a ≢ b) above output apart.outputs other);
        inputs = subst (λ os. All (λ o. is_among (inputs_of (flows ++ (flow ∷ []))) o ≡ false) os) (sym outputs)
            (subst (λ is. All (λ o. is_among is o ≡ false) (above ++ (output ∷ []))) (sym inputs)
            (All-push (λ o. is_among (inputs_of flows ++ (flow.input ∷ [])) o ≡ false) above output no_inputs free_of_inputs));
        script = subst (λ os. All (λ o. o ≢ own) os) (sym outputs) (All-push (λ o. o ≢ own) above output apart.script (differ output own front.0));
      }

  pub stays_apart : (read : Option (List ℕ)) → flow.output ≡ read → ((output : List ℕ) → read ≡ Some output → is_taken own flows flow.input output ≡ false)
      → AreApart own (flows ++ (flow ∷ []))
  stays_apart None is free = apart_without is
  stays_apart (Some output) is free = apart_with output is (free output refl)
