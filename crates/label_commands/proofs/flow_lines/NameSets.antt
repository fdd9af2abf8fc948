-- Sets of names, and one name more.
use Rattle.std.proofs.Common.{◌≡◌, ℕ, Bool, true, false, cond, ◌||◌, List, [], ◌∷◌, ◌++◌, Option, Some, None, refl, sym, ap, subst, ◌∙◌, append-nil}
use Rattle.std.specs.List.{cons_option}
use Rattle.std.specs.Str.{bytes_eq}
use Rattle.std.proofs.lemmas.List.{map-append}
use Rattle.std.proofs.lemmas.List.Elements.{filter_map-append}
use Rattle.std.proofs.lemmas.List.Folds.{list_any-append}
use Rattle.std.proofs.lemmas.Slice.Eq.{bytes_eq-Decides}
use Rattle.indexmap.specs.IndexSet.{insert_key}
use Rattle.label_commands.specs.declared.flow_lines.flow.FlowLine.{FlowLine}
use Rattle.label_commands.specs.flow_lines.Flow.{inputs_of, outputs_of, is_among}

or_false : (b : Bool) → (b || false) ≡ b
or_false true = refl
or_false false = refl

or_true : (b : Bool) → b ≡ true → b ≡ (b || true)
or_true b is = subst (λ c. c ≡ (c || true)) (sym is) refl

pub among_push : (names : List (List ℕ)) (key name : List ℕ) → is_among (names ++ (key ∷ [])) name ≡ (is_among names name || bytes_eq name key)
among_push names key name =
    list_any-append (bytes_eq name) names (key ∷ []) ∙ ap (λ b. is_among names name || b) (or_false (bytes_eq name key))

-- a name that is there already changes nothing
among_there : (names : List (List ℕ)) (key name : List ℕ) → is_among names key ≡ true → is_among names name ≡ (is_among names name || bytes_eq name key)
among_there names key name there = by_test (bytes_eq name key) refl where
  by_test : (same : Bool) → bytes_eq name key ≡ same → is_among names name ≡ (is_among names name || same)
  by_test false e = sym (or_false (is_among names name))
  by_test true e = or_true (is_among names name) (subst (λ n. is_among names n ≡ true) (sym ((bytes_eq-Decides name key).0 e)) there)

among_insert : (names : List (List ℕ)) (key name : List ℕ) → is_among (insert_key bytes_eq names key) name ≡ (is_among names name || bytes_eq name key)
among_insert names key name = by_test (is_among names key) refl where
  by_test : (there : Bool) → is_among names key ≡ there → is_among (cond there names (names ++ (key ∷ []))) name ≡ (is_among names name || bytes_eq name key)
  by_test true e = among_there names key name e
  by_test false e = among_push names key name

pub inputs-push : (flows : List FlowLine) (flow : FlowLine) → inputs_of (flows ++ (flow ∷ [])) ≡ inputs_of flows ++ (flow.input ∷ [])
inputs-push flows flow = map-append (λ (f : FlowLine). f.input) flows (flow ∷ [])

pub outputs-push_some : (flows : List FlowLine) (flow : FlowLine) (name : List ℕ) → flow.output ≡ Some name → outputs_of (flows ++ (flow ∷ [])) ≡ outputs_of flows ++ (name ∷ [])
outputs-push_some flows flow name is =
    filter_map-append (λ (f : FlowLine). f.output) flows (flow ∷ []) ∙ ap (λ (o : Option (List ℕ)). outputs_of flows ++ cons_option o []) is

pub outputs-push_none : (flows : List FlowLine) (flow : FlowLine) → flow.output ≡ None → outputs_of (flows ++ (flow ∷ [])) ≡ outputs_of flows
outputs-push_none flows flow is =
    filter_map-append (λ (f : FlowLine). f.output) flows (flow ∷ []) ∙ ap (λ (o : Option (List ℕ)). outputs_of flows ++ cons_option o []) is
    ∙ append-nil (outputs_of flows)

abbrev pub HaveSame : List (List ℕ) → List (List ℕ) → Type 0
HaveSame a b = (name : List ℕ) → is_among a name ≡ is_among b name

-- a set with one name more has the names of the list with it at its end
same_push : (set set' names names' : List (List ℕ)) (key : List ℕ) → HaveSame set names → set' ≡ insert_key bytes_eq set key → names' ≡ names ++ (key ∷ [])
    → HaveSame set' names'
same_push set set' names names' key same inserted pushed = λ name.
    ap (λ s. is_among s name) inserted ∙ among_insert set key name ∙ ap (λ b. b || bytes_eq name key) (same name)
    ∙ sym (ap (λ ns. is_among ns name) pushed ∙ among_push names key name)

pub more_inputs : (flows : List FlowLine) (flow : FlowLine) (set set' : List (List ℕ)) → HaveSame set (inputs_of flows) → set' ≡ insert_key bytes_eq set flow.input
    → HaveSame set' (inputs_of (flows ++ (flow ∷ [])))
more_inputs flows flow set set' same inserted =
    same_push set set' (inputs_of flows) (inputs_of (flows ++ (flow ∷ []))) flow.input same inserted (inputs-push flows flow)

pub more_outputs : (flows : List FlowLine) (flow : FlowLine) (name : List ℕ) (set set' : List (List ℕ)) → flow.output ≡ Some name → HaveSame set (outputs_of flows)
    → set' ≡ insert_key bytes_eq set name → HaveSame set' (outputs_of (flows ++ (flow ∷ [])))
more_outputs flows flow name set set' is same inserted =
    same_push set set' (outputs_of flows) (outputs_of (flows ++ (flow ∷ []))) name same inserted (outputs-push_some flows flow name is)

pub same_outputs : (flows : List FlowLine) (flow : FlowLine) (set set' : List (List ℕ)) → flow.output ≡ None → HaveSame set (outputs_of flows) → set' ≡ set
    → HaveSame set' (outputs_of (flows ++ (flow ∷ [])))
same_outputs flows flow set set' is same kept = λ name.
    ap (λ s. is_among s name) kept ∙ same name ∙ sym (ap (λ ns. is_among ns name) (outputs-push_none flows flow is))
