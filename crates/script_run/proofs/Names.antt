-- The names of flows stay apart: no input is made, and no file is made twice.
use Rattle.std.proofs.Common.{◌≡◌, ◌≢◌, ◌<◌, ℕ, zero, suc, true, false, List, [], ◌∷◌, Option, Some, None, refl, sym, ap, subst, ◌∙◌, arith}
use Rattle.std.specs.Prelude.{AllPairs, Contains, slice_get, option_map}
use Rattle.std.specs.List.{cons_option}
use Rattle.std.specs.Str.{bytes_eq}
use Rattle.std.proofs.lemmas.Bool.{both_ways}
use Rattle.std.proofs.lemmas.Option.{none-some, same_Some, slice_get-map}
use Rattle.std.proofs.lemmas.Map.Keys.{any_passes_from_place}
use Rattle.std.proofs.lemmas.Slice.Eq.{bytes_eq-Decides}
use Rattle.label_commands.specs.declared.flow_lines.flow.FlowLine.{FlowLine}
use Rattle.label_commands.specs.flow_lines.Flow.{inputs_of, outputs_of, is_among}
use Rattle.label_commands.specs.flow_lines.Apart.{AreApart}

-- a flow's output is among the outputs
module _ (x : FlowLine) (xs : List FlowLine) (n : List ℕ) where
  behind : (output : Option (List ℕ)) → Contains (outputs_of xs) n → Contains (cons_option output (outputs_of xs)) n
  behind None found = found
  behind (Some m) found = (suc found.0, omega (arith, found.1), found.2)

pub is_made : (flows : List FlowLine) (i : ℕ) (flow : FlowLine) (name : List ℕ) → slice_get flows i ≡ Some flow → flow.output ≡ Some name → Contains (outputs_of flows) name
is_made [] i flow name at is = absurd (none-some flow at)
is_made (x ∷ xs) zero flow name at is =
    let same : x.output ≡ Some name = ap (λ (f : FlowLine). f.output) (same_Some x flow at) ∙ is in
    subst (λ (o : Option (List ℕ)). Contains (cons_option o (outputs_of xs)) name) (sym same) (0, omega arith, refl)
is_made (x ∷ xs) (suc i) flow name at is = behind x xs name x.output (is_made xs i flow name at is)

rest_differ : (output : Option (List ℕ)) (names : List (List ℕ)) → AllPairs (λ a b. a ≢ b) (cons_option output names) → AllPairs (λ a b. a ≢ b) names
rest_differ None names differ = differ
rest_differ (Some m) names differ = λ i j d before within. differ (suc i) (suc j) d (omega (arith, before)) (omega (arith, within))

first_differs : (name : List ℕ) (names : List (List ℕ)) → AllPairs (λ a b. a ≢ b) (name ∷ names) → Contains names name → ⊥
first_differs name names differ found = differ 0 (suc found.0) name (omega arith) (omega (arith, found.1)) (sym found.2)

later_differs : (flows : List FlowLine) (i j : ℕ) (f g : FlowLine) (name : List ℕ) → AllPairs (λ a b. a ≢ b) (outputs_of flows) → i < j → slice_get flows i ≡ Some f → slice_get flows j ≡ Some g
    → f.output ≡ Some name → g.output ≢ Some name
later_differs [] i j f g name differ before at at' is same = none-some f at
later_differs (x ∷ xs) i zero f g name differ before at at' is same = omega (arith, before)
later_differs (x ∷ xs) zero (suc j) f g name differ before at at' is same =
    let first : x.output ≡ Some name = ap (λ (h : FlowLine). h.output) (same_Some x f at) ∙ is in
    first_differs name (outputs_of xs) (subst (λ (o : Option (List ℕ)). AllPairs (λ a b. a ≢ b) (cons_option o (outputs_of xs))) first differ) (is_made xs j g name at' same)
later_differs (x ∷ xs) (suc i) (suc j) f g name differ before at at' is same =
    later_differs xs i j f g name (rest_differ x.output (outputs_of xs) differ) (omega (arith, before)) at at' is same

module _ (own : List ℕ) (flows : List FlowLine) (apart : AreApart own flows) where
  -- no flow makes what a flow reads
  pub input_is_kept : (i j : ℕ) (f g : FlowLine) → slice_get flows i ≡ Some f → slice_get flows j ≡ Some g → g.output ≢ Some f.input
  input_is_kept i j f g at at' same =
      let found = is_made flows j g f.input at' same in
      let free : is_among (inputs_of flows) f.input ≡ false = subst (λ (n : List ℕ). is_among (inputs_of flows) n ≡ false) found.2 (apart.inputs found.0 f.input found.1) in
      let there : is_among (inputs_of flows) f.input ≡ true =
      any_passes_from_place (bytes_eq f.input) (inputs_of flows) i f.input (slice_get-map (λ (h : FlowLine). h.input) flows i ∙ ap (λ (o : Option FlowLine). option_map (λ (h : FlowLine). h.input) o) at)
      ((bytes_eq-Decides f.input f.input).1 refl) in
      both_ways (is_among (inputs_of flows) f.input) free there

  -- no flow makes what one above it has made
  pub output_is_kept : (i j : ℕ) (f g : FlowLine) (name : List ℕ) → i < j → slice_get flows i ≡ Some f → slice_get flows j ≡ Some g → f.output ≡ Some name → g.output ≢ Some name
  output_is_kept i j f g name before at at' is = later_differs flows i j f g name apart.outputs before at at' is
