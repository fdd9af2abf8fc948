-- What is told of a flow: each link is covered exactly where no reason is found, and then the last line says so.
use Rattle.std.proofs.Common.{◌≡◌, ◌↔◌, ◌⊎◌, inl, inr, ℕ, ◌+◌, Bool, true, false, List, [], ◌∷◌, ◌++◌, length, Option, Some, None, refl, sym, ap, subst, ◌∙◌, arith, append_assoc, length-append}
use Rattle.std.specs.Prelude.{codes, is_none, IfSome, IfNone}
use Rattle.std.specs.List.{list_all}
use Rattle.std.specs.Fmt.{decimal}
use Rattle.std.proofs.lemmas.Bool.{and_from, and_parts, false≢true}
use Rattle.std.proofs.lemmas.List.{append-nil}
use Rattle.label_commands.specs.declared.flow_lines.hop.Hop.{Hop}
use Rattle.label_commands.specs.declared.flow_lines.flow.FlowLine.{FlowLine}
use Rattle.label_commands.specs.node_readings.Reading.{NamedMeanings}
use Rattle.label_commands.specs.declared.script.Script.{Script}
use Rattle.shared_tables.specs.Plan.{PlanState}
use Rattle.label_flow.specs.flow_access.Valid.{plan_of}
use Rattle.call_report.specs.Lines.Agreement.{found_text, hops_line}
use Rattle.call_report.specs.Lines.Parts.{line_of}
use Rattle.call_report.specs.Report.{Report}
use Rattle.call_report.specs.script_input.Flow.{flow_numbered, versions_for, AreVersionsOf}
use Rattle.call_report.specs.script_input.Neighbours.{HopState, hop_under, EachTwo}
use Rattle.call_report.specs.script_input.Answer.{HopsAnswer, no_flow, bad_versions, compared}
use Rattle.static_law.specs.declared.uncovered.Uncovered.{Uncovered}
use Rattle.static_law.specs.declared.uncovered.Uncovered.TheVariants.{Differ, NoRange, Entry}
use Rattle.static_law.specs.Covered.{interface_out, interface_in, Covered, NeighboursCovered}
use Rattle.static_law.specs.Uncovered.{IsUncovered}
use Rattle.static_law.specs.Lines.{told_line, link_line, coverage_line}
use Rattle.static_law.specs.Cover.{IsLinkFound, links_text, cover_text}
use Rattle.static_law.specs.CoveredFlow.{IsCoveredFlow, IsLastLine}
use Rattle.static_law.proofs.Reasons.{uncovers}

-- ---- one link

module _ (left right : HopState) where
  abbrev CoveredHere : Type 0
  CoveredHere = Covered left.tables (interface_out left.hop) right.tables (interface_in right.hop) left.named right.named

  abbrev UncoveredHere : Uncovered → Type 0
  UncoveredHere why = IsUncovered left.tables (interface_out left.hop) right.tables (interface_in right.hop) left.named right.named why

  -- what `covers` gives, by its two clauses
  pub link_found_is : (found : Option Uncovered) → IfNone found CoveredHere → IfSome found UncoveredHere → IsLinkFound left right found
  link_found_is None covered why = covered
  link_found_is (Some _) covered why = why

  none_covered : (found : Option Uncovered) → is_none found ≡ true → IsLinkFound left right found → CoveredHere
  none_covered None none is = is
  none_covered (Some why) none is = absurd cc

  covered_none : (found : Option Uncovered) → IsLinkFound left right found → CoveredHere → is_none found ≡ true
  covered_none None is covered = refl
  covered_none (Some why) is covered = absurd (uncovers left.tables right.tables (interface_out left.hop) (interface_in right.hop) left.named right.named why is covered)

-- ---- all links of a flow

module _ (plan : PlanState) (readings : List NamedMeanings) where
  abbrev AreLinksFound : List Hop → List ℕ → List (Option Uncovered) → Type 0
  AreLinksFound hops versions found = EachTwo IsLinkFound plan readings hops versions found

  all_covered : (hops : List Hop) (versions : List ℕ) (found : List (Option Uncovered)) → AreLinksFound hops versions found → list_all is_none found ≡ true → NeighboursCovered plan readings hops versions
  all_covered [] versions found are all = tt
  all_covered (hop ∷ []) versions found are all = tt
  all_covered (left ∷ right ∷ hops) [] found are all = tt
  all_covered (left ∷ right ∷ hops) (v ∷ []) found are all = tt
  all_covered (left ∷ right ∷ hops) (v ∷ w ∷ versions) [] are all = absurd are
  all_covered (left ∷ right ∷ hops) (v ∷ w ∷ versions) (first ∷ found) are all =
      let parts = and_parts (is_none first) (list_all is_none found) all in
      (none_covered (hop_under plan readings v left) (hop_under plan readings w right) first parts.0 are.0, all_covered (right ∷ hops) (w ∷ versions) found are.1 parts.1)

  covered_all : (hops : List Hop) (versions : List ℕ) (found : List (Option Uncovered)) → AreLinksFound hops versions found → NeighboursCovered plan readings hops versions → list_all is_none found ≡ true
  covered_all [] versions found are covered = absurd are
  covered_all (hop ∷ []) [] found are covered = absurd are
  covered_all (hop ∷ []) (v ∷ []) [] are covered = refl
  covered_all (hop ∷ []) (v ∷ []) (first ∷ found) are covered = absurd are
  covered_all (hop ∷ []) (v ∷ w ∷ versions) found are covered = absurd are
  covered_all (left ∷ right ∷ hops) [] found are covered = absurd are
  covered_all (left ∷ right ∷ hops) (v ∷ []) found are covered = absurd are
  covered_all (left ∷ right ∷ hops) (v ∷ w ∷ versions) [] are covered = absurd are
  covered_all (left ∷ right ∷ hops) (v ∷ w ∷ versions) (first ∷ found) are covered =
      and_from (is_none first) (list_all is_none found) (covered_none (hop_under plan readings v left) (hop_under plan readings w right) first are.0 covered.0)
      (covered_all (right ∷ hops) (w ∷ versions) found are.1 covered.1)

-- ---- the last line

-- a line ends a text
abbrev EndsLine : List ℕ → Type 0
EndsLine text = (lines : List ℕ) × (text ≡ line_of lines)

-- what a line has in front of its end
abbrev told_of : ℕ → List ℕ → List ℕ
told_of left told = codes "hop " ++ decimal left ++ codes " " ++ decimal (left + 1) ++ codes " " ++ told

one_line : (left : ℕ) (found : Option Uncovered) → EndsLine (link_line left found)
unfolding told_line hops_line
one_line left None = (told_of left (codes "covered"), refl)
one_line left (Some (Differ difference)) = (told_of left (found_text (Some difference)), refl)
one_line left (Some NoRange) = (told_of left (codes "uncovered NoRange"), refl)
one_line left (Some (Entry index)) = (told_of left (codes "uncovered entry " ++ decimal index), refl)

lines_end : (left : ℕ) (found : List (Option Uncovered)) → (links_text left found ≡ []) ⊎ EndsLine (links_text left found)
lines_end left [] = inl refl
lines_end left (first ∷ found) = inr (by_rest (one_line left first) (lines_end (left + 1) found))
  where
    by_rest : EndsLine (link_line left first) → (links_text (left + 1) found ≡ []) ⊎ EndsLine (links_text (left + 1) found) → EndsLine (link_line left first ++ links_text (left + 1) found)
    by_rest line (inl none) = (line.0, ap (λ (rest : List ℕ). link_line left first ++ rest) none ∙ append-nil (link_line left first) ∙ line.1)
    by_rest line (inr rest) =
        (link_line left first ++ rest.0, ap (λ (text : List ℕ). link_line left first ++ text) rest.1 ∙ sym (append_assoc (link_line left first) rest.0 (10 ∷ [])))

-- texts that end in the same are the same in front of it
abbrev last_of : List ℕ → ℕ → ℕ
last_of [] n = n
last_of (m ∷ ms) n = last_of ms m

last_pushed : (xs : List ℕ) (x n : ℕ) → last_of (xs ++ x ∷ []) n ≡ x
last_pushed [] x n = refl
last_pushed (y ∷ xs) x n = last_pushed xs x y

same_front : (xs ys : List ℕ) (end : List ℕ) → xs ++ end ≡ ys ++ end → xs ≡ ys
same_front [] [] end is = refl
same_front [] (y ∷ ys) end is = absurd (omega (arith, ap length is, length-append (y ∷ ys) end))
same_front (x ∷ xs) [] end is = absurd (omega (arith, ap length is, length-append (x ∷ xs) end))
same_front (x ∷ xs) (y ∷ ys) end is =
    let heads : x ≡ y = ap (λ zs. head_or zs 0) is in
    let tails : xs ≡ ys = same_front xs ys end (ap tail_of is) in
    λ i. heads i ∷ tails i
  where
    head_or : List ℕ → ℕ → ℕ
    head_or [] n = n
    head_or (m ∷ ms) n = m

    tail_of : List ℕ → List ℕ
    tail_of [] = []
    tail_of (m ∷ ms) = ms

module _ (lines : List ℕ) where
  pub says_covered : (lines ≡ []) ⊎ EndsLine lines → IsLastLine (codes "covered") (lines ++ coverage_line true)
  unfolding coverage_line
  says_covered begins = record { front = lines; is = refl; begins = begins }

  -- `uncovered` isn't `covered` behind other lines
  pub says_uncovered : IsLastLine (codes "covered") (lines ++ coverage_line false) → ⊥
  unfolding coverage_line
  says_uncovered last = by_front last.begins
    where
      front_is : last.front ≡ lines ++ codes "un"
      front_is = sym (same_front (lines ++ codes "un") last.front (line_of (codes "covered")) (append_assoc lines (codes "un") (line_of (codes "covered")) ∙ last.is))

      by_front : (last.front ≡ []) ⊎ EndsLine last.front → ⊥
      by_front (inl none) = omega (arith, ap length (sym front_is ∙ none), length-append lines (codes "un"))
      by_front (inr ends) =
          let un : lines ++ codes "un" ≡ (lines ++ 117 ∷ []) ++ 110 ∷ [] = sym (append_assoc lines (117 ∷ []) (110 ∷ [])) in
          let same : 110 ≡ 10 = sym (last_pushed (lines ++ 117 ∷ []) 110 0) ∙ ap (λ xs. last_of xs 0) (sym un ∙ sym front_is ∙ ends.1) ∙ last_pushed ends.0 10 0 in
          omega (arith, same)

-- ---- a report

module _ (script : Script) (number : ℕ) (named : Option (List ℕ)) where
  by_covered : (flow : FlowLine) (found : List (Option Uncovered)) → flow_numbered script number ≡ Some flow → AreVersionsOf script number flow (versions_for flow named)
      → EachTwo IsLinkFound (plan_of script) script.readings flow.hops (versions_for flow named) found → (b : Bool) → list_all is_none found ≡ b
      → (IsLastLine (codes "covered") (links_text 1 found ++ coverage_line b) ↔ IsCoveredFlow script number named)
  by_covered flow found is are finds true all = (
    λ last. record { flow = flow; is = is; versions = are; covered = all_covered (plan_of script) script.readings flow.hops (versions_for flow named) found finds all },
    λ covered. says_covered (links_text 1 found) (lines_end 1 found),
  )
  by_covered flow found is are finds false all = (
    λ last. absurd (says_uncovered (links_text 1 found) last),
    λ covered.
        let same : ◌≡◌ {A = Option FlowLine} (Some covered.flow) (Some flow) = sym covered.is ∙ is in
        let one : covered.flow ≡ flow = cc in
        let here = subst (λ (f : FlowLine). NeighboursCovered (plan_of script) script.readings f.hops (versions_for f named)) one covered.covered in
        absurd (false≢true (sym all ∙ covered_all (plan_of script) script.readings flow.hops (versions_for flow named) found finds here)),
  )

  nothing_said : IsLastLine (codes "covered") [] → ⊥
  nothing_said last = omega (arith, ap length last.is, length-append last.front (line_of (codes "covered")))

  pub said_covered : (status : ℕ) (report : Report) → HopsAnswer IsLinkFound cover_text number named script status report → (IsLastLine (codes "covered") report.body ↔ IsCoveredFlow script number named)
  said_covered status report (no_flow none) = (
    λ last. absurd (nothing_said last),
    λ covered. let wrong : ◌≡◌ {A = Option FlowLine} None (Some covered.flow) = sym none ∙ covered.is in absurd cc,
  )
  said_covered status report (bad_versions flow is never) = (
    λ last. absurd (nothing_said last),
    λ covered.
        let same : ◌≡◌ {A = Option FlowLine} (Some covered.flow) (Some flow) = sym covered.is ∙ is in
        let one : covered.flow ≡ flow = cc in
        absurd (never (subst (λ (f : FlowLine). AreVersionsOf script number f (versions_for f named)) one covered.versions)),
  )
  said_covered status report (compared flow found is are finds) = by_covered flow found is are finds (list_all is_none found) refl
