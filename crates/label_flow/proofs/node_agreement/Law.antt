-- The laws of src/laws.rt under their names, for the crates above.
use Rattle.std.proofs.Common.{◌≡◌, ◌↔◌, ℕ, ◌<◌, ◌≤◌, Bool, true, false, List, length, All, Result, Ok, IsTrue, sym, ◌∙◌, ap, refl, arith, inl, inr, Some}
use Rattle.std.proofs.lemmas.Bool.{cases_eq}
use Rattle.mls_label.specs.declared.label.Label.{Label}
use Rattle.mls_label.specs.declared.label.Proto.{Proto}
use Rattle.mls_label.specs.declared.label.Proto.TheVariants.{Cipso, Calipso}
use Rattle.mls_label.specs.Cats.{has, IsCats}
use Rattle.mls_label.proofs.Law.{sets_have_categories}
use Rattle.doi_table.specs.declared.plan.DoiPlan.{DoiPlan}
use Rattle.doi_table.specs.Definition.{IsDefinition}
use Rattle.doi_table.specs.Translation.{wire_label, local_label}
use Rattle.doi_table.specs.Table.{definition_of}
use Rattle.doi_table.proofs.Law.{wire_labels_are_labels, wire_labels_go_by_numbers, local_labels_go_by_numbers}
use Rattle.script_lines.specs.Form.{Edition, with_ranges, with_translations}
use Rattle.label_commands.specs.node_readings.Reading.{NamedMeanings}
use Rattle.label_commands.specs.node_readings.Meaning.{meaning_of}
use Rattle.node_tables.specs.Tables.{TableState}
use Rattle.node_tables.specs.Steps.{tables_after, reply_at}
use Rattle.node_tables.specs.Valid.{AreValid}
use Rattle.node_tables.proofs.Law.{tables_are_valid_after_steps}
use Rattle.label_commands.specs.declared.script.Script.{Script}
use Rattle.label_commands.specs.declared.stop.ScriptStop.{ScriptStop}
use Rattle.label_commands.specs.Script.{read_text, IsScript}
use Rattle.label_commands.proofs.Law.{scripts_with_ranges_are_kept, numbers_of_scripts_are_bounded}
use Rattle.label_flow.specs.declared.node_agreement.disagree.Disagree.{Disagree}
use Rattle.label_flow.specs.node_agreement.Meanings.{carried_below, carried_in}
use Rattle.label_flow.specs.node_agreement.Agreement.{AgreeBelow, Agree}
use Rattle.label_flow.specs.node_agreement.First.{is_before, IsDifference, IsFirstBelow, IsFirst}
use Rattle.label_flow.proofs.node_agreement.Same.{one_first, widened}
use Rattle.label_flow.proofs.node_agreement.Kept.{meaning_kept}

pub agreement_keeps_meaning : (left right : TableState) (left_named right_named : NamedMeanings) (proto : Proto) (doi : ℕ) (a b : DoiPlan) (x w y : Label)
    → Agree left right left_named right_named → definition_of left.definitions proto doi ≡ Some a → definition_of right.definitions proto doi ≡ Some b
    → IsDefinition a → IsDefinition b → x.level < 256 → IsCats x.cats → wire_label a x ≡ Ok w
    → (proto ≡ Calipso → (c : ℕ) → IsTrue (has w.cats c) → c < 1952)
    → local_label b w ≡ Ok y → meaning_of right_named y ≡ meaning_of left_named x
agreement_keeps_meaning left right left_named right_named proto doi a b x w y agree at_left at_right is_a is_b lt cats out few home =
    let label = wire_labels_are_labels a x w is_a lt cats out in
    meaning_kept left right left_named right_named proto doi a b at_left at_right is_a agree x w y label.0 (carried proto few label.1)
    (wire_labels_go_by_numbers a x w is_a out) (local_labels_go_by_numbers b w y is_b home)
  where
    carried : (p : Proto) → (p ≡ Calipso → (c : ℕ) → IsTrue (has w.cats c) → c < 1952) → IsCats w.cats → (c : ℕ) → IsTrue (has w.cats c) → c < carried_below p false
    carried Cipso few set c h = sets_have_categories w.cats c set h
    carried Calipso few set c h = few refl c h

pub agreement_is_mutual : (left right : TableState) (left_named right_named : NamedMeanings) → Agree left right left_named right_named → Agree right left right_named left_named
agreement_is_mutual left right left_named right_named agree = λ proto doi level wire a b lt ea eb. sym (agree proto doi level wire b a lt eb ea)

pub nodes_agree_without_a_difference : (left right : TableState) (left_named right_named : NamedMeanings) → (Agree left right left_named right_named ↔ ((d : Disagree) → IsDifference left right left_named right_named d → ⊥))
nodes_agree_without_a_difference left right left_named right_named = (
  λ agree d diff. diff.differ (agree d.proto d.doi d.level d.wire d.left d.right diff.carried diff.left_means diff.right_means),
  λ never proto doi level wire a b lt ea eb.
      elim (cases_eq a b) [
        | inl same ↦ same
        | inr ne ↦ absurd (never (record { proto = proto; doi = doi; level = level; wire = wire; left = a; right = b }) (record { carried = lt; left_means = ea; right_means = eb; differ = ne }))
      ],
)

pub one_difference_is_first : (left right : TableState) (left_named right_named : NamedMeanings) (d e : Disagree) → IsFirst left right left_named right_named d → IsFirst left right left_named right_named e → d ≡ e
one_difference_is_first = one_first carried_below

pub fewer_numbers_agree_more : (below wide : Proto → Bool → ℕ) (left right : TableState) (left_named right_named : NamedMeanings) → ((proto : Proto) (level : Bool) → below proto level ≤ wide proto level)
    → AgreeBelow wide left right left_named right_named → AgreeBelow below left right left_named right_named
fewer_numbers_agree_more below wide left right left_named right_named fewer agree = λ proto doi level wire a b lt ea eb.
    agree proto doi level wire a b (omega (arith, lt, fewer proto level)) ea eb

pub fewer_numbers_differ_later : (below wide : Proto → Bool → ℕ) (left right : TableState) (left_named right_named : NamedMeanings) (d : Disagree) → ((proto : Proto) (level : Bool) → below proto level ≤ wide proto level)
    → IsFirstBelow wide left right left_named right_named d
    → (d.wire < below d.proto d.level → IsFirstBelow below left right left_named right_named d)
    × ((e : Disagree) → IsFirstBelow below left right left_named right_named e → is_before e d ≡ false)
fewer_numbers_differ_later below wide left right left_named right_named d fewer of_d = (
  λ lt. record {
    difference = record { carried = lt; left_means = of_d.difference.left_means; right_means = of_d.difference.right_means; differ = of_d.difference.differ };
    first = λ e of_e. of_d.first e (widened below wide left right left_named right_named e fewer of_e);
  },
  λ e of_e. of_d.first e (widened below wide left right left_named right_named e fewer of_e.difference),
)

fewer_carried : (proto : Proto) (level : Bool) → carried_below proto level ≤ carried_in with_ranges proto level
fewer_carried Cipso true = omega arith
fewer_carried Cipso false = omega arith
fewer_carried Calipso true = omega arith
fewer_carried Calipso false = omega arith

carried_still : (proto : Proto) (level : Bool) (wire : ℕ) → wire < carried_in with_ranges proto level → (proto ≡ Calipso → level ≡ false → wire < 1952) → wire < carried_below proto level
carried_still Cipso true wire lt few = lt
carried_still Cipso false wire lt few = lt
carried_still Calipso true wire lt few = lt
carried_still Calipso false wire lt few = few refl refl

pub record LawsOnAgreement : Type 0 where
  pub agree : (left right : TableState) (left_named right_named : NamedMeanings) → AgreeBelow (carried_in with_ranges) left right left_named right_named → Agree left right left_named right_named
  pub stays : (left right : TableState) (left_named right_named : NamedMeanings) (d : Disagree) → IsFirstBelow (carried_in with_ranges) left right left_named right_named d
      → (d.proto ≡ Calipso → d.level ≡ false → d.wire < 1952) → IsFirst left right left_named right_named d
  pub later : (left right : TableState) (left_named right_named : NamedMeanings) (d e : Disagree) → IsFirstBelow (carried_in with_ranges) left right left_named right_named d
      → IsFirst left right left_named right_named e → is_before e d ≡ false

pub last_edition_agrees_more : LawsOnAgreement
last_edition_agrees_more = record {
  agree = λ left right left_named right_named agree. fewer_numbers_agree_more carried_below (carried_in with_ranges) left right left_named right_named fewer_carried agree;
  stays = λ left right left_named right_named d of_d few.
      (fewer_numbers_differ_later carried_below (carried_in with_ranges) left right left_named right_named d fewer_carried of_d).0
      (carried_still d.proto d.level d.wire of_d.difference.carried few);
  later = λ left right left_named right_named d e of_d of_e.
      (fewer_numbers_differ_later carried_below (carried_in with_ranges) left right left_named right_named d fewer_carried of_d).1 e of_e;
}

same_script : (r : Result Script ScriptStop) (old new : Script) → r ≡ Ok old → r ≡ Ok new → old ≡ new
same_script r old new x y = let same : ◌≡◌ {A = Result Script ScriptStop} (Ok old) (Ok new) = sym x ∙ y in cc

one_script : (own text : List ℕ) (old new : Script) → IsScript with_ranges own text old → IsScript with_translations own text new → old ≡ new
one_script own text old new x y = same_script (read_text with_translations own text) old new (scripts_with_ranges_are_kept own text old x) y

pub record LawsOnTables : Type 0 where
  pub tables : (own text : List ℕ) (old new : Script) (k : ℕ) → IsScript with_ranges own text old → IsScript with_translations own text new
      → tables_after (length old.nodes) old.steps k ≡ tables_after (length new.nodes) new.steps k
  pub replies : (own text : List ℕ) (old new : Script) (k : ℕ) → IsScript with_ranges own text old → IsScript with_translations own text new
      → reply_at (length old.nodes) old.steps k ≡ reply_at (length new.nodes) new.steps k

pub last_edition_keeps_tables : LawsOnTables
last_edition_keeps_tables = record {
  tables = λ own text old new k x y. ap (λ (s : Script). tables_after (length s.nodes) s.steps k) (one_script own text old new x y);
  replies = λ own text old new k x y. ap (λ (s : Script). reply_at (length s.nodes) s.steps k) (one_script own text old new x y);
}

pub tables_of_scripts_are_valid : (edition : Edition) (own text : List ℕ) (script : Script) (k : ℕ) → IsScript edition own text script → All AreValid (tables_after (length script.nodes) script.steps k)
tables_of_scripts_are_valid edition own text script k is = tables_are_valid_after_steps (length script.nodes) script.steps k (numbers_of_scripts_are_bounded edition own text script is).steps
