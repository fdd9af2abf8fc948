-- The first difference of a protocol, and of both.
use Rattle.std.proofs.Common.{◌≡◌, ℕ, ◌≤◌, Option, Some, None, IfNone, refl, inl, inr}
use Rattle.std.proofs.lemmas.Bool.{cases_eq}
use Rattle.mls_label.specs.declared.label.Proto.{Proto}
use Rattle.mls_label.specs.declared.label.Proto.TheVariants.{Cipso, Calipso}
use Rattle.label_commands.specs.node_readings.Reading.{NamedMeanings}
use Rattle.node_tables.specs.Tables.{TableState}
use Rattle.label_flow.specs.declared.node_agreement.disagree.Disagree.{Disagree}
use Rattle.label_flow.specs.node_agreement.Agreement.{Agree}
use Rattle.label_flow.specs.node_agreement.First.{IsDifference}
use Rattle.label_flow.specs.node_agreement.inside.Found.{IsFirstAmong}

module _ (left right : TableState) (left_named right_named : NamedMeanings) where
  -- no difference of the protocol has a lower DOI
  abbrev pub NoneBelow : Proto → ℕ → Type 0
  NoneBelow proto from = (e : Disagree) → IsDifference left right left_named right_named e → e.proto ≡ proto → from ≤ e.doi

  abbrev pub OfProto : Proto → Disagree → Type 0
  OfProto proto e = e.proto ≡ proto

  none_of_either : IsFirstAmong (OfProto Cipso) left right left_named right_named None → IsFirstAmong (OfProto Calipso) left right left_named right_named None → (e : Disagree) → IsDifference left right left_named right_named e → ⊥
  none_of_either cipso calipso e diff = by e.proto (cipso.first e diff) (calipso.first e diff)
    where
      by : (p : Proto) → (p ≡ Cipso → ⊥) → (p ≡ Calipso → ⊥) → ⊥
      by Cipso f g = f refl
      by Calipso f g = g refl

  -- nodes without a difference of either protocol agree
  pub none_of_both : (found : Option Disagree) → IsFirstAmong (OfProto Cipso) left right left_named right_named None → IsFirstAmong (OfProto Calipso) left right left_named right_named found → IfNone found (Agree left right left_named right_named)
  none_of_both (Some d) cipso calipso = tt
  none_of_both None cipso calipso = λ proto doi level wire a b lt ea eb.
      elim (cases_eq a b) [
        | inl same ↦ same
        | inr ne ↦
            absurd (none_of_either cipso calipso (record { proto = proto; doi = doi; level = level; wire = wire; left = a; right = b }) (record { carried = lt; left_means = ea; right_means = eb; differ = ne }))
      ]
