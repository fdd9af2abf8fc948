-- What is found of a link, and why it is covered or isn't.
use Rattle.std.proofs.Common.{◌≡◌, ◌≢◌, inl, inr, ℕ, true, List, [], Contains, Some, subst}
use Rattle.std.specs.List.{All}
use Rattle.std.proofs.lemmas.List.Elements.{All-weaker, All-contains_itself}
use Rattle.mls_label.specs.declared.label.Label.{Label}
use Rattle.mls_range.specs.Range.{LabelRange}
use Rattle.domain_map.specs.declared.static_map.StaticEntry.{StaticEntry}
use Rattle.domain_map.specs.Statics.{Statics, entries_for}
use Rattle.label_commands.specs.node_readings.Reading.{NamedMeanings}
use Rattle.label_commands.specs.node_readings.Meaning.{meaning_of}
use Rattle.node_tables.specs.Tables.{TableState, find_range_of}
use Rattle.label_flow.specs.node_agreement.Agreement.{Agree}
use Rattle.static_law.specs.declared.uncovered.Uncovered.TheVariants.{Entry}
use Rattle.static_law.specs.Covered.{MeansNoLess, Covered}
use Rattle.static_law.specs.Uncovered.{IsFirstLow, MayLabel, IsUncovered}

-- each of these entries, by its place
all_of_each : (P : StaticEntry → Type 0) (entries : List (ℕ × StaticEntry)) → ((place : ℕ) (entry : StaticEntry) → Contains entries (place, entry) → P entry) → All (λ (e : ℕ × StaticEntry). P e.1) entries
all_of_each P entries each = All-weaker (Contains entries) (λ (e : ℕ × StaticEntry). P e.1) (λ e there. each e.0 e.1 there) entries (All-contains_itself entries)

-- what was found of these entries, which are those in question
module _ (left right : TableState) (out into : List ℕ) (left_named right_named : NamedMeanings) (statics : Statics) (entries : List (ℕ × StaticEntry)) (same : statics ≡ right.statics) (are : entries ≡ entries_for statics into)
    (agree : Agree left right left_named right_named) where
  forth : (P : List (ℕ × StaticEntry) → Type 0) → P entries → P (entries_for right.statics into)
  forth P h = subst (λ s. P (entries_for s into)) same (subst P are h)

  pub covered_by_none : entries ≡ [] → Covered left out right into left_named right_named
  covered_by_none none = record { agree = agree; unlabelled = inr (inl (forth (λ es. es ≡ []) none)) }

  pub may_label : right.accepts ≡ true → entries ≢ [] → MayLabel left right into left_named right_named
  may_label accepts some = record { agree = agree; accepts = accepts; some = forth (λ es. es ≡ [] → ⊥) some }

  module _ (range : LabelRange) (found : find_range_of left.ranges out ≡ Some range) (least : Label) (high : least ≡ range.high) where
    pub low_entry : (index : ℕ) → MayLabel left right into left_named right_named → IsFirstLow entries right_named (meaning_of left_named least) index → IsUncovered left out right into left_named right_named (Entry index)
    low_entry index may low =
        (may, (range, found, subst (λ l. IsFirstLow (entries_for right.statics into) right_named (meaning_of left_named l) index) high (forth (λ es. IsFirstLow es right_named (meaning_of left_named least) index) low)))

    pub covered_by_all : ((place : ℕ) (entry : StaticEntry) → Contains entries (place, entry) → MeansNoLess right_named (meaning_of left_named least) entry) → Covered left out right into left_named right_named
    covered_by_all each =
        let all = all_of_each (MeansNoLess right_named (meaning_of left_named least)) entries each in
        record {
          agree = agree;
          unlabelled = inr (inr (record {
            range = range;
            found = found;
            above = subst (λ l. All (λ (e : ℕ × StaticEntry). MeansNoLess right_named (meaning_of left_named l) e.1) (entries_for right.statics into)) high
                (forth (λ es. All (λ (e : ℕ × StaticEntry). MeansNoLess right_named (meaning_of left_named least) e.1) es) all);
          }));
        }
