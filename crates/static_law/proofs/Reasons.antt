-- A link for which there is a reason isn't covered.
use Rattle.std.proofs.Common.{◌≡◌, ◌⊎◌, inl, inr, ℕ, false, List, [], Option, Some, None, refl, sym, ap, subst, ◌∙◌, arith}
use Rattle.std.proofs.lemmas.Bool.{cases_lt, false≢true}
use Rattle.std.proofs.lemmas.List.Elements.{All-contains}
use Rattle.mls_range.specs.Range.{LabelRange}
use Rattle.domain_map.specs.declared.static_map.StaticEntry.{StaticEntry}
use Rattle.domain_map.specs.Statics.{entries_for}
use Rattle.label_commands.specs.node_readings.Reading.{NamedMeanings}
use Rattle.label_commands.specs.node_readings.Meaning.{meaning_of}
use Rattle.node_tables.specs.Tables.{TableState}
use Rattle.label_flow.specs.declared.node_agreement.disagree.Disagree.{Disagree}
use Rattle.label_flow.proofs.node_agreement.Law.{nodes_agree_without_a_difference, one_difference_is_first}
use Rattle.static_law.specs.declared.uncovered.Uncovered.{Uncovered}
use Rattle.static_law.specs.declared.uncovered.Uncovered.TheVariants.{Differ, NoRange, Entry}
use Rattle.static_law.specs.Covered.{MeansNoLess, AreNoLess, Covered}
use Rattle.static_law.specs.Uncovered.{IsFirstLow, MayLabel, IsUncovered}

module _ (left right : TableState) (out into : List ℕ) (left_named right_named : NamedMeanings) where
  above_of : MayLabel left right into left_named right_named → Covered left out right into left_named right_named → AreNoLess left.ranges out left_named (entries_for right.statics into) right_named
  above_of may covered = by_way covered.unlabelled
    where
      by_way : (right.accepts ≡ false) ⊎ ((entries_for right.statics into ≡ []) ⊎ AreNoLess left.ranges out left_named (entries_for right.statics into) right_named) → AreNoLess left.ranges out left_named (entries_for right.statics into) right_named
      by_way (inl off) = absurd (false≢true (sym off ∙ may.accepts))
      by_way (inr (inl none)) = absurd (may.some none)
      by_way (inr (inr above)) = above

  pub uncovers : (why : Uncovered) → IsUncovered left out right into left_named right_named why → Covered left out right into left_named right_named → ⊥
  uncovers (Differ difference) is covered = (nodes_agree_without_a_difference left right left_named right_named).0 covered.agree difference is.difference
  uncovers NoRange is covered =
      let above = above_of is.0 covered in
      let other : ◌≡◌ {A = Option LabelRange} None (Some above.range) = sym is.1 ∙ above.found in
      absurd (cc)
  uncovers (Entry index) is covered =
      let above = above_of is.0 covered in
      let both : ◌≡◌ {A = Option LabelRange} (Some above.range) (Some is.1.0) = sym above.found ∙ is.1.1 in
      let same : above.range ≡ is.1.0 = cc in
      let low = is.1.2 in
      let more = All-contains (λ (e : ℕ × StaticEntry). MeansNoLess right_named (meaning_of left_named above.range.high) e.1) (entries_for right.statics into) (index, low.entry) above.above low.counts in
      low.low (subst (λ (r : LabelRange). MeansNoLess right_named (meaning_of left_named r.high) low.entry) same more)

-- ---- one reason is the first

module _ (left right : TableState) (out into : List ℕ) (left_named right_named : NamedMeanings) where
  abbrev IsReason : Uncovered → Type 0
  IsReason = IsUncovered left out right into left_named right_named

  differ_never : (difference : Disagree) → IsReason (Differ difference) → MayLabel left right into left_named right_named → ⊥
  differ_never difference is may = (nodes_agree_without_a_difference left right left_named right_named).0 may.agree difference is.difference

  range_never : (index : ℕ) → IsReason NoRange → IsReason (Entry index) → ⊥
  range_never index none is = let wrong : ◌≡◌ {A = Option LabelRange} None (Some is.1.0) = sym none.1 ∙ is.1.1 in absurd cc

  one_index : (a b : ℕ) → IsReason (Entry a) → IsReason (Entry b) → a ≡ b
  one_index a b is_a is_b =
      let both : ◌≡◌ {A = Option LabelRange} (Some is_b.1.0) (Some is_a.1.0) = sym is_b.1.1 ∙ is_a.1.1 in
      let same : is_b.1.0 ≡ is_a.1.0 = cc in
      let first = is_a.1.2 in
      let other = subst (λ (r : LabelRange). IsFirstLow (entries_for right.statics into) right_named (meaning_of left_named r.high) b) same is_b.1.2 in
      elim (cases_lt a b) [
        | inl below ↦ absurd (first.low (other.first a first.entry below first.counts))
        | inr from ↦ elim (cases_lt b a) [
          | inl below ↦ absurd (other.low (first.first b other.entry below other.counts))
          | inr up ↦ omega (arith, from, up)
        ]
      ]

  pub one_reason : (a b : Uncovered) → IsReason a → IsReason b → a ≡ b
  one_reason (Differ d) (Differ e) x y = ap (λ (f : Disagree). Differ f) (one_difference_is_first left right left_named right_named d e x y)
  one_reason (Differ d) NoRange x y = absurd (differ_never d x y.0)
  one_reason (Differ d) (Entry b) x y = absurd (differ_never d x y.0)
  one_reason NoRange (Differ e) x y = absurd (differ_never e y x.0)
  one_reason NoRange NoRange x y = refl
  one_reason NoRange (Entry b) x y = absurd (range_never b x y)
  one_reason (Entry a) (Differ e) x y = absurd (differ_never e y x.0)
  one_reason (Entry a) NoRange x y = absurd (range_never a y x)
  one_reason (Entry a) (Entry b) x y = ap (λ (index : ℕ). Entry index) (one_index a b x y)
