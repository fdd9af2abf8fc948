-- Worked tables. Node a has a range for eth1, and b gives a label to what comes from 10.0.0.0/8 without one.
use Rattle.std.proofs.Common.{inl, inr, ℕ, ◌<◌, List, [], ◌∷◌, Some, None, refl, sym, ◌∙◌, arith}
use Rattle.std.specs.FinSet as set
use Rattle.std.proofs.lemmas.Bool.{false≢true}
use Rattle.std.proofs.lemmas.List.Elements.{All-nil, All-cons}
use Rattle.mls_label.specs.declared.label.Label.{Label}
use Rattle.mls_label.specs.Cats.{IsCats}
use Rattle.mls_range.specs.Range.{LabelRange}
use Rattle.mls_range.specs.Computed.{lone_range}
use Rattle.mls_range.proofs.Law.{dominance_computes}
use Rattle.domain_map.specs.declared.address_text.address.Address.TheVariants.{V4}
use Rattle.domain_map.specs.address_text.Prefix.{AddressBlock}
use Rattle.domain_map.specs.declared.static_map.StaticEntry.{StaticEntry}
use Rattle.domain_map.specs.Statics.{static_added}
use Rattle.script_lines.specs.declared.command.Command.TheVariants.{AcceptOn, AcceptOff, UnlblAdd, RangeAdd}
use Rattle.label_commands.specs.node_readings.Meaning.{meaning_of, MeansDominates}
use Rattle.label_commands.proofs.node_readings.Law.{meaning_follows_dominance}
use Rattle.node_tables.specs.Tables.{TableState, fresh}
use Rattle.node_tables.specs.Effect.{effect_of, applied}
use Rattle.label_flow.specs.node_agreement.Agreement.{Agree}
use Rattle.label_commands.specs.Script.{no_meanings}
use Rattle.label_commands.proofs.Law.{no_meanings_are_a_reading}
use Rattle.static_law.specs.declared.uncovered.Uncovered.TheVariants.{NoRange, Entry}
use Rattle.static_law.specs.Covered.{MeansNoLess, Covered}
use Rattle.static_law.specs.Uncovered.{MayLabel, IsUncovered}

-- s0, s2:c1, s2:c0.c5 and s2
abbrev lowest : Label
lowest = record { level = 0; cats = [] }

abbrev one : Label
one = record { level = 2; cats = 1 ∷ [] }

abbrev six : Label
six = record { level = 2; cats = 0 ∷ 1 ∷ 2 ∷ 3 ∷ 4 ∷ 5 ∷ [] }

abbrev bare : Label
bare = record { level = 2; cats = [] }

-- eth0 and eth1
abbrev eth0 : List ℕ
eth0 = 101 ∷ 116 ∷ 104 ∷ 48 ∷ []

abbrev eth1 : List ℕ
eth1 = 101 ∷ 116 ∷ 104 ∷ 49 ∷ []

abbrev ten : AddressBlock
ten = record { address = V4 (10 ∷ 0 ∷ 0 ∷ 0 ∷ []); bits = 8 }

abbrev range : LabelRange
range = record { low = lowest; high = one }

-- `range add interface:eth1 range:s0-s2:c1`
abbrev a : TableState
unfolding effect_of
a = applied fresh (RangeAdd (Some eth1) range)

-- `unlbl accept on`, then `unlbl add default address:10.0.0.0/8` with this label
abbrev b : Label → TableState
unfolding effect_of static_added
b label = applied (applied fresh AcceptOn) (UnlblAdd None ten (lone_range label))

cats_of_six : IsCats six.cats
cats_of_six = (omega arith, omega arith, (omega arith, omega arith, (omega arith, omega arith, (omega arith, omega arith, (omega arith, omega arith, (omega arith, omega arith, tt))))))

-- c0.c5 means at least what c1 means
six_above : MeansDominates (meaning_of no_meanings six) (meaning_of no_meanings one)
six_above =
    (meaning_follows_dominance no_meanings six one no_meanings_are_a_reading (omega arith) cats_of_six (omega arith) (omega arith, omega arith, tt)).0 ((dominance_computes six one).0 refl)

-- and none doesn't
bare_below : MeansDominates (meaning_of no_meanings bare) (meaning_of no_meanings one) → ⊥
bare_below means = absurd (false≢true (sym (set.contains-from_list_nat [] 1) ∙ means.cats 1 (set.contains-from_list_nat (1 ∷ []) 1)))

no_difference : (right : TableState) → Agree a right no_meanings no_meanings
unfolding effect_of
no_difference right proto doi level wire x y below left_means right_means = absurd (cc)

-- covered by c0.c5
covered_by_six : Covered a eth1 (b six) eth0 no_meanings no_meanings
unfolding effect_of static_added
covered_by_six = record {
  agree = no_difference (b six);
  unlabelled = inr (inr (record { range = range; found = refl; above = All-cons (λ (e : ℕ × StaticEntry). MeansNoLess no_meanings (meaning_of no_meanings one) e.1) (0, record { interface = None; prefix = ten; low = six; high = six }) [] six_above (All-nil (λ (e : ℕ × StaticEntry). MeansNoLess no_meanings (meaning_of no_meanings one) e.1)) }));
}

-- and by a node that accepts nothing without a label, whatever it sets
covered_by_none : Covered a eth1 (applied (b bare) AcceptOff) eth0 no_meanings no_meanings
unfolding effect_of static_added
covered_by_none = record { agree = no_difference (applied (b bare) AcceptOff); unlabelled = inl refl }

-- s2 isn't above the range: entry 0
labels_some : (label : Label) → MayLabel a (b label) eth0 no_meanings no_meanings
unfolding effect_of static_added
labels_some label = record { agree = no_difference (b label); accepts = refl; some = λ none. absurd (cc) }

uncovered_by_bare : IsUncovered a eth1 (b bare) eth0 no_meanings no_meanings (Entry 0)
unfolding effect_of static_added
uncovered_by_bare = (
  labels_some bare,
  (
    range,
    refl,
    record {
      entry = record { interface = None; prefix = ten; low = bare; high = bare };
      counts = (0, omega arith, refl);
      low = bare_below;
      first = λ before other below stands. absurd (none_below below);
    },
  ),
)
  where
    none_below : {k : ℕ} → k < 0 → ⊥
    none_below below = omega (arith, below)

-- and without the range there is none
uncovered_without : IsUncovered fresh eth1 (b six) eth0 no_meanings no_meanings NoRange
unfolding effect_of static_added
uncovered_without = (record { agree = λ proto doi level wire x y below left_means right_means. absurd (cc); accepts = refl; some = λ none. absurd (cc) }, refl)
