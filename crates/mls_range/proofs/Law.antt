-- The laws of src/laws.rt under their names, for the crates above.
use Rattle.std.proofs.Common.{◌≡◌, ◌↔◌, ℕ, ◌<◌, ◌≤◌, List, ◌∷◌, ◌++◌, length, Some, IsTrue, subst, inr}
use Rattle.std.specs.Prelude.{◌==◌, count_by}
use Rattle.std.specs.List.{All}
use Rattle.mls_label.specs.declared.octet_grammar.fault.WireKind.TheVariants as wire
use Rattle.mls_label.proofs.octet_grammar.Faults.{fault_no_member}
use Rattle.mls_label.specs.declared.label.Label.{Label}
use Rattle.mls_label.specs.Cats.{IsCats}
use Rattle.mls_label.specs.Label.{Dominates}
use Rattle.mls_label.specs.Runs.{runs_of}
use Rattle.mls_label.specs.declared.cat_set.TheConstants.{MOST_RUNS}
use Rattle.mls_range.specs.declared.fault.TextFault.{TextFault}
use Rattle.mls_range.specs.declared.fault.TextKind.{TextKind}
use Rattle.mls_range.specs.declared.fault.TextKind.TheVariants.{Grammar, End, TooManyRuns, NotOrdered}
use Rattle.mls_range.specs.LabelText.{colon, hyphen, IsLabelText, is_label_octet, label_text}
use Rattle.mls_range.specs.Place.{octet_fault, end_fault}
use Rattle.mls_range.specs.TextFault.{IsRoomyLabel, FailsLabel, StopsLabel}
use Rattle.mls_range.specs.Range.{LabelRange}
use Rattle.mls_range.specs.RangeText.{IsRangeText, range_text, IsRoomyRange, FailsRange, StopsRange}
use Rattle.mls_range.specs.Computed.{label_of_text, range_of_text, dominates, lone_range}
use Rattle.mls_range.proofs.Unique.{one_label}
use Rattle.mls_range.proofs.ReadBack.{reads_back}
use Rattle.mls_range.proofs.RangeTexts.{one_range, range_reads_back}
use Rattle.mls_range.proofs.Orders.{dominance}
use Rattle.mls_range.proofs.Octets.{label_octets, one_colon}
use Rattle.mls_range.proofs.Computes.{label_computes, label_is, written_label, range_computes, range_is, few_of_label, few_of_range, written_range, lone_computed, pair_computed}

pub written_label_reads_back : (label : Label) → label.level < 256 → IsCats label.cats → IsLabelText (label_text label) label
written_label_reads_back = reads_back

pub a_text_has_one_label : (text : List ℕ) (a b : Label) → IsLabelText text a → IsLabelText text b → a ≡ b
a_text_has_one_label = one_label

fails_no_label : (text : List ℕ) (octet : ℕ) (kind : TextKind) (label : Label) → FailsLabel text octet kind → IsLabelText text label → IsRoomyLabel text → ⊥
fails_no_label text octet Grammar label fails is roomy = fault_no_member IsLabelText text (octet_fault octet) octet wire.Octet fails.0.stops label is
fails_no_label text octet End label fails is roomy = fault_no_member IsLabelText text (end_fault octet) octet wire.End fails.0.stops label is
fails_no_label text octet TooManyRuns label fails is roomy = roomy octet fails
fails_no_label text octet NotOrdered label fails is roomy = fails

pub a_refused_text_is_no_label : (text : List ℕ) (fault : TextFault) (label : Label) → StopsLabel text fault → IsLabelText text label → IsRoomyLabel text → ⊥
a_refused_text_is_no_label text fault label stops is roomy = fails_no_label text fault.octet fault.kind label stops is roomy

pub written_range_reads_back : (range : LabelRange) → range.low.level < 256 → range.high.level < 256 → IsCats range.low.cats → IsCats range.high.cats → IsRangeText (range_text range) range
written_range_reads_back = range_reads_back

pub a_text_has_one_range : (text : List ℕ) (a b : LabelRange) → IsRangeText text a → IsRangeText text b → a ≡ b
a_text_has_one_range = one_range

fails_no_range : (text : List ℕ) (octet : ℕ) (kind : TextKind) (range : LabelRange) → FailsRange text octet kind → IsRangeText text range → Dominates range.high range.low → IsRoomyRange text → ⊥
fails_no_range text octet Grammar range fails is ordered roomy = fault_no_member IsRangeText text (octet_fault octet) octet wire.Octet fails.0.stops range is
fails_no_range text octet End range fails is ordered roomy = fault_no_member IsRangeText text (end_fault octet) octet wire.End fails.0.stops range is
fails_no_range text octet TooManyRuns range fails is ordered roomy = roomy octet fails
fails_no_range text octet NotOrdered range fails is ordered roomy =
    let same : range ≡ fails.range = one_range text range fails.range is (inr fails.pair) in
    fails.other (subst (λ (r : LabelRange). Dominates r.high r.low) same ordered)

pub a_refused_text_is_no_range : (text : List ℕ) (fault : TextFault) (range : LabelRange) → StopsRange text fault → IsRangeText text range → Dominates range.high range.low → IsRoomyRange text → ⊥
a_refused_text_is_no_range text fault range stops is ordered roomy = fails_no_range text fault.octet fault.kind range stops is ordered roomy

pub label_texts_compute : (text : List ℕ) (label : Label) → IsLabelText text label → IsRoomyLabel text → label_of_text text ≡ Some label
label_texts_compute = label_computes

pub computed_labels_are_of_the_text : (text : List ℕ) (label : Label) → label_of_text text ≡ Some label → IsLabelText text label × IsRoomyLabel text
computed_labels_are_of_the_text = label_is

pub record FewRuns : Type 0 where
  pub label : (text : List ℕ) (label : Label) → label_of_text text ≡ Some label → length (runs_of label.cats) ≤ MOST_RUNS
  pub range : (text : List ℕ) (range : LabelRange) → range_of_text text ≡ Some range → (length (runs_of range.low.cats) ≤ MOST_RUNS) × (length (runs_of range.high.cats) ≤ MOST_RUNS)

pub computed_labels_have_few_runs : FewRuns
computed_labels_have_few_runs = record { label = few_of_label; range = few_of_range }

pub written_label_computes : (label : Label) → label.level < 256 → IsCats label.cats → length (runs_of label.cats) ≤ MOST_RUNS → label_of_text (label_text label) ≡ Some label
written_label_computes = written_label

pub range_texts_compute : (text : List ℕ) (range : LabelRange) → IsRangeText text range → IsRoomyRange text → Dominates range.high range.low → range_of_text text ≡ Some range
range_texts_compute = range_computes

pub computed_ranges_are_of_the_text : (text : List ℕ) (range : LabelRange) → range_of_text text ≡ Some range → IsRangeText text range × IsRoomyRange text × Dominates range.high range.low
computed_ranges_are_of_the_text = range_is

pub written_range_computes : (range : LabelRange) → range.low.level < 256 → range.high.level < 256 → IsCats range.low.cats → IsCats range.high.cats → length (runs_of range.low.cats) ≤ MOST_RUNS → length (runs_of range.high.cats) ≤ MOST_RUNS → Dominates range.high range.low → range_of_text (range_text range) ≡ Some range
written_range_computes range low high low_cats high_cats low_few high_few ordered =
    written_range range (written_label range.low low low_cats low_few) (written_label range.high high high_cats high_few) ordered

pub dominance_computes : (a b : Label) → IsTrue (dominates a b) ↔ Dominates a b
dominance_computes = dominance

pub labels_are_ranges : (text : List ℕ) (label : Label) → label_of_text text ≡ Some label → range_of_text text ≡ Some (lone_range label)
labels_are_ranges = lone_computed

pub two_labels_make_a_range : (low_text high_text : List ℕ) (low high : Label) → label_of_text low_text ≡ Some low → label_of_text high_text ≡ Some high → Dominates high low
    → range_of_text (low_text ++ hyphen ∷ high_text) ≡ Some (record { low = low; high = high })
two_labels_make_a_range = pair_computed

pub label_texts_have_few_octets : (text : List ℕ) (label : Label) → IsLabelText text label → All (λ c. IsTrue (is_label_octet c)) text
label_texts_have_few_octets = label_octets

pub label_texts_have_one_colon : (text : List ℕ) (label : Label) → IsLabelText text label → count_by (λ c. c == colon) text ≤ 1
label_texts_have_one_colon = one_colon
