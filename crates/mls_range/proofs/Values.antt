-- What a reader gives is what is computed: the value of a text that is read, and none of one that is refused.
use Rattle.std.proofs.Common.{◌≡◌, ℕ, List, Option, Some, None, true, Result, Ok, Err, OnOk, IfErr, MatchResult, refl}
use Rattle.std.specs.Result.{is_err}
use Rattle.std.proofs.lemmas.Bool.{false≢true}
use Rattle.mls_label.specs.declared.label.Label.{Label}
use Rattle.mls_label.specs.Label.{Dominates}
use Rattle.mls_range.specs.declared.fault.TextFault.{TextFault}
use Rattle.mls_range.specs.TextFault.{StopsLabel}
use Rattle.mls_range.specs.Range.{LabelRange}
use Rattle.mls_range.specs.RangeText.{IsRangeText, IsRoomyRange, StopsRange}
use Rattle.mls_range.specs.Computed.{label_of_text, range_of_text}
use Rattle.mls_range.proofs.Law.{a_refused_text_is_no_label, a_refused_text_is_no_range, computed_labels_are_of_the_text, range_texts_compute, computed_ranges_are_of_the_text}

pub refused_label : (text : List ℕ) (fault : TextFault) → StopsLabel text fault → label_of_text text ≡ None
refused_label text fault stops = by_value (label_of_text text) refl where
  by_value : (found : Option Label) → label_of_text text ≡ found → found ≡ None
  by_value None e = refl
  by_value (Some label) e =
      let is = computed_labels_are_of_the_text text label e in
      absurd (a_refused_text_is_no_label text fault label stops is.0 is.1)

pub refused_range : (text : List ℕ) (fault : TextFault) → StopsRange text fault → range_of_text text ≡ None
refused_range text fault stops = by_value (range_of_text text) refl where
  by_value : (found : Option LabelRange) → range_of_text text ≡ found → found ≡ None
  by_value None e = refl
  by_value (Some range) e =
      let is = computed_ranges_are_of_the_text text range e in
      absurd (a_refused_text_is_no_range text fault range stops is.0 is.2 is.1)

pub range_value : (result : Result (Unit {0}) TextFault) (text : List ℕ) (range : LabelRange) → OnOk result (IsRangeText text range) → OnOk result (Dominates range.high range.low) → OnOk result (IsRoomyRange text) → IfErr result (StopsRange text)
    → MatchResult result (λ done. range_of_text text ≡ Some range) (λ fault. range_of_text text ≡ None)
range_value (Ok done) text range is ordered roomy stops = range_texts_compute text range is roomy ordered
range_value (Err fault) text range is ordered roomy stops = refused_range text fault stops

pub no_range_value : (result : Result (Unit {0}) TextFault) (text : List ℕ) (range : LabelRange) → is_err result ≡ true → IfErr result (StopsRange text) → MatchResult result (λ done. range_of_text text ≡ Some range) (λ fault. range_of_text text ≡ None)
no_range_value (Ok done) text range fails stops = absurd (false≢true fails)
no_range_value (Err fault) text range fails stops = refused_range text fault stops
