-- What texts say is within its bounds.
use Rattle.std.proofs.Common.{◌≡◌, ℕ, ◌≤◌, true, List, [], ◌∷◌, length, map, Option, Some, None, refl, sym, subst, ◌∙◌, All, inl, inr, arith}
use Rattle.std.specs.Prelude.{◌==◌, ◌&&◌, IfSome, nat_le, option_map, option_and_then, if◌then◌else◌}
use Rattle.std.specs.Fmt.{decimal}
use Rattle.std.specs.List.{after_first, before_first, slice_split}
use Rattle.std.specs.Str.{bytes_eq}
use Rattle.std.specs.Str.Parse.{digits_value}
use Rattle.std.proofs.lemmas.Bool.{and_parts, leb-true, false≢true}
use Rattle.std.proofs.lemmas.List.Elements.{All-nil, All-cons}
use Rattle.std.proofs.lemmas.Option.{none-some, same_Some, cond_some, option_and_then_some}
use Rattle.std.proofs.NetLemmas.Options.{map_some}
use Rattle.mls_label.specs.declared.label.Label.{Label}
use Rattle.mls_label.specs.declared.cat_set.TheConstants.{MOST_RUNS}
use Rattle.mls_label.specs.Cats.{IsCats}
use Rattle.mls_label.specs.Label.{IsLabel, Dominates}
use Rattle.mls_label.specs.Runs.{runs_of}
use Rattle.mls_label.proofs.Law.{tests_give_sets, dominance_is_reflexive}
use Rattle.mls_range.specs.LabelText.{IsLabelText, term_has}
use Rattle.mls_range.specs.Computed.{label_of_text, lone_range, range_of_text}
use Rattle.mls_range.specs.Range.{LabelRange}
use Rattle.mls_range.specs.RangeText.{IsRangeText}
use Rattle.mls_range.proofs.Law.{computed_labels_are_of_the_text, computed_labels_have_few_runs, computed_ranges_are_of_the_text}
use Rattle.domain_map.specs.address_text.Number.{number_of_text}
use Rattle.script_lines.specs.command_values.Doi.{is_doi, doi_of_text}
use Rattle.script_lines.specs.command_values.List.{all_of, list_of_text}
use Rattle.script_lines.specs.command_values.Pairs.{pair_of_text, IsPairWithin}
use Rattle.script_lines.specs.command_values.Ranges.{behind_context, in_context, lowest_label, range_below, IsMlsLabel, IsMlsRange}
use Rattle.script_lines.specs.Form.{Edition, with_labels, with_ranges, with_translations}
use Rattle.script_lines.specs.Fields.{static_by, receiver_by}

-- ---- numbers

number_within : (most : ℕ) (text : List ℕ) (n : ℕ) → number_of_text most text ≡ Some n → n ≤ most
number_within most text n e =
    let guess = digits_value 10 text in
    let found = cond_some (bytes_eq (decimal guess) text && nat_le guess most) guess n e in
    subst (λ k. k ≤ most) found.1 (leb-true guess most (and_parts (bytes_eq (decimal guess) text) (nat_le guess most) found.0).1)

pub doi_within : (text : List ℕ) (doi : ℕ) → doi_of_text text ≡ Some doi → is_doi doi ≡ true
doi_within text doi e =
    option_and_then_some (λ n. if is_doi n then Some n else None) (number_of_text 4294967295 text) doi e
    (λ n found h. let is = cond_some (is_doi n) n doi h in subst (λ k. is_doi k ≡ true) is.1 is.0)

pub pair_within : (first second : ℕ) (text : List ℕ) (pair : ℕ × ℕ) → pair_of_text first second text ≡ Some pair → IsPairWithin first second pair
pair_within first second text pair e =
    let one = before_first (λ c. c == 61) text in
    let two = after_first (λ c. c == 61) text in
    option_and_then_some (λ l. option_map (λ r. (l, r)) (number_of_text second two)) (number_of_text first one) pair e
    (λ l left h. map_some (λ r. (l, r)) (number_of_text second two) pair h
    (λ r right same. subst (IsPairWithin first second) same (number_within first one l left, number_within second two r right)))

module _ {X : Type 0} (P : X → Type 0) (of : List ℕ → Option X) (each : (text : List ℕ) (x : X) → of text ≡ Some x → P x) where
  each_within : (parts : List (List ℕ)) (xs : List X) → all_of (map of parts) ≡ Some xs → All P xs
  each_within [] xs e = subst (All P) (same_Some [] xs e) (All-nil P)
  each_within (part ∷ parts) xs e = by_first (of part) (each part) (each_within parts) e where
    by_first : (first : Option X) → ((x : X) → first ≡ Some x → P x) → ((ys : List X) → all_of (map of parts) ≡ Some ys → All P ys) → all_of (first ∷ map of parts) ≡ Some xs → All P xs
    by_first None here behind h = absurd (none-some xs h)
    by_first (Some x) here behind h =
        map_some (λ ys. x ∷ ys) (all_of (map of parts)) xs h (λ ys found same. subst (All P) same (All-cons P x ys (here x refl) (behind ys found)))

  pub list_within : (text : List ℕ) (xs : List X) → list_of_text of text ≡ Some xs → All P xs
  list_within text xs e = each_within (slice_split (λ c. c == 44) text) xs e

  pub context_within : (text : List ℕ) (x : X) → in_context of text ≡ Some x → P x
  context_within text x e = by_whole (of text) refl e where
    by_whole : (o : Option X) → of text ≡ o → ◌≡◌ {A = Option X} (elim o as (λ _. Option X) [ Some y ↦ Some y | None ↦ option_and_then of (behind_context text) ]) (Some x) → P x
    by_whole (Some y) is h = each text x (is ∙ h)
    by_whole None is h = option_and_then_some of (behind_context text) x h (λ t found said. each t x said)

-- ---- labels

label_bounded : (text : List ℕ) (label : Label) → IsLabelText text label → length (runs_of label.cats) ≤ MOST_RUNS → IsMlsLabel label
label_bounded text label is few = record { level = is.level; cats = subst IsCats (sym is.cats) (tests_give_sets (term_has is.terms)); few = few }

mls_label_within : (text : List ℕ) (label : Label) → label_of_text text ≡ Some label → IsMlsLabel label
mls_label_within text label e = label_bounded text label (computed_labels_are_of_the_text text label e).0 (computed_labels_have_few_runs.label text label e)

pub label_within : (text : List ℕ) (label : Label) → label_of_text text ≡ Some label → IsLabel label
label_within text label e = let is = mls_label_within text label e in record { level = is.level; cats = is.cats }

pub range_within : (text : List ℕ) (range : LabelRange) → range_of_text text ≡ Some range → IsMlsRange range
range_within text range e = by_form (computed_ranges_are_of_the_text text range e).0 where
  ordered : Dominates range.high range.low
  ordered = (computed_ranges_are_of_the_text text range e).2

  few : (length (runs_of range.low.cats) ≤ MOST_RUNS) × (length (runs_of range.high.cats) ≤ MOST_RUNS)
  few = computed_labels_have_few_runs.range text range e

  by_form : IsRangeText text range → IsMlsRange range
  by_form (inl lone) = let low = label_bounded text range.low lone.low few.0 in record { low = low; high = subst IsMlsLabel (sym lone.high) low; ordered = ordered }
  by_form (inr pair) = record { low = label_bounded pair.low_text range.low pair.low few.0; high = label_bounded pair.high_text range.high pair.high few.1; ordered = ordered }

lone_within : (text : List ℕ) (range : LabelRange) → option_map lone_range (label_of_text text) ≡ Some range → IsMlsRange range
lone_within text range e =
    map_some lone_range (label_of_text text) range e
    (λ label said same. let is = mls_label_within text label said in subst IsMlsRange same (record { low = is; high = is; ordered = dominance_is_reflexive label }))

lowest_bounded : IsMlsLabel lowest_label
lowest_bounded = record { level = omega arith; cats = tt; few = omega arith }

-- the lowest label is below each label
below_bounded : (label : Label) → IsMlsLabel label → IsMlsRange (range_below label)
below_bounded label is = record { low = lowest_bounded; high = is; ordered = record { level = omega arith; cats = λ c none. absurd (false≢true none) } }

below_within : (text : List ℕ) (range : LabelRange) → option_map range_below (label_of_text text) ≡ Some range → IsMlsRange range
below_within text range e = map_some range_below (label_of_text text) range e (λ label said same. subst IsMlsRange same (below_bounded label (mls_label_within text label said)))

pub static_within : (edition : Edition) (text : List ℕ) (range : LabelRange) → static_by edition text ≡ Some range → IsMlsRange range
static_within with_labels text range e = context_within IsMlsRange (λ t. option_map lone_range (label_of_text t)) lone_within text range e
static_within with_ranges text range e = context_within IsMlsRange range_of_text range_within text range e
static_within with_translations text range e = context_within IsMlsRange range_of_text range_within text range e

either_within : (text : List ℕ) (range : LabelRange) (o : Option Label) → label_of_text text ≡ o
    → ◌≡◌ {A = Option LabelRange} (elim o as (λ _. Option LabelRange) [ Some label ↦ Some (range_below label) | None ↦ range_of_text text ]) (Some range) → IsMlsRange range
either_within text range (Some label) is e = subst IsMlsRange (same_Some (range_below label) range e) (below_bounded label (mls_label_within text label is))
either_within text range None is e = range_within text range e

pub receiver_within : (edition : Edition) (text : List ℕ) (range : LabelRange) → receiver_by edition text ≡ Some range → IsMlsRange range
receiver_within with_labels text range e = below_within text range e
receiver_within with_ranges text range e = either_within text range (label_of_text text) refl e
receiver_within with_translations text range e = either_within text range (label_of_text text) refl e

-- ---- what there is

pub if_said : {X : Type 0} (P : X → Type 0) (value : Option X) → ((x : X) → value ≡ Some x → P x) → IfSome value P
if_said P None each = tt
if_said P (Some x) each = each x refl

pub said_is : {X : Type 0} (P : X → Type 0) (value : Option X) (x : X) → IfSome value P → value ≡ Some x → P x
said_is P value x is e = subst (λ o. IfSome o P) e is
