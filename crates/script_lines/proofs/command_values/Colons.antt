-- Ranges of static entries and of receivers: a text behind a context is no range as a whole, and written ones read back.
use Rattle.std.proofs.Common.{◌≡◌, ℕ, ◌+◌, ◌<◌, ◌≤◌, Bool, true, false, List, [], ◌∷◌, ◌++◌, length, get_or, Option, Some, None, refl, sym, ap, subst, ◌∙◌, arith, All, IsTrue, inl, inr}
use Rattle.std.specs.Prelude.{◌==◌, nat_eq, nat_le, count_by, option_map, option_and_then, ◌&&◌}
use Rattle.std.specs.List.{before_first, after_first, position_or_len, list_all}
use Rattle.std.specs.Str.{bytes_eq}
use Rattle.std.proofs.lemmas.Bool.{cases_lt, cases_Bool, cond-true, cond-false, and_parts, leb-true, eqb-true, false≢true}
use Rattle.std.proofs.lemmas.List.{drop_all}
use Rattle.std.proofs.lemmas.List.Elements.{All-head, All-tail}
use Rattle.std.proofs.lemmas.List.Sums.{sum_by-append, split_at_first, passes_at_first}
use Rattle.std.proofs.lemmas.Option.{none-some, cond_some, option_and_then_some}
use Rattle.std.proofs.lemmas.Slice.Eq.{bytes_eq-Decides}
use Rattle.std.proofs.NetLemmas.Options.{map_some}
use Rattle.mls_label.specs.declared.label.Label.{Label}
use Rattle.mls_range.specs.LabelText.{is_label_octet, label_text}
use Rattle.mls_range.specs.Range.{LabelRange}
use Rattle.mls_range.specs.RangeText.{IsRangeText, range_text, same_label}
use Rattle.mls_range.specs.Computed.{label_of_text, lone_range, range_of_text}
use Rattle.mls_range.proofs.Law.{computed_labels_are_of_the_text, computed_ranges_are_of_the_text, label_texts_have_few_octets, label_texts_have_one_colon, labels_are_ranges, two_labels_make_a_range, written_label_computes, written_range_computes}
use Rattle.domain_map.specs.address_text.Name.{is_name, is_name_octet}
use Rattle.script_lines.specs.command_values.Ranges.{behind_name, behind_context, in_context, static_range_of_text, lowest_label, range_below, receiver_range_of_text, receiver_range_text, IsMlsLabel, IsMlsRange}

abbrev is_colon : ℕ → Bool
is_colon c = c == 58

count-append : (a b : List ℕ) → count_by is_colon (a ++ b) ≡ count_by is_colon a + count_by is_colon b
count-append a b = sum_by-append _ a b

-- one colon stands in front of what is behind a name
one_more : (text : List ℕ) → 0 < length (after_first is_colon text) → 1 + count_by is_colon (after_first is_colon text) ≤ count_by is_colon text
one_more text some =
    let at = position_or_len is_colon text in
    let back = after_first is_colon text in
    elim (cases_lt at (length text)) [
      | inl lt ↦
          let c = get_or text at 0 in
          let whole : text ≡ before_first is_colon text ++ (c ∷ back) = split_at_first is_colon text 0 lt in
          let colon : c ≡ 58 = eqb-true c 58 (passes_at_first is_colon text 0 lt) in
          let one : count_by is_colon (c ∷ back) ≡ 1 + count_by is_colon back = ap (λ x. count_by is_colon (x ∷ back)) colon ∙ count-append (58 ∷ []) back in
          omega (arith, one, ap (count_by is_colon) whole, count-append (before_first is_colon text) (c ∷ back))
      | inr le ↦
          let none = drop_all (at + 1) text (omega arith) in
          absurd (omega (arith, ap length none))
    ]

-- what stands behind a name, and that there is a name
behind : (text rest : List ℕ) → behind_name text ≡ Some rest → (0 < length text) × (after_first is_colon text ≡ rest)
behind text rest e =
    let front = before_first is_colon text in
    let found = cond_some (is_name front) (after_first is_colon text) rest e in
    let two = and_parts (nat_le 1 (length front) && nat_le (length front) 63) (list_all is_name_octet front) found.0 in
    let one = and_parts (nat_le 1 (length front)) (nat_le (length front) 63) two.0 in
    let some : 1 ≤ length front = leb-true 1 (length front) one.0 in
    (longer text some, found.1) where
      longer : (xs : List ℕ) → 1 ≤ length (before_first is_colon xs) → 0 < length xs
      longer [] some = omega (arith, some)
      longer (x ∷ xs) some = omega arith

-- behind a context, a text has three colons more
three_more : (text rest : List ℕ) → behind_context text ≡ Some rest → 0 < length rest → 3 + count_by is_colon rest ≤ count_by is_colon text
three_more text rest e some =
    option_and_then_some behind_name (option_and_then behind_name (behind_name text)) rest e λ two two_is rest_is.
    option_and_then_some behind_name (behind_name text) two two_is λ one one_is two_behind.
    let a = behind text one one_is in
    let b = behind one two two_behind in
    let c = behind two rest rest_is in
    let third : 1 + count_by is_colon rest ≤ count_by is_colon two = subst (λ t. 1 + count_by is_colon t ≤ count_by is_colon two) c.1 (one_more two (subst (λ t. 0 < length t) (sym c.1) some)) in
    let second : 1 + count_by is_colon two ≤ count_by is_colon one = subst (λ t. 1 + count_by is_colon t ≤ count_by is_colon one) b.1 (one_more one (subst (λ t. 0 < length t) (sym b.1) c.0)) in
    let first : 1 + count_by is_colon one ≤ count_by is_colon text = subst (λ t. 1 + count_by is_colon t ≤ count_by is_colon text) a.1 (one_more text (subst (λ t. 0 < length t) (sym a.1) b.0)) in
    omega (arith, third, second, first)

few_colons : (text : List ℕ) (range : LabelRange) → IsRangeText text range → count_by is_colon text ≤ 2
few_colons text range (inl lone) = omega (arith, label_texts_have_one_colon text range.low lone.low)
few_colons text range (inr pair) =
    let dash : count_by is_colon (45 ∷ pair.high_text) ≡ 0 + count_by is_colon pair.high_text = count-append (45 ∷ []) pair.high_text in
    omega (arith, dash, label_texts_have_one_colon pair.low_text range.low pair.low, label_texts_have_one_colon pair.high_text range.high pair.high, ap (count_by is_colon) pair.is, count-append pair.low_text (45 ∷ pair.high_text))

label_is_some : (text : List ℕ) (label : Label) → label_of_text text ≡ Some label → 0 < length text
label_is_some text label e =
    let is = (computed_labels_are_of_the_text text label e).0 in
    omega (arith, ap length is.is)

-- a text with a label behind a context is no range
no_range : (text rest : List ℕ) (label : Label) → behind_context text ≡ Some rest → label_of_text rest ≡ Some label → range_of_text text ≡ None
no_range text rest label e is = by_value (range_of_text text) refl where
  by_value : (found : Option LabelRange) → range_of_text text ≡ found → found ≡ None
  by_value None f = refl
  by_value (Some range) f =
      absurd (omega (arith, three_more text rest e (label_is_some rest label is), few_colons text range (computed_ranges_are_of_the_text text range f).0))

abbrev label_range : List ℕ → Option LabelRange
label_range text = option_map lone_range (label_of_text text)

label_stays : (text : List ℕ) (range : LabelRange) → label_range text ≡ Some range → range_of_text text ≡ Some range
label_stays text range e =
    map_some lone_range (label_of_text text) range e (λ label found is. labels_are_ranges text label found ∙ ap Some is)

pub static_stays : (text : List ℕ) (range : LabelRange) → in_context label_range text ≡ Some range → static_range_of_text text ≡ Some range
static_stays text range e = by_label (label_range text) refl e where
  by_label : (found : Option LabelRange) → label_range text ≡ found → elim found [ Some x ↦ Some x | None ↦ option_and_then label_range (behind_context text) ] ≡ Some range → static_range_of_text text ≡ Some range
  by_label (Some x) f is =
      let whole : Option LabelRange → Option LabelRange = λ o. elim o [ Some y ↦ Some y | None ↦ option_and_then range_of_text (behind_context text) ] in
      ap whole (label_stays text x f) ∙ is
  by_label None f is =
      let whole : Option LabelRange → Option LabelRange = λ o. elim o [ Some y ↦ Some y | None ↦ option_and_then range_of_text (behind_context text) ] in
      option_and_then_some label_range (behind_context text) range is λ rest behind_is rest_is.
      map_some lone_range (label_of_text rest) range rest_is λ label found same.
      ap whole (no_range text rest label behind_is found) ∙ ap (option_and_then range_of_text) behind_is ∙ label_stays rest range rest_is

pub receiver_stays : (text : List ℕ) (range : LabelRange) → option_map range_below (label_of_text text) ≡ Some range → receiver_range_of_text text ≡ Some range
receiver_stays text range e = by_label (label_of_text text) (range_of_text text) e where
  by_label : (label : Option Label) (other : Option LabelRange) → option_map range_below label ≡ Some range → elim label [ Some l ↦ Some (range_below l) | None ↦ other ] ≡ Some range
  by_label (Some l) other is = is
  by_label None other is = absurd (none-some range is)

-- ---- written ranges

written_label : (label : Label) → IsMlsLabel label → label_of_text (label_text label) ≡ Some label
written_label label is = written_label_computes label is.level is.cats is.few

pub static_back : (range : LabelRange) → IsMlsRange range → static_range_of_text (range_text range) ≡ Some range
static_back range is =
    let text = range_text range in
    let whole : Option LabelRange → Option LabelRange = λ o. elim o [ Some y ↦ Some y | None ↦ option_and_then range_of_text (behind_context text) ] in
    ap whole (written_range_computes range is.low.level is.high.level is.low.cats is.high.cats is.low.few is.high.few is.ordered)

same_label_is : (a b : Label) → same_label a b ≡ true → a ≡ b
same_label_is a b e =
    let parts = and_parts (nat_eq a.level b.level) (bytes_eq a.cats b.cats) e in
    let level : a.level ≡ b.level = eqb-true a.level b.level parts.0 in
    let cats : a.cats ≡ b.cats = (bytes_eq-Decides a.cats b.cats).0 parts.1 in
    λ i. record { level = level i; cats = cats i }

behind_front : (front back : List ℕ) → All (λ c. IsTrue (is_label_octet c)) (front ++ back) → All (λ c. IsTrue (is_label_octet c)) back
behind_front [] back all = all
behind_front (c ∷ front) back all = behind_front front back (All-tail (λ x. IsTrue (is_label_octet x)) c (front ++ back) all)

-- two labels with a dash between are no label
no_label : (front back : List ℕ) → label_of_text (front ++ 45 ∷ back) ≡ None
no_label front back = by_value (label_of_text (front ++ 45 ∷ back)) refl where
  by_value : (found : Option Label) → label_of_text (front ++ 45 ∷ back) ≡ found → found ≡ None
  by_value None f = refl
  by_value (Some label) f =
      let octets = label_texts_have_few_octets (front ++ 45 ∷ back) label (computed_labels_are_of_the_text (front ++ 45 ∷ back) label f).0 in
      let dash : IsTrue (is_label_octet 45) = All-head (λ c. IsTrue (is_label_octet c)) 45 back (behind_front front (45 ∷ back) octets) in
      absurd (false≢true dash)

pub receiver_back : (range : LabelRange) → IsMlsRange range → receiver_range_of_text (receiver_range_text range) ≡ Some range
receiver_back range is =
    let low = label_text range.low in
    let high = label_text range.high in
    let read : List ℕ → Option LabelRange = λ text. receiver_range_of_text text in
    let level : Option LabelRange → Option Label → Option LabelRange = λ other o. elim o [ Some l ↦ Some (range_below l) | None ↦ other ] in
    elim (cases_Bool (same_label range.low lowest_label)) [
      | inl same ↦
          let lowest : lowest_label ≡ range.low = sym (same_label_is range.low lowest_label same) in
          ap read (cond-true (same_label range.low lowest_label) high (low ++ 45 ∷ high) same)
          ∙ ap (level (range_of_text high)) (written_label range.high is.high) ∙ (λ i. Some (record { low = lowest i; high = range.high }))
      | inr no_dash ↦
          ap read (cond-false (same_label range.low lowest_label) high (low ++ 45 ∷ high) no_dash)
          ∙ ap (level (range_of_text (low ++ 45 ∷ high))) (no_label low high)
          ∙ two_labels_make_a_range low high range.low range.high (written_label range.low is.low) (written_label range.high is.high) is.ordered
    ]
