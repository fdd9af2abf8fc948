-- What is computed of a text is the label or the range that the grammar gives it.
use Rattle.std.proofs.Common.{◌≡◌, ℕ, ◌+◌, ◌<◌, ◌≤◌, Bool, true, false, cond, ◌&&◌, List, [], ◌∷◌, ◌++◌, length, Option, Some, None, refl, sym, ap, subst, ◌∙◌, arith, inl, inr}
use Rattle.std.specs.Prelude.{nat_le, nat_lt, option_map, option_and_then}
use Rattle.std.specs.Fmt.{decimal}
use Rattle.std.specs.List.{All, flat_map, join_with_byte, slice_split}
use Rattle.std.specs.Str.{bytes_eq}
use Rattle.std.proofs.lemmas.Bool.{and_parts, and_from, cond-true, leb-true, le-leb, ltb-true, lt-ltb}
use Rattle.std.proofs.lemmas.Bool.Decides.{Decides-and, Decides-by_and, Decides-ltb}
use Rattle.std.proofs.lemmas.List.{append-nil, take_all}
use Rattle.std.proofs.lemmas.List.Splits.{slice_split_none, slice_split_at, join_with_byte-slice_split}
use Rattle.std.proofs.lemmas.Option.{none-some, cond_some, option_and_then_some}
use Rattle.std.proofs.lemmas.Slice.Eq.{bytes_eq-Decides}
use Rattle.std.proofs.NetLemmas.Options.{map_some}
use Rattle.mls_label.specs.declared.label.Label.{Label}
use Rattle.mls_label.specs.Cats.{IsCats}
use Rattle.mls_label.specs.Label.{Dominates}
use Rattle.mls_label.specs.Runs.{runs_of}
use Rattle.mls_label.proofs.Law.{dominance_is_reflexive}
use Rattle.mls_range.specs.LabelText.{IsTerm, terms_text, terms_of_run, IsLabelText, label_text}
use Rattle.mls_range.specs.TextFault.{IsRoomyLabel}
use Rattle.mls_range.specs.Crowd.{run_count}
use Rattle.mls_range.specs.Range.{LabelRange}
use Rattle.mls_range.specs.RangeText.{IsRangeText, IsRoomyRange, range_text, same_label}
use Rattle.mls_range.specs.Computed.{LabelTerms, label_of_terms, said_by_parts, are_terms, is_roomy, is_said_by, terms_of_text, label_of_text, dominates_by_terms, lone_range, range_of_terms, range_of_parts, range_of_text}
use Rattle.mls_range.specs.inside.Rest.{separated}
use Rattle.mls_range.proofs.Splits.{is_dash, dashless, is_separator, said_is}
use Rattle.mls_range.proofs.Counts.{few_written}
use Rattle.mls_range.proofs.Roomy.{Few, roomy_is_few, few_is_roomy, few_roomy, roomy_few}
use Rattle.mls_range.proofs.Orders.{dominates_if_terms, terms_if_dominates}
use Rattle.mls_range.proofs.Unique.{label_parts, label_unique}
use Rattle.mls_range.proofs.ReadBack.{written_terms, written_cats}
use Rattle.mls_range.proofs.RangeTexts.{dash_ends, same_label_is}

-- ---- what a text says

-- the text says this, and nowhere too much
pub record Says (text : List ℕ) (said : LabelTerms) : Type 0 where
  pub are : All IsTerm said.terms
  pub is : text ≡ 115 ∷ decimal said.level ++ terms_text said.terms
  pub level : said.level < 256
  pub few : Few said.terms

are_terms_are : (terms : List (ℕ × ℕ)) → (are_terms terms ≡ true → All IsTerm terms) × (All IsTerm terms → are_terms terms ≡ true)
are_terms_are terms =
    Decides-by_and (λ t. nat_le t.0 t.1 && nat_lt t.1 65535) IsTerm are_terms (λ t. Decides-and (nat_le t.0 t.1) (nat_lt t.1 65535) (leb-true t.0 t.1, le-leb t.0 t.1) (Decides-ltb t.1 65535)) refl (λ _ _. refl) terms

said_says : (text : List ℕ) (said : LabelTerms) → is_said_by text said ≡ true → Says text said
said_says text said h =
    let written = bytes_eq (115 ∷ decimal said.level ++ terms_text said.terms) text in
    let three = and_parts (written && nat_lt said.level 256 && are_terms said.terms) (is_roomy said.terms) h in
    let two = and_parts (written && nat_lt said.level 256) (are_terms said.terms) three.0 in
    let one = and_parts written (nat_lt said.level 256) two.0 in
    let are = (are_terms_are said.terms).0 two.1 in
    record {
      are = are;
      is = sym ((bytes_eq-Decides (115 ∷ decimal said.level ++ terms_text said.terms) text).0 one.0);
      level = ltb-true said.level 256 one.1;
      few = roomy_is_few said.terms are three.1;
    }

says_said : (text : List ℕ) (said : LabelTerms) → Says text said → is_said_by text said ≡ true
says_said text said s =
    let written = bytes_eq (115 ∷ decimal said.level ++ terms_text said.terms) text in
    and_from (written && nat_lt said.level 256 && are_terms said.terms) (is_roomy said.terms)
    (and_from (written && nat_lt said.level 256) (are_terms said.terms) (and_from written (nat_lt said.level 256) ((bytes_eq-Decides (115 ∷ decimal said.level ++ terms_text said.terms) text).1 (sym s.is)) (lt-ltb said.level 256 s.level)) ((are_terms_are said.terms).1 s.are))
    (few_is_roomy said.terms s.few)

pub terms_found : (text : List ℕ) (said : LabelTerms) → terms_of_text text ≡ Some said → Says text said
unfolding terms_of_text
terms_found text said e =
    let guess = said_by_parts (slice_split is_separator text) in
    let found = cond_some (is_said_by text guess) guess said e in
    subst (Says text) found.1 (said_says text guess found.0)

pub terms_computed : (text : List ℕ) (said : LabelTerms) → Says text said → terms_of_text text ≡ Some said
unfolding terms_of_text
terms_computed text said s =
    let taken : LabelTerms → Option LabelTerms = λ guess. cond (is_said_by text guess) (Some guess) None in
    ap taken (said_is text said s.level s.are s.is) ∙ cond-true (is_said_by text said) (Some said) None (says_said text said s)

-- the label that it says
abbrev pub says_label : (text : List ℕ) (said : LabelTerms) → Says text said → IsLabelText text (label_of_terms said)
says_label text said s = record { terms = said.terms; are = s.are; is = s.is; level = s.level; cats = refl }

says_parts : (text r : List ℕ) (said : LabelTerms) → Says text said → text ++ r ≡ 115 ∷ (decimal said.level ++ (separated 58 said.terms ++ r))
says_parts text r said s = label_parts text r (label_of_terms said) (says_label text said s)

pub label_found : (text : List ℕ) (label : Label) → label_of_text text ≡ Some label → (said : LabelTerms) × Says text said × (label_of_terms said ≡ label)
unfolding label_of_text
label_found text label e = map_some label_of_terms (terms_of_text text) label e (λ said found is. (said, terms_found text said found, is))

-- ---- labels

label_computed : (text : List ℕ) (label : Label) → (l : IsLabelText text label) → Few l.terms → label_of_text text ≡ Some label
unfolding label_of_text
label_computed text label l few =
    let said : LabelTerms = record { level = label.level; terms = l.terms } in
    let whole : List ℕ → Option Label = λ cats. Some (record { level = label.level; cats = cats }) in
    ap (option_map label_of_terms) (terms_computed text said (record { are = l.are; is = l.is; level = l.level; few = few })) ∙ ap whole (sym l.cats)

-- the parts of a label's text, also where something stands behind it
parts_of : (text part r : List ℕ) (label : Label) → (l : IsLabelText part label) → text ≡ part ++ r → text ≡ 115 ∷ (decimal label.level ++ (separated 58 l.terms ++ r))
parts_of text part r label l e = e ∙ label_parts part r label l

pub label_computes : (text : List ℕ) (label : Label) → IsLabelText text label → IsRoomyLabel text → label_of_text text ≡ Some label
label_computes text label l roomy =
    label_computed text label l (roomy_few false label.level l.terms text [] l.level l.are tt (parts_of text text [] label l (sym (append-nil text))) roomy)

pub label_is : (text : List ℕ) (label : Label) → label_of_text text ≡ Some label → IsLabelText text label × IsRoomyLabel text
label_is text label e =
    let f = label_found text label e in
    let said = f.0 in
    let s = f.1 in
    (subst (IsLabelText text) f.2 (says_label text said s), few_roomy false said.level said.terms text [] s.level s.are tt (sym (append-nil text) ∙ says_parts text [] said s) s.few)

pub written_label : (label : Label) → label.level < 256 → IsCats label.cats → length (runs_of label.cats) ≤ 1952 → label_of_text (label_text label) ≡ Some label
unfolding label_of_text
written_label label level cats few =
    let said : LabelTerms = record { level = label.level; terms = flat_map terms_of_run (runs_of label.cats) } in
    let whole : List ℕ → Option Label = λ cats. Some (record { level = label.level; cats = cats }) in
    let says : Says (label_text label) said = record { are = written_terms label.cats cats; is = refl; level = level; few = λ n. omega (arith, few_written label.cats n cats) } in
    ap (option_map label_of_terms) (terms_computed (label_text label) said says) ∙ ap whole (sym (written_cats label.cats cats))

-- ---- ranges

pub lone_computed : (text : List ℕ) (label : Label) → label_of_text text ≡ Some label → range_of_text text ≡ Some (lone_range label)
unfolding range_of_text
lone_computed text label e =
    ap range_of_parts (slice_split_none is_dash text (dashless text label (label_is text label e).0)) ∙ ap (option_map lone_range) e

pub pair_computed : (low_text high_text : List ℕ) (low high : Label) → label_of_text low_text ≡ Some low → label_of_text high_text ≡ Some high → Dominates high low → range_of_text (low_text ++ 45 ∷ high_text) ≡ Some (record { low = low; high = high })
unfolding range_of_text
pair_computed low_text high_text low high e q ordered =
    let a = label_found low_text low e in
    let b = label_found high_text high q in
    let parts : slice_split is_dash (low_text ++ 45 ∷ high_text) ≡ low_text ∷ high_text ∷ [] =
    slice_split_at is_dash low_text 45 high_text (dashless low_text low (label_is low_text low e).0) refl
    ∙ ap (λ ps. low_text ∷ ps) (slice_split_none is_dash high_text (dashless high_text high (label_is high_text high q).0)) in
    let both : Label → Label → Option LabelRange = λ l h. Some (record { low = l; high = h }) in
    let is_ordered : Dominates (label_of_terms b.0) (label_of_terms a.0) = subst (λ h. Dominates h (label_of_terms a.0)) (sym b.2) (subst (Dominates high) (sym a.2) ordered) in
    ap range_of_parts parts ∙ ap (λ o. option_and_then (λ l. option_and_then (range_of_terms l) (terms_of_text high_text)) o) (terms_computed low_text a.0 a.1)
    ∙ ap (λ o. option_and_then (range_of_terms a.0) o) (terms_computed high_text b.0 b.1)
    ∙ cond-true (dominates_by_terms b.0 a.0) (both (label_of_terms a.0) (label_of_terms b.0)) None (terms_if_dominates b.0 a.0 (a.1).are is_ordered)
    ∙ (λ i. both (a.2 i) (b.2 i))

pub range_computes : (text : List ℕ) (range : LabelRange) → IsRangeText text range → IsRoomyRange text → Dominates range.high range.low → range_of_text text ≡ Some range
range_computes text range (inl lone) roomy ordered =
    let low = range.low in
    let few = roomy_few true low.level lone.low.terms text [] lone.low.level lone.low.are tt (parts_of text text [] low lone.low (sym (append-nil text))) (λ octet c. roomy octet (inl c)) in
    let whole : Label → Option LabelRange = λ h. Some (record { low = range.low; high = h }) in
    lone_computed text low (label_computed text low lone.low few) ∙ ap whole (sym lone.high)
range_computes text range (inr pair) roomy ordered =
    let low = range.low in
    let high = range.high in
    let few_low = roomy_few true low.level pair.low.terms text (45 ∷ pair.high_text) pair.low.level pair.low.are (dash_ends pair.high_text) (parts_of text pair.low_text (45 ∷ pair.high_text) low pair.low pair.is) (λ octet c. roomy octet (inl c)) in
    let few_high = roomy_few false high.level pair.high.terms pair.high_text [] pair.high.level pair.high.are tt (parts_of pair.high_text pair.high_text [] high pair.high (sym (append-nil pair.high_text))) (λ octet c.
    roomy (length pair.low_text + 1 + octet) (inr (record {
      low_text = pair.low_text;
      high_text = pair.high_text;
      low = low;
      at = octet;
      is = pair.is;
      is_low = pair.low;
      roomy = λ o crowds. roomy o (inl crowds);
      crowds = c;
      place = refl;
    }))) in
    ap range_of_text pair.is ∙ pair_computed pair.low_text pair.high_text low high (label_computed pair.low_text low pair.low few_low) (label_computed pair.high_text high pair.high few_high) ordered

-- ---- what is computed is a range of the text

abbrev pub IsRangeOf : List ℕ → LabelRange → Type 0
IsRangeOf text range = IsRangeText text range × IsRoomyRange text × Dominates range.high range.low

lone_roomy : (text : List ℕ) (said : LabelTerms) → Says text said → IsRoomyRange text
lone_roomy text said s octet (inl c) =
    few_roomy true said.level said.terms text [] s.level s.are tt (sym (append-nil text) ∙ says_parts text [] said s) s.few octet c
lone_roomy text said s octet (inr c) =
    let u = label_unique true text c.low_text [] (45 ∷ c.high_text) (label_of_terms said) c.low (says_label text said s) c.is_low tt (dash_ends c.high_text) (append-nil text ∙ c.is) in
    let bad : [] ≡ 45 ∷ c.high_text = u.2 in
    omega (arith, ap length bad)

lone_is : (text : List ℕ) (label : Label) → label_of_text text ≡ Some label → IsRangeOf text (lone_range label)
lone_is text label e =
    let f = label_found text label e in
    (inl (record { low = (label_is text label e).0; high = refl }), lone_roomy text f.0 f.1, dominance_is_reflexive label)

pair_roomy : (text low_text high_text : List ℕ) (low high : LabelTerms) → text ≡ low_text ++ 45 ∷ high_text → Says low_text low → Says high_text high → IsRoomyRange text
pair_roomy text low_text high_text low high e a b octet (inl c) =
    few_roomy true low.level low.terms text (45 ∷ high_text) a.level a.are (dash_ends high_text) (e ∙ says_parts low_text (45 ∷ high_text) low a) a.few octet c
pair_roomy text low_text high_text low high e a b octet (inr c) =
    let u = label_unique true low_text c.low_text (45 ∷ high_text) (45 ∷ c.high_text) (label_of_terms low) c.low (says_label low_text low a) c.is_low (dash_ends high_text) (dash_ends c.high_text) (sym e ∙ c.is) in
    let both = u.2 in
    let same : c.high_text ≡ high_text = cc in
    few_roomy false high.level high.terms c.high_text [] b.level b.are tt (same ∙ sym (append-nil high_text) ∙ says_parts high_text [] high b) b.few c.at c.crowds

pair_is : (text low_text high_text : List ℕ) (low high : LabelTerms) → text ≡ low_text ++ 45 ∷ high_text → Says low_text low → Says high_text high → dominates_by_terms high low ≡ true → IsRangeOf text (record { low = label_of_terms low; high = label_of_terms high })
pair_is text low_text high_text low high e a b ordered = (
  inr (record { low_text = low_text; high_text = high_text; is = e; low = says_label low_text low a; high = says_label high_text high b }),
  pair_roomy text low_text high_text low high e a b,
  dominates_if_terms high low ordered,
)

by_parts : (text : List ℕ) (range : LabelRange) (parts : List (List ℕ)) → slice_split is_dash text ≡ parts → range_of_parts parts ≡ Some range → IsRangeOf text range
by_parts text range [] cut e = absurd (none-some range e)
by_parts text range (one ∷ []) cut e =
    let same : one ≡ text = ap (join_with_byte 45) (sym cut) ∙ join_with_byte-slice_split 45 text in
    map_some lone_range (label_of_text one) range e (λ label found is. subst (IsRangeOf text) is (lone_is text label (ap label_of_text (sym same) ∙ found)))
by_parts text range (low_text ∷ high_text ∷ []) cut e =
    let whole : low_text ++ 45 ∷ high_text ≡ text = ap (join_with_byte 45) (sym cut) ∙ join_with_byte-slice_split 45 text in
    option_and_then_some (λ l. option_and_then (range_of_terms l) (terms_of_text high_text)) (terms_of_text low_text) range e (λ low found_low later.
    option_and_then_some (range_of_terms low) (terms_of_text high_text) range later (λ high found_high taken.
    let f = cond_some (dominates_by_terms high low) (record { low = label_of_terms low; high = label_of_terms high }) range taken in
    subst (IsRangeOf text) f.1 (pair_is text low_text high_text low high (sym whole) (terms_found low_text low found_low) (terms_found high_text high found_high) f.0)))
by_parts text range (one ∷ two ∷ three ∷ parts) cut e = absurd (none-some range e)

pub range_is : (text : List ℕ) (range : LabelRange) → range_of_text text ≡ Some range → IsRangeOf text range
unfolding range_of_text
range_is text range e = by_parts text range (slice_split is_dash text) refl e

-- ---- how many runs

few_said : (text : List ℕ) (said : LabelTerms) → Says text said → length (runs_of (label_of_terms said).cats) ≤ 1952
few_said text said s = subst (λ (terms : List (ℕ × ℕ)). run_count terms ≤ 1952) (take_all (length said.terms) said.terms (omega arith)) (s.few (length said.terms))

pub few_of_label : (text : List ℕ) (label : Label) → label_of_text text ≡ Some label → length (runs_of label.cats) ≤ 1952
few_of_label text label e = let f = label_found text label e in subst (λ (l : Label). length (runs_of l.cats) ≤ 1952) f.2 (few_said text f.0 f.1)

abbrev AreFew : LabelRange → Type 0
AreFew range = (length (runs_of range.low.cats) ≤ 1952) × (length (runs_of range.high.cats) ≤ 1952)

few_by_parts : (range : LabelRange) (parts : List (List ℕ)) → range_of_parts parts ≡ Some range → AreFew range
few_by_parts range [] e = absurd (none-some range e)
few_by_parts range (one ∷ []) e = map_some lone_range (label_of_text one) range e (λ label found is. let few = few_of_label one label found in subst AreFew is (few, few))
few_by_parts range (low_text ∷ high_text ∷ []) e =
    option_and_then_some (λ l. option_and_then (range_of_terms l) (terms_of_text high_text)) (terms_of_text low_text) range e (λ low found_low later.
    option_and_then_some (range_of_terms low) (terms_of_text high_text) range later (λ high found_high taken.
    let f = cond_some (dominates_by_terms high low) (record { low = label_of_terms low; high = label_of_terms high }) range taken in
    subst AreFew f.1 (few_said low_text low (terms_found low_text low found_low), few_said high_text high (terms_found high_text high found_high))))
few_by_parts range (one ∷ two ∷ three ∷ parts) e = absurd (none-some range e)

pub few_of_range : (text : List ℕ) (range : LabelRange) → range_of_text text ≡ Some range → (length (runs_of range.low.cats) ≤ 1952) × (length (runs_of range.high.cats) ≤ 1952)
unfolding range_of_text
few_of_range text range e = few_by_parts range (slice_split is_dash text) e

-- ---- the written form

written_by : (range : LabelRange) (same : Bool) → same_label range.high range.low ≡ same → label_of_text (label_text range.low) ≡ Some range.low → label_of_text (label_text range.high) ≡ Some range.high → Dominates range.high range.low
    → range_of_text (cond same (label_text range.low) (label_text range.low ++ 45 ∷ label_text range.high)) ≡ Some range
written_by range true e low high ordered =
    let whole : Label → Option LabelRange = λ h. Some (record { low = range.low; high = h }) in
    lone_computed (label_text range.low) range.low low ∙ ap whole (sym ((same_label_is range.high range.low).0 e))
written_by range false e low high ordered = pair_computed (label_text range.low) (label_text range.high) range.low range.high low high ordered

pub written_range : (range : LabelRange) → label_of_text (label_text range.low) ≡ Some range.low → label_of_text (label_text range.high) ≡ Some range.high → Dominates range.high range.low → range_of_text (range_text range) ≡ Some range
written_range range low high ordered = written_by range (same_label range.high range.low) refl low high ordered
