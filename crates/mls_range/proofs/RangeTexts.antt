-- Texts of ranges: their faults from those of their labels, their one value, and their written form.
use Rattle.std.proofs.Common.{◌≡◌, ℕ, ◌+◌, ◌<◌, Bool, true, false, cond, nat_eq, List, [], ◌∷◌, ◌++◌, length, drop, refl, sym, ap, subst, ◌∙◌, append_assoc, arith, inl, inr}
use Rattle.std.specs.Str.{bytes_eq}
use Rattle.std.proofs.lemmas.Bool.Decides.{Decides-and, Decides-eqb}
use Rattle.std.proofs.lemmas.Slice.Eq.{bytes_eq-Decides}
use Rattle.std.proofs.lemmas.List.{append-nil}
use Rattle.mls_label.specs.declared.label.Label.{Label}
use Rattle.mls_label.specs.Cats.{IsCats}
use Rattle.mls_label.specs.Label.{Dominates}
use Rattle.mls_label.specs.declared.octet_grammar.fault.WireKind.{WireKind}
use Rattle.mls_label.specs.declared.octet_grammar.fault.WireFault.{WireFault}
use Rattle.mls_range.specs.declared.fault.TextFault.{TextFault}
use Rattle.mls_range.specs.Place.{octet_fault, end_fault}
use Rattle.mls_range.specs.declared.fault.TextKind.{TextKind}
use Rattle.mls_range.specs.declared.fault.TextKind.TheVariants.{Grammar, End, TooManyRuns, NotOrdered}
use Rattle.mls_range.specs.LabelText.{IsLabelText, label_text}
use Rattle.mls_range.specs.Crowd.{CrowdsLabel, IsRoomy}
use Rattle.mls_range.specs.Range.{LabelRange}
use Rattle.mls_range.specs.RangeText.{IsPair, IsRangeText, same_label, range_text, IsRoomyRange, IsUnordered, FailsRange, StopsRange}
use Rattle.mls_range.specs.inside.Rest.{Spells, FaultIn, StopsIn, IsLabelEnd, LabelOn}
use Rattle.mls_range.specs.inside.Stops.{FailsAt, ReadsPart, StopsPart}
use Rattle.mls_range.proofs.Places.{reads_on, reads_length, reads_octet, drop_at, drop_end}
use Rattle.mls_range.proofs.Rests.{Goes, fault_goes, cuts}
use Rattle.mls_range.proofs.TermLists.{stops_not, stops_less}
use Rattle.mls_range.proofs.Unique.{label_unique, one_label}
use Rattle.mls_range.proofs.ReadBack.{reads_back}
use Rattle.mls_range.proofs.Wholes.{no_dash, IsTexts, octet_fault_of, end_fault_of, on_label, label_and, label_texts}

-- ---- the texts

-- a text of some range
abbrev pub IsRange : List ℕ → Type 0
IsRange text = (range : LabelRange) × IsRangeText text range

range_texts : IsTexts IsRangeText IsRange
range_texts = record { into = λ t r. r; back = λ t v r. (v, r) }

pub dash_ends : (t : List ℕ) → IsLabelEnd true (45 ∷ t)
dash_ends t = (refl, refl)

range_on_of : (text : List ℕ) (range : LabelRange) → IsRangeText text range → LabelOn true text
range_on_of text range (inl lone) = subst (LabelOn true) (append-nil text) (on_label true text [] range.low lone.low tt)
range_on_of text range (inr pair) = subst (LabelOn true) (sym pair.is) (on_label true pair.low_text (45 ∷ pair.high_text) range.low pair.low (dash_ends pair.high_text))

range_on : (text : List ℕ) → IsRange text → LabelOn true text
range_on text r = range_on_of text r.0 r.1

lone_range : (text : List ℕ) (label : Label) → IsLabelText text label → IsRange text
lone_range text label l = (record { low = label; high = label }, inl (record { low = l; high = refl }))

-- ---- the fault of the low label

range_front : (part more rest : List ℕ) (kind : WireKind) → LabelOn true (part ++ more) → StopsIn (LabelOn true) part rest kind → (end : List ℕ) × IsRange (part ++ end)
range_front part more rest kind l stops =
    let a = label_and true (part ++ more) l in
    elim (cuts part more a.text a.rest a.is) [
      | inl same ↦ ([], subst IsRange (sym same.0 ∙ sym (append-nil part)) (lone_range a.text a.label a.member))
      | inr o ↦ elim o [
        | inl q ↦ (q.x ∷ q.e, subst IsRange q.front (lone_range a.text a.label a.member))
        | inr q ↦
            let ends : IsLabelEnd true (q.x ∷ q.e ++ more) = subst (IsLabelEnd true) q.back a.ends in
            let on : LabelOn true (a.text ++ (q.x ∷ q.e ++ rest)) = on_label true a.text (q.x ∷ q.e ++ rest) a.label a.member ends in
            let e : a.text ++ (q.x ∷ q.e ++ rest) ≡ part ++ rest = sym (ap (λ t. t ++ rest) q.front ∙ append_assoc a.text (q.x ∷ q.e) rest) in
            absurd (stops_not (LabelOn true) part rest kind (subst (LabelOn true) e on) stops)
      ]
    ]

fault_low : (text : List ℕ) (fault : WireFault) → FaultIn (LabelOn true) text 0 fault → FaultIn IsRange text 0 fault
fault_low text fault f =
    let front = range_front f.part f.more (drop fault.octet text) fault.kind f.front f.stops in
    record {
      part = f.part;
      reads = f.reads;
      more = front.0;
      front = front.1;
      stops = stops_less (LabelOn true) IsRange f.part (drop fault.octet text) fault.kind range_on f.stops;
    }

roomy_low : (text : List ℕ) (fault : WireFault) → FaultIn (LabelOn true) text 0 fault → IsRoomy true text → IsRoomyRange text
roomy_low text fault f roomy octet (inl c) = roomy octet c
roomy_low text fault f roomy octet (inr c) =
    let on = on_label true c.low_text (45 ∷ c.high_text) c.low c.is_low (dash_ends c.high_text) in
    stops_not (LabelOn true) f.part (drop fault.octet text) fault.kind (subst (LabelOn true) (sym c.is ∙ f.reads.is) on) f.stops

fails_low : (text : List ℕ) (octet : ℕ) (kind : TextKind) → FailsAt (LabelOn true) (CrowdsLabel true text) text 0 octet kind → FailsRange text octet kind
fails_low text octet Grammar f = (octet_fault_of IsRangeText IsRange text octet range_texts (fault_low text (octet_fault octet) f.0), roomy_low text (octet_fault octet) f.0 f.1)
fails_low text octet End f = (end_fault_of IsRangeText IsRange text octet range_texts (fault_low text (end_fault octet) f.0), roomy_low text (end_fault octet) f.0 f.1)
fails_low text octet TooManyRuns f = inl (subst (CrowdsLabel true text) (let q : f.0 ≡ octet = omega (arith, f.1) in q) f.2)
fails_low text octet NotOrdered f = absurd f

pub stops_low : (text : List ℕ) (fault : TextFault) → StopsPart true text 0 fault → StopsRange text fault
stops_low text fault s = fails_low text fault.octet fault.kind s

-- ---- behind the dash

-- the low label and its dash, and the place behind it
pub record LowAt (text : List ℕ) (low : Label) (start : ℕ) : Type 0 where
  pub part : List ℕ
  pub is_low : IsLabelText part low
  pub reads : Spells text 0 start (part ++ 45 ∷ [])
  pub is : text ≡ part ++ 45 ∷ drop start text
  pub place : start ≡ length part + 1
  pub roomy : IsRoomy true text

dash_at : (l : List ℕ) (x : ℕ) (w : List ℕ) → IsLabelEnd true l → l ≡ x ∷ w → x ≡ 45
dash_at [] x w e is = absurd (omega (arith, ap length is))
dash_at (y ∷ t) x w e is = let same : y ≡ x = cc in sym same ∙ e.1

pub low_at : (text : List ℕ) (low : Label) (end : ℕ) → ReadsPart true text 0 low end → (end ≡ length text → ⊥) → LowAt text low (end + 1)
low_at text low end r some =
    let lt : end < length text = omega (arith, r.reads.within) in
    let at = drop_at text end lt in
    let dash = dash_at (drop end text) _ _ r.ends at in
    let one : Spells text end (end + 1) (45 ∷ []) = subst (λ x. Spells text end (end + 1) (x ∷ [])) dash (reads_octet text end lt) in
    record {
      part = r.part;
      is_low = r.is;
      reads = reads_on text 0 end (end + 1) r.part (45 ∷ []) r.reads one;
      is = r.reads.is ∙ ap (λ t. r.part ++ t) one.is;
      place = omega (arith, reads_length text 0 end r.part r.reads);
      roomy = r.roomy;
    }

-- a text with this low label and a dash goes on with the same high text
high_same : (text low_text high_text : List ℕ) (low label : Label) (start : ℕ) → (l : LowAt text low start) → IsLabelText low_text label → text ≡ low_text ++ 45 ∷ high_text → (l.part ≡ low_text) × (drop start text ≡ high_text)
high_same text low_text high_text low label start l is_label e =
    let u = label_unique true l.part low_text (45 ∷ drop start text) (45 ∷ high_text) low label l.is_low is_label (dash_ends (drop start text)) (dash_ends high_text) (sym l.is ∙ e) in
    let q = u.2 in
    (u.1, cc)

roomy_high : (text : List ℕ) (low : Label) (start : ℕ) → LowAt text low start → IsRoomy false (drop start text) → IsRoomyRange text
roomy_high text low start l roomy octet (inl c) = l.roomy octet c
roomy_high text low start l roomy octet (inr c) =
    let same = high_same text c.low_text c.high_text low c.low start l c.is_low c.is in
    roomy c.at (subst (λ t. CrowdsLabel false t c.at) (sym same.1) c.crowds)

-- what may come behind the dash
high_back_of : (part t text : List ℕ) (low : Label) (range : LabelRange) → IsLabelText part low → text ≡ part ++ 45 ∷ t → IsRangeText text range → LabelOn false t
high_back_of part t text low range is_low e (inl lone) =
    let u = label_unique true part text (45 ∷ t) [] low range.low is_low lone.low (dash_ends t) tt (sym e ∙ sym (append-nil text)) in
    let bad : 45 ∷ t ≡ [] = u.2 in
    absurd (omega (arith, ap length bad))
high_back_of part t text low range is_low e (inr pair) =
    let u = label_unique true part pair.low_text (45 ∷ t) (45 ∷ pair.high_text) low range.low is_low pair.low (dash_ends t) (dash_ends pair.high_text) (sym e ∙ pair.is) in
    let both = u.2 in
    let same : pair.high_text ≡ t = cc in
    label_texts.back t range.high (subst (λ w. IsLabelText w range.high) same pair.high)

goes_high : (part s : List ℕ) (low : Label) → IsLabelText part low → Goes IsRange (part ++ 45 ∷ []) s (LabelOn false)
goes_high part s low is_low =
    record {
      into = λ t l.
          let high = label_texts.into t l in
          (record { low = low; high = high.0 }, inr (record { low_text = part; high_text = t; is = append_assoc part (45 ∷ []) t; low = is_low; high = high.1 }));
      back = λ t e r. high_back_of part t ((part ++ 45 ∷ []) ++ t) low r.0 is_low (append_assoc part (45 ∷ []) t) r.1;
    }

fault_high : (text : List ℕ) (low : Label) (start : ℕ) (fault : WireFault) → (l : LowAt text low start) → FaultIn (LabelOn false) text start fault → FaultIn IsRange text 0 fault
fault_high text low start fault l f =
    fault_goes IsRange (l.part ++ 45 ∷ []) (LabelOn false) text 0 start fault l.reads (goes_high l.part (drop start text) low l.is_low) f

fails_high : (text : List ℕ) (low : Label) (start octet : ℕ) (kind : TextKind) → LowAt text low start → FailsAt (LabelOn false) (CrowdsLabel false (drop start text)) text start octet kind → FailsRange text octet kind
fails_high text low start octet Grammar l f = (octet_fault_of IsRangeText IsRange text octet range_texts (fault_high text low start (octet_fault octet) l f.0), roomy_high text low start l f.1)
fails_high text low start octet End l f = (end_fault_of IsRangeText IsRange text octet range_texts (fault_high text low start (end_fault octet) l f.0), roomy_high text low start l f.1)
fails_high text low start octet TooManyRuns l f =
    inr (record { low_text = l.part; high_text = drop start text; low = low; at = f.0; is = l.is; is_low = l.is_low; roomy = l.roomy; crowds = f.2; place = omega (arith, f.1, l.place) })
fails_high text low start octet NotOrdered l f = absurd f

pub stops_high : (text : List ℕ) (low : Label) (start : ℕ) (fault : TextFault) → LowAt text low start → StopsPart false text start fault → StopsRange text fault
stops_high text low start fault l s = fails_high text low start fault.octet fault.kind l s

-- ---- both labels are read

whole_high : (text : List ℕ) (start end : ℕ) (high : Label) → ReadsPart false text start high end → IsLabelText (drop start text) high
whole_high text start end high r =
    let none : drop end text ≡ [] = no_dash (drop end text) r.ends in
    subst (λ t. IsLabelText t high) (sym (r.reads.is ∙ ap (λ t. r.part ++ t) none ∙ append-nil r.part)) r.is

pub pair_read : (text : List ℕ) (low high : Label) (start end : ℕ) → (l : LowAt text low start) → ReadsPart false text start high end → (range : LabelRange) → range.low ≡ low → range.high ≡ high → IsPair text range
pair_read text low high start end l r range is_low is_high =
    record {
      low_text = l.part;
      high_text = drop start text;
      is = l.is;
      low = subst (IsLabelText l.part) (sym is_low) l.is_low;
      high = subst (IsLabelText (drop start text)) (sym is_high) (whole_high text start end high r);
    }

pub roomy_read : (text : List ℕ) (low high : Label) (start end : ℕ) → LowAt text low start → ReadsPart false text start high end → IsRoomyRange text
roomy_read text low high start end l r = roomy_high text low start l r.roomy

pub unordered : (text : List ℕ) (low high : Label) (start end : ℕ) → LowAt text low start → ReadsPart false text start high end → (Dominates high low → ⊥) → IsUnordered text start
unfolding pair_read
unordered text low high start end l r other =
    record {
      range = record { low = low; high = high };
      pair = pair_read text low high start end l r (record { low = low; high = high }) refl refl;
      roomy = roomy_read text low high start end l r;
      other = other;
      place = l.place;
    }

-- a lone label
pub roomy_lone : (text : List ℕ) (low : Label) (end : ℕ) → ReadsPart true text 0 low end → end ≡ length text → IsRoomyRange text
roomy_lone text low end r e octet (inl c) = r.roomy octet c
roomy_lone text low end r e octet (inr c) =
    let whole : r.part ++ [] ≡ c.low_text ++ 45 ∷ c.high_text =
    ap (λ t. r.part ++ t) (sym (drop_end text end (omega (arith, e)))) ∙ sym r.reads.is ∙ c.is in
    let u = label_unique true r.part c.low_text [] (45 ∷ c.high_text) low c.low r.is c.is_low tt (dash_ends c.high_text) whole in
    let bad : [] ≡ 45 ∷ c.high_text = u.2 in
    omega (arith, ap length bad)

-- ---- laws

pub one_range_of : (text : List ℕ) (a b : LabelRange) → IsRangeText text a → IsRangeText text b → (a.low ≡ b.low) × (a.high ≡ b.high)
one_range_of text a b (inl p) (inl q) =
    let low = one_label text a.low b.low p.low q.low in
    (low, p.high ∙ low ∙ sym q.high)
one_range_of text a b (inl p) (inr q) =
    let u = label_unique true text q.low_text [] (45 ∷ q.high_text) a.low b.low p.low q.low tt (dash_ends q.high_text) (append-nil text ∙ q.is) in
    let bad : [] ≡ 45 ∷ q.high_text = u.2 in
    absurd (omega (arith, ap length bad))
one_range_of text a b (inr p) (inl q) =
    let u = label_unique true text p.low_text [] (45 ∷ p.high_text) b.low a.low q.low p.low tt (dash_ends p.high_text) (append-nil text ∙ p.is) in
    let bad : [] ≡ 45 ∷ p.high_text = u.2 in
    absurd (omega (arith, ap length bad))
one_range_of text a b (inr p) (inr q) =
    let u = label_unique true p.low_text q.low_text (45 ∷ p.high_text) (45 ∷ q.high_text) a.low b.low p.low q.low (dash_ends p.high_text) (dash_ends q.high_text) (sym p.is ∙ q.is) in
    let both = u.2 in
    let same : q.high_text ≡ p.high_text = cc in
    (u.0, one_label p.high_text a.high b.high p.high (subst (λ t. IsLabelText t b.high) same q.high))

pub one_range : (text : List ℕ) (a b : LabelRange) → IsRangeText text a → IsRangeText text b → a ≡ b
one_range text a b p q =
    let e = one_range_of text a b p q in
    λ i. record { low = e.0 i; high = e.1 i }

-- the test of two labels
pub same_label_is : (a b : Label) → (same_label a b ≡ true → a ≡ b) × (a ≡ b → same_label a b ≡ true)
same_label_is a b =
    let d = Decides-and (nat_eq a.level b.level) (bytes_eq a.cats b.cats) (Decides-eqb a.level b.level) (bytes_eq-Decides a.cats b.cats) in
    (λ e. let p = d.0 e in λ i. record { level = p.0 i; cats = p.1 i }, λ e. d.1 (ap (λ x. x.level) e, ap (λ x. x.cats) e))

range_back_of : (range : LabelRange) (b : Bool) → same_label range.high range.low ≡ b → IsLabelText (label_text range.low) range.low → IsLabelText (label_text range.high) range.high → IsRangeText (cond b (label_text range.low) (label_text range.low ++ 45 ∷ label_text range.high)) range
range_back_of range true e low high = inl (record { low = low; high = (same_label_is range.high range.low).0 e })
range_back_of range false e low high = inr (record { low_text = label_text range.low; high_text = label_text range.high; is = refl; low = low; high = high })

pub range_reads_back : (range : LabelRange) → range.low.level < 256 → range.high.level < 256 → IsCats range.low.cats → IsCats range.high.cats → IsRangeText (range_text range) range
range_reads_back range low high low_cats high_cats =
    range_back_of range (same_label range.high range.low) refl (reads_back range.low low low_cats) (reads_back range.high high high_cats)

text_pair_of : (range : LabelRange) (b : Bool) → same_label range.high range.low ≡ b → (range.high ≡ range.low → ⊥) → cond b (label_text range.low) (label_text range.low ++ 45 ∷ label_text range.high) ≡ label_text range.low ++ 45 ∷ label_text range.high
text_pair_of range true e other = absurd (other ((same_label_is range.high range.low).0 e))
text_pair_of range false e other = refl

pub text_pair : (range : LabelRange) → (range.high ≡ range.low → ⊥) → range_text range ≡ label_text range.low ++ 45 ∷ label_text range.high
text_pair range other = text_pair_of range (same_label range.high range.low) refl other
