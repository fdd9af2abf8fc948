-- The faults of whole texts, from those of their parts.
use Rattle.std.proofs.Common.{◌≡◌, ℕ, ◌+◌, Bool, false, List, [], ◌∷◌, ◌++◌, length, take, drop, refl, sym, ap, subst, ◌∙◌, append_assoc, length-append, arith}
use Rattle.std.specs.Fmt.{decimal}
use Rattle.std.proofs.lemmas.Bool.{false≢true}
use Rattle.std.proofs.lemmas.List.{append-nil, take_all, take-append-le}
use Rattle.mls_label.specs.declared.label.Label.{Label}
use Rattle.mls_label.specs.octet_grammar.Front.{IsFront}
use Rattle.mls_label.specs.octet_grammar.Fault.{IsFault}
use Rattle.mls_label.specs.declared.octet_grammar.fault.WireKind.TheVariants as wire
use Rattle.mls_range.specs.declared.fault.TextFault.{TextFault}
use Rattle.mls_range.specs.declared.fault.TextKind.{TextKind}
use Rattle.mls_range.specs.declared.fault.TextKind.TheVariants.{Grammar, End, TooManyRuns, NotOrdered}
use Rattle.mls_range.specs.LabelText.{IsLabelText, cats_of_terms}
use Rattle.mls_range.specs.Crowd.{CrowdsLabel}
use Rattle.mls_range.specs.Place.{octet_fault, end_fault}
use Rattle.mls_range.specs.TextFault.{FailsLabel, StopsLabel}
use Rattle.mls_range.specs.inside.Rest.{FaultIn, StopsIn, IsLabelEnd, separated, LabelOn}
use Rattle.mls_range.specs.inside.Stops.{FailsAt, ReadsPart, StopsPart}
use Rattle.mls_range.proofs.Places.{reads_length}
use Rattle.mls_range.proofs.Written.{terms_text_is}

-- ---- a grammar and its texts

-- L has the texts of G
pub record IsTexts {V : Type 0} (G : List ℕ → V → Type 0) (L : List ℕ → Type 0) : Type 0 where
  pub into : (t : List ℕ) → L t → (v : V) × G t v
  pub back : (t : List ℕ) (v : V) → G t v → L t

take_part : (part rest : List ℕ) → take (length part) (part ++ rest) ≡ part
take_part part rest = take-append-le (length part) part rest (omega arith) ∙ take_all (length part) part (omega arith)

front_is : {V : Type 0} (G : List ℕ → V → Type 0) (L : List ℕ → Type 0) (text part rest more : List ℕ) (o : ℕ) → IsTexts G L → text ≡ part ++ rest → o ≡ length part → L (part ++ more) → IsFront G (take o text)
front_is G L text part rest more o texts is long l =
    let m = texts.into (part ++ more) l in
    let e : take o text ≡ part = ap (λ k. take k text) long ∙ ap (take (length part)) is ∙ take_part part rest in
    record { more = more; value = m.0; member = subst (λ p. G (p ++ more) m.0) (sym e) m.1 }

fault_octet : {V : Type 0} (G : List ℕ → V → Type 0) (L : List ℕ → Type 0) (text part rest more : List ℕ) (o : ℕ) → IsTexts G L → text ≡ part ++ rest → o ≡ length part → L (part ++ more) → StopsIn L part rest wire.Octet → IsFault G text (octet_fault o)
fault_octet G L text part rest more o texts is long l stops =
    let octet = stops.0 in
    let split : text ≡ (part ++ octet ∷ []) ++ stops.1 = is ∙ ap (λ r. part ++ r) stops.2 ∙ sym (append_assoc part (octet ∷ []) stops.1) in
    let next : o + 1 ≡ length (part ++ octet ∷ []) = omega (arith, long, length-append part (octet ∷ [])) in
    let e : take (o + 1) text ≡ part ++ octet ∷ [] = ap (λ k. take k text) next ∙ ap (take (length (part ++ octet ∷ []))) split ∙ take_part (part ++ octet ∷ []) stops.1 in
    record {
      front = front_is G L text part rest more o texts is long l;
      stops = (
        omega (arith, ap length split, length-append (part ++ octet ∷ []) stops.1, next),
        λ f.
            let t : G ((part ++ octet ∷ []) ++ f.more) f.value = subst (λ p. G (p ++ f.more) f.value) e f.member in
            stops.3 f.more (texts.back (part ++ octet ∷ f.more) f.value (subst (λ x. G x f.value) (append_assoc part (octet ∷ []) f.more) t)),
      );
    }

fault_end : {V : Type 0} (G : List ℕ → V → Type 0) (L : List ℕ → Type 0) (text part rest more : List ℕ) (o : ℕ) → IsTexts G L → text ≡ part ++ rest → o ≡ length part → L (part ++ more) → StopsIn L part rest wire.End → IsFault G text (end_fault o)
fault_end G L text part rest more o texts is long l stops =
    let whole : text ≡ part = is ∙ ap (λ r. part ++ r) stops.0 ∙ append-nil part in
    record {
      front = front_is G L text part rest more o texts is long l;
      stops = (long ∙ ap length (sym whole), λ v g. stops.1 (texts.back part v (subst (λ x. G x v) whole g)));
    }

pub octet_fault_of : {V : Type 0} (G : List ℕ → V → Type 0) (L : List ℕ → Type 0) (text : List ℕ) (octet : ℕ) → IsTexts G L → FaultIn L text 0 (octet_fault octet) → IsFault G text (octet_fault octet)
octet_fault_of G L text octet texts f =
    fault_octet G L text f.part (drop octet text) f.more octet texts f.reads.is (omega (arith, reads_length text 0 octet f.part f.reads)) f.front f.stops

pub end_fault_of : {V : Type 0} (G : List ℕ → V → Type 0) (L : List ℕ → Type 0) (text : List ℕ) (octet : ℕ) → IsTexts G L → FaultIn L text 0 (end_fault octet) → IsFault G text (end_fault octet)
end_fault_of G L text octet texts f =
    fault_end G L text f.part (drop octet text) f.more octet texts f.reads.is (omega (arith, reads_length text 0 octet f.part f.reads)) f.front f.stops

-- ---- labels

pub on_label : (dash : Bool) (u k : List ℕ) (x : Label) → IsLabelText u x → IsLabelEnd dash k → LabelOn dash (u ++ k)
on_label dash u k x l ends =
    let e : u ++ k ≡ 115 ∷ (decimal x.level ++ (separated 58 l.terms ++ k)) =
    ap (λ t. t ++ k) (l.is ∙ ap (λ t. 115 ∷ (decimal x.level ++ t)) (terms_text_is l.terms)) ∙ ap (λ t. 115 ∷ t) (append_assoc (decimal x.level) (separated 58 l.terms) k) in
    record { level = x.level; more = separated 58 l.terms ++ k; small = l.level; is = e; behind = record { terms = l.terms; rest = k; are = l.are; is = refl; ends = ends } }

-- a label and its end
pub record LabelAnd (dash : Bool) (t : List ℕ) : Type 0 where
  pub text : List ℕ
  pub rest : List ℕ
  pub label : Label
  pub is : t ≡ text ++ rest
  pub member : IsLabelText text label
  pub ends : IsLabelEnd dash rest

pub label_and : (dash : Bool) (t : List ℕ) → LabelOn dash t → LabelAnd dash t
label_and dash t l =
    let b = l.behind in
    let x : Label = record { level = l.level; cats = cats_of_terms b.terms } in
    let text : List ℕ = 115 ∷ (decimal l.level ++ separated 58 b.terms) in
    record {
      text = text;
      rest = b.rest;
      label = x;
      is = l.is ∙ ap (λ k. 115 ∷ (decimal l.level ++ k)) b.is ∙ ap (λ k. 115 ∷ k) (sym (append_assoc (decimal l.level) (separated 58 b.terms) b.rest));
      member = record { terms = b.terms; are = b.are; is = ap (λ k. 115 ∷ (decimal l.level ++ k)) (sym (terms_text_is b.terms)); level = l.small; cats = refl };
      ends = b.ends;
    }

pub no_dash : (rest : List ℕ) → IsLabelEnd false rest → rest ≡ []
no_dash [] e = refl
no_dash (x ∷ w) e = absurd (false≢true e.0)

pub label_texts : IsTexts IsLabelText (LabelOn false)
label_texts = record {
  into = λ t l.
      let a = label_and false t l in
      let e : t ≡ a.text = a.is ∙ ap (λ r. a.text ++ r) (no_dash a.rest a.ends) ∙ append-nil a.text in
      (a.label, subst (λ u. IsLabelText u a.label) (sym e) a.member);
  back = λ t x l. subst (LabelOn false) (append-nil t) (on_label false t [] x l tt);
}

fails_label : (text : List ℕ) (octet : ℕ) (kind : TextKind) → FailsAt (LabelOn false) (CrowdsLabel false text) text 0 octet kind → FailsLabel text octet kind
fails_label text octet Grammar f = (octet_fault_of IsLabelText (LabelOn false) text octet label_texts f.0, f.1)
fails_label text octet End f = (end_fault_of IsLabelText (LabelOn false) text octet label_texts f.0, f.1)
fails_label text octet TooManyRuns f = subst (CrowdsLabel false text) (let q : f.0 ≡ octet = omega (arith, f.1) in q) f.2
fails_label text octet NotOrdered f = f

pub stops_label : (text : List ℕ) (fault : TextFault) → StopsPart false text 0 fault → StopsLabel text fault
stops_label text fault s = fails_label text fault.octet fault.kind s

-- a label that ends where the text does is all of it
pub whole_label : (text : List ℕ) (label : Label) (end : ℕ) → ReadsPart false text 0 label end → IsLabelText text label
whole_label text label end r =
    let e : text ≡ r.part = r.reads.is ∙ ap (λ k. r.part ++ k) (no_dash (drop end text) r.ends) ∙ append-nil r.part in
    subst (λ t. IsLabelText t label) (sym e) r.is
