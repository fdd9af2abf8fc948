-- What may come within a label's text, and its faults.
use Rattle.std.proofs.Common.{◌≡◌, ℕ, ◌+◌, ◌-◌, ◌≤◌, Bool, IsTrue, List, [], ◌∷◌, ◌++◌, length, drop, refl, sym, ap, subst, ◌∙◌, append_assoc, arith, inl, inr, ◌⊎◌}
use Rattle.std.specs.Fmt.{decimal}
use Rattle.std.specs.List.{All, flat_map}
use Rattle.std.proofs.lemmas.List.Elements.{All-nil, All-cons, All-head, All-tail}
use Rattle.mls_label.specs.declared.label.Label.{Label}
use Rattle.mls_range.specs.declared.fault.TextFault.{TextFault}
use Rattle.mls_label.specs.declared.octet_grammar.fault.WireKind.{WireKind}
use Rattle.mls_label.specs.declared.octet_grammar.fault.WireKind.TheVariants.{Octet, End}
use Rattle.mls_label.specs.declared.octet_grammar.fault.WireFault.{WireFault}
use Rattle.mls_range.specs.LabelText.{IsTerm, term_text}
use Rattle.mls_range.specs.Crowd.{with_comma, CrowdsLabel}
use Rattle.mls_range.specs.inside.Rest.{Spells, FaultIn, StopsIn, MissesOctet, IsLabelEnd, separated, Terms, BehindLevel, LabelOn, FailsNumber, ReadsNumber}
use Rattle.mls_range.specs.inside.Stops.{CrowdsBehind, CrowdsTerms, ReadsCats, ReadsPart, ReadsTerms, StopsCats, StopsPart, StopsTerms}
use Rattle.mls_range.proofs.Places.{reads_none, reads_on}
use Rattle.mls_range.specs.inside.Told.{text_fault}
use Rattle.mls_range.proofs.Fails.{fails_in, fails_goes}
use Rattle.mls_range.proofs.Rests.{Goes, goes_octet, goes_then, goes_number, NumberThen, IsApart, fault_goes, fault_now, number_then, stops_octet}
use Rattle.mls_range.proofs.TermLists.{NoDigit, stops_not}
use Rattle.mls_range.proofs.Crowds.{none_of_terms}
use Rattle.mls_range.proofs.Written.{terms_text_is}

-- ---- behind the level

level_first_of : (dash : Bool) (x : ℕ) (t rest : List ℕ) (terms : List (ℕ × ℕ)) → x ∷ t ≡ separated 58 terms ++ rest → IsLabelEnd dash rest → (x ≡ 58) ⊎ (IsTrue dash × (x ≡ 45))
level_first_of dash x t rest [] e ends =
    let here : IsLabelEnd dash (x ∷ t) = subst (IsLabelEnd dash) (sym e) ends in
    inr (here.0, here.1)
level_first_of dash x t rest (u ∷ us) e ends = inl cc

pub level_first : (dash : Bool) (x : ℕ) (t : List ℕ) → BehindLevel dash (x ∷ t) → (x ≡ 58) ⊎ (IsTrue dash × (x ≡ 45))
level_first dash x t b = level_first_of dash x t b.rest b.terms b.is b.ends

pub level_apart : (dash : Bool) → IsApart (λ n. BehindLevel dash)
level_apart dash n x t b d =
    elim (level_first dash x t b) [
      | inl e ↦ omega (arith, d.0, d.1)
      | inr e ↦ omega (arith, d.0, e.1)
    ]

pub level_none : (dash : Bool) → BehindLevel dash []
level_none dash = record { terms = []; rest = []; are = All-nil IsTerm; is = refl; ends = tt }

colon_terms_of : (dash : Bool) (x rest : List ℕ) (terms : List (ℕ × ℕ)) → All IsTerm terms → 58 ∷ x ≡ separated 58 terms ++ rest → IsLabelEnd dash rest → Terms dash x
colon_terms_of dash x rest [] are e ends =
    let bad : IsLabelEnd dash (58 ∷ x) = subst (IsLabelEnd dash) (sym e) ends in
    absurd (omega (arith, bad.1))
colon_terms_of dash x rest (u ∷ us) are e ends =
    let q : x ≡ (term_text u ++ separated 44 us) ++ rest = cc in
    record {
      term = u;
      more = separated 44 us ++ rest;
      is_term = All-head IsTerm u us are;
      is = q ∙ append_assoc (term_text u) (separated 44 us) rest;
      behind = record { terms = us; rest = rest; are = All-tail IsTerm u us are; is = refl; ends = ends };
    }

pub goes_colon : (dash : Bool) (s : List ℕ) → Goes (BehindLevel dash) (58 ∷ []) s (Terms dash)
goes_colon dash s =
    goes_octet 58 s (BehindLevel dash) (Terms dash) (λ t b. colon_terms_of dash t b.rest b.terms b.are b.is b.ends) (λ t w.
    let b = w.behind in
    record {
      terms = w.term ∷ b.terms;
      rest = b.rest;
      are = All-cons IsTerm w.term b.terms w.is_term b.are;
      is = ap (λ x. 58 ∷ x) (w.is ∙ ap (λ x. term_text w.term ++ x) b.is ∙ sym (append_assoc (term_text w.term) (separated 44 b.terms) b.rest));
      ends = b.ends;
    })

-- ---- the whole label

pub goes_letter_s : (dash : Bool) (s : List ℕ) → Goes (LabelOn dash) (115 ∷ []) s (NumberThen 0 255 (λ n. BehindLevel dash))
goes_letter_s dash s =
    goes_octet 115 s (LabelOn dash) (NumberThen 0 255 (λ n. BehindLevel dash)) (λ t l.
    let e = l.is in
    record { number = l.level; more = l.more; is = cc; above = omega arith; below = omega (arith, l.small); behind = l.behind }) (λ t n.
    record { level = n.number; more = n.more; small = omega (arith, n.below); is = ap (λ x. 115 ∷ x) n.is; behind = n.behind })

pub label_first : (dash : Bool) (x : ℕ) (t : List ℕ) → LabelOn dash (x ∷ t) → x ≡ 115
label_first dash x t l = let e = l.is in cc

pub label_some : (dash : Bool) → LabelOn dash [] → ⊥
label_some dash l = let e = l.is in cc

pub label_one : (dash : Bool) → LabelOn dash (115 ∷ decimal 0 ++ [])
label_one dash = record { level = 0; more = []; small = omega arith; is = refl; behind = level_none dash }

-- ---- the parts of a label, as the reader finds them

not_end : (dash : Bool) (l w : List ℕ) (x : ℕ) → IsLabelEnd dash l → l ≡ x ∷ w → (x ≡ 45 → ⊥) → ⊥
not_end dash [] w x ends e other = absurd (omega (arith, ap length e))
not_end dash (y ∷ t) w x ends e other = let q : y ≡ x = cc in other (sym q ∙ ends.1)

pub cats_none : (dash : Bool) (text : List ℕ) (start : ℕ) (cats : List ℕ) → start ≤ length text → cats ≡ [] → IsLabelEnd dash (drop start text) → ReadsCats dash text start cats start
cats_none dash text start cats within none ends =
    record {
      terms = [];
      are = All-nil IsTerm;
      reads = reads_none text start within;
      has = none ∙ none_of_terms;
      ends = ends;
      roomy = λ octet c. not_end dash (drop start text) c.terms 58 ends c.is (λ e. omega arith);
    }

misses : (wanted : ℕ) (rest w : List ℕ) (kind : WireKind) → MissesOctet wanted rest kind → rest ≡ wanted ∷ w → ⊥
misses wanted rest w Octet m e =
    let q : m.0 ∷ m.1 ≡ wanted ∷ w = sym m.2 ∙ e in
    let same : m.0 ≡ wanted = cc in
    m.3 same
misses wanted rest w End m e = let q : [] ≡ wanted ∷ w = sym m ∙ e in cc

stops_colon : (dash : Bool) (rest : List ℕ) (kind : WireKind) → (IsLabelEnd dash rest → ⊥) → MissesOctet 58 rest kind → StopsIn (BehindLevel dash) [] rest kind
stops_colon dash rest Octet over m = (
  m.0,
  m.1,
  m.2,
  λ end b.
      elim (level_first dash m.0 end b) [
        | inl e ↦ m.3 e
        | inr e ↦ over (subst (IsLabelEnd dash) (sym m.2) e)
      ],
)
stops_colon dash rest End over m = absurd (over (subst (IsLabelEnd dash) (sym m) tt))

pub cats_no_colon : (dash : Bool) (text : List ℕ) (start : ℕ) (fault : WireFault) → start ≤ length text → (IsLabelEnd dash (drop start text) → ⊥) → fault.octet ≡ start → MissesOctet 58 (drop start text) fault.kind → StopsCats dash text start (text_fault fault)
cats_no_colon dash text start fault within over place m =
    fails_in (BehindLevel dash) (CrowdsBehind dash (drop start text)) text start fault (fault_now (BehindLevel dash) text start fault [] within place (level_none dash) (stops_colon dash (drop start text) fault.kind over m)) (λ octet c. misses 58 (drop start text) c.terms fault.kind m c.is)

-- what stands behind the colon
colon_back : (dash : Bool) (text : List ℕ) (start at octet : ℕ) → Spells text start at (58 ∷ []) → CrowdsBehind dash (drop start text) octet → CrowdsTerms dash (drop at text) (octet - 1)
colon_back dash text start at octet reads c =
    let q : 58 ∷ drop at text ≡ 58 ∷ c.terms = sym reads.is ∙ c.is in
    let same : c.terms ≡ drop at text = cc in
    let place : c.at ≡ octet - 1 = omega (arith, c.place) in
    subst (CrowdsTerms dash (drop at text)) place (subst (λ t. CrowdsTerms dash t c.at) same c.crowds)

pub stops_terms : (dash : Bool) (text : List ℕ) (start at : ℕ) (fault : TextFault) → Spells text start at (58 ∷ []) → StopsTerms dash text at fault → StopsCats dash text start fault
stops_terms dash text start at fault reads s =
    fails_goes (BehindLevel dash) (Terms dash) (CrowdsBehind dash (drop start text)) (CrowdsTerms dash (drop at text)) (58 ∷ []) text start at fault.octet fault.kind reads (goes_colon dash (drop at text)) (λ o c. colon_back dash text start at o reads c) (λ o c. record { terms = drop at text; at = o; is = reads.is; crowds = c; place = refl }) s

pub cats_some : (dash : Bool) (text : List ℕ) (start at end : ℕ) (cats : List ℕ) → Spells text start at (58 ∷ []) → ReadsTerms dash text at cats end → ReadsCats dash text start cats end
cats_some dash text start at end cats reads r =
    record {
      terms = r.terms;
      are = r.are;
      reads = subst (Spells text start end) (sym r.is) (reads_on text start at end (58 ∷ []) r.part reads r.reads);
      has = r.has;
      ends = r.ends;
      roomy = λ octet c. r.roomy (octet - 1) (colon_back dash text start at octet reads c);
    }

-- ---- the whole label

-- the terms of a text with a term that is too much
abbrev crowd_terms : List (ℕ × ℕ) → ℕ × ℕ → List ℕ → List ℕ
crowd_terms before term rest = flat_map with_comma before ++ (term_text term ++ rest)

pub part_no_letter : (dash : Bool) (text : List ℕ) (start : ℕ) (fault : WireFault) → start ≤ length text → fault.octet ≡ start → MissesOctet 115 (drop start text) fault.kind → StopsPart dash text start (text_fault fault)
part_no_letter dash text start fault within place m =
    fails_in (LabelOn dash) (CrowdsLabel dash (drop start text)) text start fault (fault_now (LabelOn dash) text start fault (115 ∷ decimal 0 ++ []) within place (label_one dash) (stops_octet (LabelOn dash) 115 (drop start text) fault.kind m (label_first dash) (label_some dash))) (λ octet c. misses 115 (drop start text) (decimal c.level ++ 58 ∷ crowd_terms c.before c.term c.rest) fault.kind m c.is)

fault_letter_s : (dash : Bool) (text : List ℕ) (start at : ℕ) (fault : WireFault) → Spells text start at (115 ∷ []) → FaultIn (NumberThen 0 255 (λ n. BehindLevel dash)) text at fault → FaultIn (LabelOn dash) text start fault
fault_letter_s dash text start at fault reads f =
    fault_goes (LabelOn dash) (115 ∷ []) (NumberThen 0 255 (λ n. BehindLevel dash)) text start at fault reads (goes_letter_s dash (drop at text)) f

-- what stands behind the letter in a text with a term that is too much
crowd_number : (dash : Bool) (text : List ℕ) (start at octet : ℕ) → Spells text start at (115 ∷ []) → (c : CrowdsLabel dash (drop start text) octet) → drop at text ≡ decimal c.level ++ 58 ∷ crowd_terms c.before c.term c.rest
crowd_number dash text start at octet reads c =
    let q : 115 ∷ drop at text ≡ 115 ∷ (decimal c.level ++ 58 ∷ crowd_terms c.before c.term c.rest) = sym reads.is ∙ c.is in
    cc

free_apart : IsApart (λ n. NoDigit)
free_apart n x t free digit = free digit

pub part_no_number : (dash : Bool) (text : List ℕ) (start at : ℕ) (fault : WireFault) → Spells text start at (115 ∷ []) → FailsNumber text at 0 255 fault → StopsPart dash text start (text_fault fault)
part_no_number dash text start at fault reads f =
    let fails = number_then 0 255 (λ n. BehindLevel dash) text at fault (omega arith) (level_apart dash) (λ n low high. ([], level_none dash)) f in
    fails_in (LabelOn dash) (CrowdsLabel dash (drop start text)) text start fault (fault_letter_s dash text start at fault reads fails) (λ octet c.
    let free = number_then 0 255 (λ n. NoDigit) text at fault (omega arith) free_apart (λ n low high. ([], tt)) f in
    let whole : NumberThen 0 255 (λ n. NoDigit) (drop at text) =
    record { number = c.level; more = 58 ∷ crowd_terms c.before c.term c.rest; is = crowd_number dash text start at octet reads c; above = omega arith; below = omega (arith, c.small); behind = λ d. omega (arith, d.1) } in
    stops_not (NumberThen 0 255 (λ n. NoDigit)) free.part (drop fault.octet text) fault.kind (subst (NumberThen 0 255 (λ n. NoDigit)) free.reads.is whole) free.stops)

-- a term that is too much stands behind the level that was read
record CrowdsFrom (dash : Bool) (octet : ℕ) (level : ℕ) (text : List ℕ) : Type 0 where
  pub crowds : CrowdsBehind dash text (octet - (1 + length (decimal level)))
  pub above : 1 + length (decimal level) ≤ octet

crowds_apart : (dash : Bool) (octet : ℕ) → IsApart (CrowdsFrom dash octet)
crowds_apart dash octet n x t c d = let e = c.crowds.is in let q : x ≡ 58 = cc in omega (arith, d.1)

crowd_behind : (dash : Bool) (text : List ℕ) (start at end level octet : ℕ) → Spells text start at (115 ∷ []) → ReadsNumber text at 0 255 level end → CrowdsLabel dash (drop start text) octet → CrowdsBehind dash (drop end text) (octet - (1 + length (decimal level)))
crowd_behind dash text start at end level octet reads r c =
    let from : CrowdsFrom dash octet c.level (58 ∷ crowd_terms c.before c.term c.rest) = record {
      crowds = record {
        terms = crowd_terms c.before c.term c.rest;
        at = length (flat_map with_comma c.before);
        is = refl;
        crowds = record { before = c.before; term = c.term; rest = c.rest; are = c.are; is_term = c.is_term; is = refl; counts = c.counts; few = c.few; many = c.many; place = refl };
        place = omega (arith, c.place);
      };
      above = omega (arith, c.place);
    } in
    let whole : NumberThen 0 255 (CrowdsFrom dash octet) (decimal level ++ drop end text) =
    record { number = c.level; more = 58 ∷ crowd_terms c.before c.term c.rest; is = sym r.reads.is ∙ crowd_number dash text start at octet reads c; above = omega arith; below = omega (arith, c.small); behind = from } in
    let g = goes_number 0 255 level (CrowdsFrom dash octet) (drop end text) (omega arith) r.above r.below (crowds_apart dash octet) r.ends in
    (g.back (drop end text) refl whole).crowds

crowd_label : (dash : Bool) (text : List ℕ) (start at end level octet : ℕ) → Spells text start at (115 ∷ []) → ReadsNumber text at 0 255 level end → CrowdsBehind dash (drop end text) octet → CrowdsLabel dash (drop start text) (1 + length (decimal level) + octet)
crowd_label dash text start at end level octet reads r c =
    let t = c.crowds in
    record {
      level = level;
      before = t.before;
      term = t.term;
      rest = t.rest;
      small = omega (arith, r.below);
      are = t.are;
      is_term = t.is_term;
      is = reads.is ∙ ap (λ w. 115 ∷ w) (r.reads.is ∙ ap (λ w. decimal level ++ w) (c.is ∙ ap (λ w. 58 ∷ w) t.is));
      counts = t.counts;
      few = t.few;
      many = t.many;
      place = omega (arith, c.place, t.place);
    }

-- behind the letter and the level
goes_level : (dash : Bool) (text : List ℕ) (at end level : ℕ) → ReadsNumber text at 0 255 level end → Goes (LabelOn dash) (115 ∷ decimal level) (drop end text) (BehindLevel dash)
goes_level dash text at end level r =
    goes_then (LabelOn dash) (115 ∷ []) (decimal level) (drop end text) (NumberThen 0 255 (λ n. BehindLevel dash)) (BehindLevel dash) (goes_letter_s dash (decimal level ++ drop end text)) (goes_number 0 255 level (λ n. BehindLevel dash) (drop end text) (omega arith) r.above r.below (level_apart dash) r.ends)

pub stops_level : (dash : Bool) (text : List ℕ) (start at end level : ℕ) (fault : TextFault) → Spells text start at (115 ∷ []) → ReadsNumber text at 0 255 level end → StopsCats dash text end fault → StopsPart dash text start fault
stops_level dash text start at end level fault reads r s =
    fails_goes (LabelOn dash) (BehindLevel dash) (CrowdsLabel dash (drop start text)) (CrowdsBehind dash (drop end text)) (115 ∷ decimal level) text start end fault.octet fault.kind (reads_on text start at end (115 ∷ []) (decimal level) reads r.reads) (goes_level dash text at end level r) (λ o c. subst (CrowdsBehind dash (drop end text)) (omega arith) (crowd_behind dash text start at end level o reads r c)) (λ o c. subst (CrowdsLabel dash (drop start text)) (omega arith) (crowd_label dash text start at end level o reads r c)) s

pub reads_label : (dash : Bool) (text : List ℕ) (start at behind end : ℕ) (label : Label) → Spells text start at (115 ∷ []) → ReadsNumber text at 0 255 label.level behind → ReadsCats dash text behind label.cats end → ReadsPart dash text start label end
reads_label dash text start at behind end label reads r cats =
    record {
      part = 115 ∷ (decimal label.level ++ separated 58 cats.terms);
      reads = reads_on text start at end (115 ∷ []) (decimal label.level ++ separated 58 cats.terms) reads (reads_on text at behind end (decimal label.level) (separated 58 cats.terms) r.reads cats.reads);
      is = record {
        terms = cats.terms;
        are = cats.are;
        is = ap (λ t. 115 ∷ (decimal label.level ++ t)) (sym (terms_text_is cats.terms));
        level = omega (arith, r.below);
        cats = cats.has;
      };
      ends = cats.ends;
      roomy = λ octet c. cats.roomy (octet - (1 + length (decimal label.level))) (crowd_behind dash text start at behind label.level octet reads r c);
    }
