-- What the reader of terms keeps, and when it finds the term that is too much.
use Rattle.std.proofs.Common.{◌≡◌, ℕ, zero, suc, ◌+◌, ◌<◌, ◌≤◌, Bool, ◌||◌, List, [], ◌∷◌, ◌++◌, length, get_or, take, drop, refl, sym, ap, subst, ◌∙◌, append_assoc, length-append, arith, inl, inr, ◌⊎◌}
use Rattle.std.specs.List.{All, flat_map}
use Rattle.std.proofs.lemmas.Bool.{cases_lt}
use Rattle.std.proofs.Math.Bool.{or-false}
use Rattle.std.proofs.lemmas.List.{append-nil, take-append-le, take_all, get_or_past}
use Rattle.std.proofs.lemmas.List.Concat.{flat_map-append}
use Rattle.std.proofs.lemmas.List.Folds.{list_any-append}
use Rattle.std.proofs.lemmas.List.Elements.{All-nil, All-tail, All-push}
use Rattle.mls_label.specs.Cats.{has, cats_where, is_within}
use Rattle.mls_label.specs.Runs.{runs_of}
use Rattle.mls_label.proofs.Law.{sets_of_a_test_have_what_passes, sets_are_what_they_have, equal_tests_give_equal_sets}
use Rattle.mls_label.specs.declared.octet_grammar.fault.WireFault.{WireFault}
use Rattle.mls_range.specs.declared.fault.TextFault.{TextFault}
use Rattle.mls_range.specs.declared.fault.TextKind.{TextKind}
use Rattle.mls_range.specs.declared.fault.TextKind.TheVariants.{TooManyRuns}
use Rattle.mls_range.specs.LabelText.{IsTerm, term_text, term_has, cats_of_terms}
use Rattle.mls_range.specs.Crowd.{IsCounted, with_comma, run_count}
use Rattle.mls_range.specs.inside.Rest.{Spells, FaultIn, separated, Terms, TermOn, ReadsTerm, IsLabelEnd}
use Rattle.mls_range.specs.inside.Stops.{CrowdsTerms, FailsAt, ReadsTerms, StopsRun, StopsTerms}
use Rattle.mls_range.proofs.Places.{reads_none, reads_octet, reads_on, reads_length, first_is}
use Rattle.mls_range.specs.inside.Told.{text_fault}
use Rattle.mls_range.proofs.Rests.{fault_goes}
use Rattle.mls_range.proofs.Fails.{fails_in}
use Rattle.mls_range.proofs.TermLists.{comma_is, Behind, First, peel, first_of_terms, term_unique, goes_terms, fault_terms, fault_no_counted}

-- ---- sets of categories

pub none_of_terms : [] ≡ cats_of_terms []
none_of_terms = sets_are_what_they_have [] (term_has []) tt (λ c lt. refl)

pub cats_push : (cats : List ℕ) (terms : List (ℕ × ℕ)) (term : ℕ × ℕ) → cats ≡ cats_of_terms terms → cats_where (λ c. has cats c || is_within term.0 term.1 c) ≡ cats_of_terms (terms ++ term ∷ [])
cats_push cats terms term e =
    equal_tests_give_equal_sets (λ c. has cats c || is_within term.0 term.1 c) (term_has (terms ++ term ∷ [])) (λ c lt.
    let old : has cats c ≡ term_has terms c = ap (λ x. has x c) e ∙ sets_of_a_test_have_what_passes (term_has terms) c lt in
    ap (λ b. b || is_within term.0 term.1 c) old ∙ ap (λ b. term_has terms c || b) (sym (or-false (is_within term.0 term.1 c))) ∙ sym (list_any-append (λ t. is_within t.0 t.1 c) terms (term ∷ [])))

-- ---- what is kept

-- the terms from start on, each with its comma, their categories, and nowhere too many runs
pub record HasTerms (text : List ℕ) (start at : ℕ) (cats : List ℕ) : Type 0 where
  pub terms : List (ℕ × ℕ)
  pub reads : Spells text start at (flat_map with_comma terms)
  pub are : All IsTerm terms
  pub is : cats ≡ cats_of_terms terms
  pub few : (n : ℕ) → run_count (take n terms) ≤ 1952

pub take_none : (n : ℕ) → (let none : List (ℕ × ℕ) = [] in take n none ≡ none)
take_none zero = refl
take_none (suc n) = refl

pub has_none : (text : List ℕ) (start : ℕ) → start ≤ length text → HasTerms text start start []
has_none text start within =
    record {
      terms = [];
      reads = reads_none text start within;
      are = All-nil IsTerm;
      is = none_of_terms;
      few = λ n.
          let e : run_count (take n []) ≡ 0 = ap run_count (take_none n) ∙ ap (λ cats. length (runs_of cats)) (sym none_of_terms) in
          omega (arith, e);
    }

pub few_push : (terms : List (ℕ × ℕ)) (term : ℕ × ℕ) → ((n : ℕ) → run_count (take n terms) ≤ 1952) → run_count (terms ++ term ∷ []) ≤ 1952 → (n : ℕ) → run_count (take n (terms ++ term ∷ [])) ≤ 1952
few_push terms term few last n =
    elim (cases_lt (length terms) n) [
      | inl lt ↦
          let all : take n (terms ++ term ∷ []) ≡ terms ++ term ∷ [] = take_all n (terms ++ term ∷ []) (omega (arith, length-append terms (term ∷ []))) in
          omega (arith, ap run_count all, last)
      | inr le ↦ omega (arith, ap run_count (take-append-le n terms (term ∷ []) le), few n)
    ]

push_is : (terms : List (ℕ × ℕ)) (term : ℕ × ℕ) → flat_map with_comma (terms ++ term ∷ []) ≡ flat_map with_comma terms ++ with_comma term
push_is terms term = flat_map-append with_comma terms (term ∷ []) ∙ ap (λ t. flat_map with_comma terms ++ t) (append-nil (with_comma term))

-- one term more, and its comma
pub has_more : (text : List ℕ) (start at end : ℕ) (cats more : List ℕ) (dash : Bool) (first last : ℕ) → (h : HasTerms text start at cats) → ReadsTerm dash text at first last end → more ≡ cats_where (λ c. has cats c || is_within first last c) → length (runs_of more) ≤ 1952 → end < length text → get_or text end 0 ≡ 44 → HasTerms text start (end + 1) more
has_more text start at end cats more dash first last h r e few lt comma =
    let term : ℕ × ℕ = (first, last) in
    let is : more ≡ cats_of_terms (h.terms ++ term ∷ []) = e ∙ cats_push cats h.terms term h.is in
    let one : Spells text at (end + 1) (term_text term ++ 44 ∷ []) =
    reads_on text at end (end + 1) (term_text term) (44 ∷ []) r.reads (subst (λ x. Spells text end (end + 1) (x ∷ [])) comma (reads_octet text end lt)) in
    record {
      terms = h.terms ++ term ∷ [];
      reads = subst (Spells text start (end + 1)) (sym (push_is h.terms term)) (reads_on text start at (end + 1) (flat_map with_comma h.terms) (with_comma term) h.reads one);
      are = All-push IsTerm h.terms term h.are r.is_term;
      is = is;
      few = few_push h.terms term h.few (omega (arith, ap (λ x. length (runs_of x)) (sym is), few));
    }

-- ---- no term is too much before this place

-- a crowding term is none of those that were read
pub next_of : (dash : Bool) (text : List ℕ) (start at octet : ℕ) (cats : List ℕ) → (h : HasTerms text start at cats) → (c : CrowdsTerms dash (drop start text) octet) → Behind h.terms c.before c.term (drop at text) c.rest
next_of dash text start at octet cats h c =
    elim (peel dash h.terms c.before c.term (drop at text) c.rest h.are c.are c.is_term c.counts (sym h.reads.is ∙ c.is)) [
      | inl a ↦ absurd (omega (arith, c.many, ap run_count a.is, h.few a.count))
      | inr b ↦ b
    ]

all_back : (xs ys : List (ℕ × ℕ)) → All IsTerm (xs ++ ys) → All IsTerm ys
all_back [] ys a = a
all_back (x ∷ xs) ys a = all_back xs ys (All-tail IsTerm x (xs ++ ys) a)

pub first_behind : (dash : Bool) (text : List ℕ) (start at octet : ℕ) (cats : List ℕ) → (h : HasTerms text start at cats) → (c : CrowdsTerms dash (drop start text) octet) → (us : List (ℕ × ℕ)) × (c.before ≡ h.terms ++ us) × First dash us c.term (drop at text) c.rest
first_behind dash text start at octet cats h c =
    let b = next_of dash text start at octet cats h c in
    let are = all_back h.terms b.us (subst (All IsTerm) b.terms c.are) in
    (b.us, b.terms, first_of_terms dash b.us c.term (drop at text) c.rest are c.is_term c.counts b.is)

-- the fault of a term behind those that were read
pub stops_term : (dash : Bool) (text : List ℕ) (start at : ℕ) (cats : List ℕ) (fault : WireFault) → (h : HasTerms text start at cats) → FaultIn (TermOn dash) text at fault → StopsTerms dash text start (text_fault fault)
stops_term dash text start at cats fault h f =
    fails_in (Terms dash) (CrowdsTerms dash (drop start text)) text start fault (fault_goes (Terms dash) (flat_map with_comma h.terms) (Terms dash) text start at fault h.reads (goes_terms dash h.terms (drop at text) h.are) (fault_terms dash text at fault f)) (λ octet c.
    let b = first_behind dash text start at octet cats h c in
    let first = b.2 in
    fault_no_counted dash text at fault f (record { term = first.first; more = first.more; is_term = first.is_term; is = first.is; counts = first.counts }))

-- the term that is too much
pub crowds_term : (dash : Bool) (text : List ℕ) (start at end first last : ℕ) (cats : List ℕ) → (h : HasTerms text start at cats) → ReadsTerm dash text at first last end → 1952 < length (runs_of (cats_where (λ c. has cats c || is_within first last c))) → (octet : ℕ) × (at ≡ start + octet) × CrowdsTerms dash (drop start text) octet
crowds_term dash text start at end first last cats h r many =
    let term : ℕ × ℕ = (first, last) in
    let octet = length (flat_map with_comma h.terms) in
    let place : at ≡ start + octet = omega (arith, reads_length text start at (flat_map with_comma h.terms) h.reads, h.reads.forward) in (
      octet,
      place,
      record {
        before = h.terms;
        term = term;
        rest = drop end text;
        are = h.are;
        is_term = r.is_term;
        is = h.reads.is ∙ ap (λ t. flat_map with_comma h.terms ++ t) r.reads.is;
        counts = r.counts;
        few = h.few;
        many = omega (arith, many, ap (λ x. length (runs_of x)) (cats_push cats h.terms term h.is));
        place = refl;
      },
    )

-- the last term
separated_last : (s : ℕ) (terms : List (ℕ × ℕ)) (term : ℕ × ℕ) → separated s (terms ++ term ∷ []) ≡ s ∷ (flat_map with_comma terms ++ term_text term)
separated_last s [] term = ap (λ t. s ∷ t) (append-nil (term_text term))
separated_last s (u ∷ us) term =
    let rest : List ℕ = flat_map with_comma us ++ term_text term in
    ap (λ t. s ∷ (term_text u ++ t)) (separated_last 44 us term) ∙ ap (λ t. s ∷ t) (sym (append_assoc (with_comma u) (flat_map with_comma us) (term_text term) ∙ comma_is u rest))

ends_of : (dash : Bool) (l : List ℕ) → IsCounted dash l → ((x : ℕ) (w : List ℕ) → l ≡ x ∷ w → x ≡ 44 → ⊥) → IsLabelEnd dash l
ends_of dash [] c other = tt
ends_of dash (x ∷ w) (inl e) other = absurd (other x w refl e)
ends_of dash (x ∷ w) (inr e) other = (e.0, e.1)

no_comma : (dash : Bool) (l w : List ℕ) → IsLabelEnd dash l → l ≡ 44 ∷ w → ⊥
no_comma dash [] w ends e = absurd (omega (arith, ap length e))
no_comma dash (x ∷ t) w ends e = let q : x ≡ 44 = cc in omega (arith, ends.1)

ends_here : (dash : Bool) (text : List ℕ) (end : ℕ) → IsCounted dash (drop end text) → (end ≡ length text) ⊎ (get_or text end 0 ≡ 44 → ⊥) → IsLabelEnd dash (drop end text)
ends_here dash text end c over =
    ends_of dash (drop end text) c (λ x w is comma.
    elim over [
      | inl e ↦ omega (arith, first_is text end x w is, get_or_past text end 0 (omega arith))
      | inr ne ↦ ne (first_is text end x w is ∙ comma)
    ])

-- of the crowding terms the first is the last that was read: then it isn't too much
no_crowd : (dash : Bool) (text : List ℕ) (start at end first last octet : ℕ) (cats : List ℕ) → (h : HasTerms text start at cats) → ReadsTerm dash text at first last end → run_count (h.terms ++ (first, last) ∷ []) ≤ 1952 → IsLabelEnd dash (drop end text) → CrowdsTerms dash (drop start text) octet → ⊥
no_crowd dash text start at end first last octet cats h r few ends c =
    let term : ℕ × ℕ = (first, last) in
    let b = first_behind dash text start at octet cats h c in
    let f = b.2 in
    let u = term_unique dash f.first term f.more (drop end text) f.is_term r.is_term f.counts r.counts (sym f.is ∙ r.reads.is) in
    elim f.alone [
      | inl none ↦
          let all : c.before ++ c.term ∷ [] ≡ h.terms ++ term ∷ [] =
          ap (λ ts. ts ++ c.term ∷ []) b.1 ∙ append_assoc h.terms b.0 (c.term ∷ []) ∙ ap (λ ts. h.terms ++ ts) (f.terms ∙ (λ i. u.0 i ∷ none i)) in
          omega (arith, c.many, ap run_count all)
      | inr more ↦ no_comma dash (drop end text) more.0 ends (sym u.1 ∙ more.1)
    ]

pub reads_terms : (dash : Bool) (text : List ℕ) (start at end first last : ℕ) (cats more : List ℕ) → (h : HasTerms text start at cats) → ReadsTerm dash text at first last end → more ≡ cats_where (λ c. has cats c || is_within first last c) → length (runs_of more) ≤ 1952 → (end ≡ length text) ⊎ (get_or text end 0 ≡ 44 → ⊥) → ReadsTerms dash text start more end
reads_terms dash text start at end first last cats more h r e few over =
    let term : ℕ × ℕ = (first, last) in
    let is : more ≡ cats_of_terms (h.terms ++ term ∷ []) = e ∙ cats_push cats h.terms term h.is in
    let ends = ends_here dash text end r.counts over in
    let small : run_count (h.terms ++ term ∷ []) ≤ 1952 = omega (arith, ap (λ x. length (runs_of x)) is, few) in
    record {
      terms = h.terms ++ term ∷ [];
      part = flat_map with_comma h.terms ++ term_text term;
      are = All-push IsTerm h.terms term h.are r.is_term;
      is = separated_last 58 h.terms term;
      reads = reads_on text start at end (flat_map with_comma h.terms) (term_text term) h.reads r.reads;
      has = is;
      ends = ends;
      roomy = λ octet c. no_crowd dash text start at end first last octet cats h r small ends c;
    }

stops_run_kind : (dash : Bool) (text : List ℕ) (start at octet : ℕ) (kind : TextKind) → kind ≡ TooManyRuns → (o : ℕ) × (octet ≡ start + o) × CrowdsTerms dash (drop start text) o → FailsAt (Terms dash) (CrowdsTerms dash (drop start text)) text start octet kind
stops_run_kind dash text start at octet kind is c = subst (FailsAt (Terms dash) (CrowdsTerms dash (drop start text)) text start octet) (sym is) c

pub stops_run : (dash : Bool) (text : List ℕ) (start at end first last : ℕ) (cats : List ℕ) (fault : TextFault) → (h : HasTerms text start at cats) → ReadsTerm dash text at first last end → StopsRun cats first last at fault → StopsTerms dash text start fault
stops_run dash text start at end first last cats fault h r s =
    let c = crowds_term dash text start at end first last cats h r s.2 in
    stops_run_kind dash text start at fault.octet fault.kind s.1 (c.0, s.0 ∙ c.1, c.2)
