-- What the reader of numbers keeps.
use Rattle.std.proofs.Common.{◌≡◌, ℕ, ◌+◌, ◌-◌, ◌*◌, ◌<◌, ◌≤◌, List, [], ◌∷◌, ◌++◌, length, get_or, drop, refl, sym, ap, subst, ◌∙◌, append_assoc, arith, inl, inr, ◌⊎◌}
use Rattle.std.specs.Fmt.{decimal}
use Rattle.std.proofs.lemmas.Fmt.{decimal_nonempty}
use Rattle.mls_label.specs.declared.octet_grammar.fault.WireFault.{WireFault}
use Rattle.mls_label.specs.declared.octet_grammar.fault.WireKind.{WireKind}
use Rattle.mls_label.specs.declared.octet_grammar.fault.WireKind.TheVariants.{Octet, End}
use Rattle.mls_range.specs.inside.Number.{BeginsNumber, number_after, GoesOn}
use Rattle.mls_range.specs.inside.Rest.{Spells, FaultIn, FailsNumber, IsNumber, ReadsNumber, StopsHere, StopsIn}
use Rattle.mls_range.proofs.Digits.{begins_goes, goes_begins, number-decimal, number_after-append, begins_small, begins_number, grows}
use Rattle.mls_range.proofs.Places.{drop_at, drop_end, reads_none, reads_octet, reads_on, reads_length, reads_nothing}

-- the digits from start on, and their number
pub record HasDigits (text : List ℕ) (start at low high number : ℕ) : Type 0 where
  pub digits : List ℕ
  pub reads : Spells text start at digits
  pub value : number_after 0 digits ≡ number
  pub begins : BeginsNumber low high digits

pub has_none : (text : List ℕ) (start low high : ℕ) → start ≤ length text → low ≤ high → HasDigits text start start low high 0
has_none text start low high within order =
    record { digits = []; reads = reads_none text start within; value = refl; begins = record { number = low; more = decimal low; is = refl; above = omega arith; below = order } }

-- it isn't past high
pub has_small : (text : List ℕ) (start at low high number : ℕ) → high < 65536 → HasDigits text start at low high number → number ≤ high
has_small text start at low high number small h =
    let b = h.begins in
    let is : number_after number b.more ≡ b.number =
    ap (λ n. number_after n b.more) (sym h.value) ∙ sym (number_after-append 0 h.digits b.more) ∙ ap (number_after 0) (sym b.is) ∙ number-decimal b.number (begins_small low high h.digits small b) in
    omega (arith, is, grows number b.more, b.below)

pub has_more : (text : List ℕ) (start at low high number : ℕ) → high < 65536 → at < length text → HasDigits text start at low high number → GoesOn (at - start) number (get_or text at 0) low high → HasDigits text start (at + 1) low high (10 * number + (get_or text at 0 - 48))
has_more text start at low high number small lt h g =
    let octet = get_or text at 0 in
    let long = reads_length text start at h.digits h.reads in
    record {
      digits = h.digits ++ octet ∷ [];
      reads = reads_on text start at (at + 1) h.digits (octet ∷ []) h.reads (reads_octet text at lt);
      value = number_after-append 0 h.digits (octet ∷ []) ∙ ap (λ n. 10 * n + (octet - 48)) h.value;
      begins = goes_begins low high number octet h.digits small h.value h.begins (subst (λ k. GoesOn k number octet low high) (sym long) g);
    }

-- the octet at this place belongs to no number that begins with the digits
abbrev pub EndsDigits : List ℕ → ℕ → ℕ → ℕ → List ℕ → Type 0
EndsDigits text at low high digits = (octet : ℕ) (more : List ℕ) → drop at text ≡ octet ∷ more → BeginsNumber low high (digits ++ octet ∷ []) → ⊥

pub ends_here : (text : List ℕ) (start at low high number : ℕ) → high < 65536 → at < length text → (h : HasDigits text start at low high number) → (GoesOn (at - start) number (get_or text at 0) low high → ⊥) → EndsDigits text at low high h.digits
ends_here text start at low high number small lt h not octet more is b =
    let q : get_or text at 0 ≡ octet = ap (λ l. get_or l 0 0) (sym (drop_at text at lt) ∙ is) in
    let g = begins_goes low high number octet h.digits small h.value b in
    let long = reads_length text start at h.digits h.reads in
    not (subst (λ x. GoesOn (at - start) number x low high) (sym q) (subst (λ k. GoesOn k number octet low high) long g))

pub ends_past : (text : List ℕ) (at low high : ℕ) (digits : List ℕ) → length text ≤ at → EndsDigits text at low high digits
ends_past text at low high digits le octet more is b =
    let q : [] ≡ octet ∷ more = sym (drop_end text at le) ∙ is in
    cc

stops_digits : (text : List ℕ) (at low high : ℕ) (digits : List ℕ) (kind : WireKind) → EndsDigits text at low high digits → (IsNumber low high digits → ⊥) → StopsHere (drop at text) kind → StopsIn (IsNumber low high) digits (drop at text) kind
stops_digits text at low high digits Octet ends none here = (
  here.0,
  here.1,
  here.2,
  λ end n.
      let is : decimal n.number ≡ (digits ++ here.0 ∷ []) ++ end = sym n.is ∙ sym (append_assoc digits (here.0 ∷ []) end) in
      ends here.0 here.1 here.2 (record { number = n.number; more = end; is = is; above = n.above; below = n.below }),
)
stops_digits text at low high digits End ends none here = (here, none)

-- the digits are no number: there are none, or it is below low
none_number : (text : List ℕ) (start at low high number : ℕ) → high < 65536 → (h : HasDigits text start at low high number) → (at ≡ start) ⊎ (number < low) → IsNumber low high h.digits → ⊥
none_number text start at low high number small h (inl e) n =
    let none : h.digits ≡ [] = reads_nothing text start h.digits (subst (λ k. Spells text start k h.digits) e h.reads) in
    omega (arith, decimal_nonempty n.number (omega (arith, n.below)), ap length (sym n.is ∙ none))
none_number text start at low high number small h (inr lt) n =
    let is : n.number ≡ number = sym (number-decimal n.number (omega (arith, n.below))) ∙ ap (number_after 0) (sym n.is) ∙ h.value in
    omega (arith, n.above, is)

pub number_fault : (text : List ℕ) (start at low high number : ℕ) (fault : WireFault) → high < 65536 → (h : HasDigits text start at low high number) → EndsDigits text at low high h.digits → (at ≡ start) ⊎ (number < low) → fault.octet ≡ at → StopsHere (drop at text) fault.kind → FailsNumber text start low high fault
number_fault text start at low high number fault small h ends bad place here =
    let none = none_number text start at low high number small h bad in
    let stops = stops_digits text at low high h.digits fault.kind ends none here in
    let fails : FaultIn (IsNumber low high) text start fault = record {
      part = h.digits;
      reads = subst (λ k. Spells text start k h.digits) (sym place) h.reads;
      more = h.begins.more;
      front = record { number = h.begins.number; is = sym h.begins.is; above = h.begins.above; below = h.begins.below };
      stops = subst (λ k. StopsIn (IsNumber low high) h.digits (drop k text) fault.kind) (sym place) stops;
    } in
    record { fails = fails; none = none }

pub number_read : (text : List ℕ) (start at low high number : ℕ) → high < 65536 → (h : HasDigits text start at low high number) → EndsDigits text at low high h.digits → (at ≡ start → ⊥) → low ≤ number → ReadsNumber text start low high number at
number_read text start at low high number small h ends some above =
    let below = has_small text start at low high number small h in
    let long : 0 < length h.digits = omega (arith, reads_length text start at h.digits h.reads, h.reads.forward) in
    let is : decimal number ≡ h.digits =
    ap decimal (sym h.value) ∙ begins_number low high h.digits small long (omega (arith, h.value)) h.begins in
    record {
      reads = subst (Spells text start at) (sym is) h.reads;
      above = above;
      below = below;
      ends = subst (EndsDigits text at low high) (sym is) ends;
    }
