-- Reading on in a text.
use Rattle.std.proofs.Common.{◌≡◌, ℕ, ◌+◌, ◌-◌, ◌<◌, ◌≤◌, List, [], ◌∷◌, ◌++◌, length, get_or, drop, refl, sym, ap, ◌∙◌, append_assoc, add-one, length-append, length-drop, drop-cons, arith, inl, inr}
use Rattle.std.proofs.lemmas.Bool.{cases_lt}
use Rattle.std.proofs.lemmas.List.{nil_from_length}
use Rattle.mls_range.specs.inside.Rest.{Spells}

pub drop_at : (text : List ℕ) (at : ℕ) → at < length text → drop at text ≡ get_or text at 0 ∷ drop (at + 1) text
drop_at text at lt = drop-cons text at 0 lt ∙ ap (λ i. get_or text at 0 ∷ drop i text) (sym (add-one at))

pub drop_end : (text : List ℕ) (at : ℕ) → length text ≤ at → drop at text ≡ []
drop_end text at le = nil_from_length (drop at text) (omega (arith, length-drop at text))

pub reads_none : (text : List ℕ) (at : ℕ) → at ≤ length text → Spells text at at []
reads_none text at le = record { within = le; forward = omega arith; is = refl }

pub reads_octet : (text : List ℕ) (at : ℕ) → at < length text → Spells text at (at + 1) (get_or text at 0 ∷ [])
reads_octet text at lt = record { within = omega arith; forward = omega arith; is = drop_at text at lt }

pub reads_on : (text : List ℕ) (start middle end : ℕ) (a b : List ℕ) → Spells text start middle a → Spells text middle end b → Spells text start end (a ++ b)
reads_on text start middle end a b r q =
    record {
      within = q.within;
      forward = omega (arith, r.forward, q.forward);
      is = r.is ∙ ap (λ x. a ++ x) q.is ∙ sym (append_assoc a b (drop end text));
    }

pub reads_length : (text : List ℕ) (start end : ℕ) (part : List ℕ) → Spells text start end part → length part ≡ end - start
reads_length text start end part r =
    omega (arith, ap length r.is, length-append part (drop end text), length-drop start text, length-drop end text, r.within, r.forward)

-- nothing was read where the place is the same
pub reads_nothing : (text : List ℕ) (at : ℕ) (part : List ℕ) → Spells text at at part → part ≡ []
reads_nothing text at part r = nil_from_length part (omega (arith, reads_length text at at part r))

pub first_is : (text : List ℕ) (at x : ℕ) (w : List ℕ) → drop at text ≡ x ∷ w → get_or text at 0 ≡ x
first_is text at x w is =
    elim (cases_lt at (length text)) [
      | inl lt ↦ ap (λ l. get_or l 0 0) (sym (drop_at text at lt) ∙ is)
      | inr le ↦ absurd (omega (arith, ap length (sym (drop_end text at le) ∙ is)))
    ]
