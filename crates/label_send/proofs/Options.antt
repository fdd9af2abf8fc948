-- Which labels an option can say, and what goes out then.
use Rattle.std.proofs.Common.{◌≡◌, ℕ, ◌↔◌, Bool, true, false, List, [], ◌∷◌, Some, Ok, Err, IsTrue, cond, refl, sym, ap, subst, ◌∙◌, inl, inr}
use Rattle.std.specs.Prelude.{nat_eq, nat_le, if◌then◌else◌}
use Rattle.std.specs.List.{list_all}
use Rattle.std.proofs.lemmas.Option.{none-some, same_Some}
use Rattle.std.proofs.lemmas.Bool.{eq-eqb, eqb-true, leb-true, le-leb, and_parts, and_from, or_cases, or_left, or_right, false≢true}
use Rattle.mls_label.specs.declared.label.Label.{Label}
use Rattle.mls_label.specs.declared.label.Proto.TheVariants as Of
use Rattle.mls_label.specs.declared.label.Tag.{Tag}
use Rattle.mls_label.specs.Cats.{has}
use Rattle.cipso_tags.specs.Text.{fits, Fits, first_tag_of}
use Rattle.calipso_option.specs.Text.{IsExpressible}
use Rattle.packet_label.specs.declared.packet.Wire.TheVariants as wire
use Rattle.packet_label.specs.declared.denial.Denial.TheVariants.{Inexpressible}
use Rattle.label_send.specs.Outgoing.{is_in_words, calipso_said}

-- ---- CALIPSO

passes_each : (p : ℕ → Bool) (cats : List ℕ) (c : ℕ) → list_all p cats ≡ true → has cats c ≡ true → p c ≡ true
passes_each p [] c all member = absurd (false≢true member)
passes_each p (x ∷ cats) c all member =
    let both = and_parts (p x) (list_all p cats) all in
    elim (or_cases (nat_eq c x) (has cats c) member) [
      | inl e ↦ subst (λ k. p k ≡ true) (sym (eqb-true c x e)) both.0
      | inr m ↦ passes_each p cats c both.1 m
    ]

each_passes : (p : ℕ → Bool) (cats : List ℕ) → ((c : ℕ) → has cats c ≡ true → p c ≡ true) → list_all p cats ≡ true
each_passes p [] each = refl
each_passes p (x ∷ cats) each =
    and_from (p x) (list_all p cats) (each x (or_left (nat_eq x x) (has cats x) (eq-eqb x x refl))) (each_passes p cats (λ c m. each c (or_right (nat_eq c x) (has cats c) m)))

pub in_words : (label : Label) → IsExpressible label → is_in_words label ≡ true
in_words label can = each_passes (λ c. nat_le c 1951) label.cats (λ c m. le-leb c 1951 (can c m))

pub expressible : (label : Label) → is_in_words label ≡ true → IsExpressible label
expressible label all = λ c m. leb-true c 1951 (passes_each (λ k. nat_le k 1951) label.cats c all m)

-- the test answers false
pub not_in_words : (label : Label) (answer : Bool) → answer ≡ false → IsTrue answer ↔ IsExpressible label → is_in_words label ≡ false
not_in_words label answer never tells = by_test (is_in_words label) refl where
  by_test : (b : Bool) → is_in_words label ≡ b → b ≡ false
  by_test false e = refl
  by_test true e = absurd (false≢true (sym never ∙ tells.1 (expressible label e)))

-- what the test makes of a label on the wire
pub calipso_goes : (doi : ℕ) (out : Label) → is_in_words out ≡ true → calipso_said doi (Ok out) ≡ Ok (Some (wire.Calipso 42 doi out))
calipso_goes doi out words = ap (λ b. if b then Ok (Some (wire.Calipso 42 doi out)) else Err Inexpressible) words

pub calipso_stays : (doi : ℕ) (out : Label) → is_in_words out ≡ false → calipso_said doi (Ok out) ≡ Err Inexpressible
calipso_stays doi out words = ap (λ b. if b then Ok (Some (wire.Calipso 42 doi out)) else Err Inexpressible) words

-- ---- CIPSO

-- the tag that is found fits
pub tag_fits : (tags : List Tag) (label : Label) (tag : Tag) → first_tag_of tags label ≡ Some tag → Fits tag label
tag_fits [] label tag found = absurd (none-some _ found)
tag_fits (t ∷ tags) label tag found = by_test (fits t label) refl found (tag_fits tags label tag) where
  by_test : (b : Bool) → fits t label ≡ b → cond b (Some t) (first_tag_of tags label) ≡ Some tag → (first_tag_of tags label ≡ Some tag → Fits tag label) → Fits tag label
  by_test true e first later = subst (λ x. Fits x label) (same_Some _ _ first) e
  by_test false e first later = later first
