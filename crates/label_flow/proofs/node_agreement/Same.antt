-- Differences of a pair of nodes: one is the first.
use Rattle.std.proofs.Common.{◌≡◌, ℕ, ◌<◌, ◌≤◌, Bool, true, false, ◌&&◌, ◌||◌, nat_eq, nat_lt, Option, Some, refl, sym, ap, ◌∙◌, arith, inl, inr}
use Rattle.std.proofs.lemmas.Bool.{cases_eq, cases_lt, eq-eqb, le-ltb, lt-ltb, false≢true}
use Rattle.mls_label.specs.declared.label.Proto.{Proto}
use Rattle.mls_label.specs.declared.label.Proto.TheVariants.{Cipso, Calipso}
use Rattle.label_commands.specs.node_readings.Reading.{NamedMeanings}
use Rattle.node_tables.specs.Tables.{TableState}
use Rattle.label_flow.specs.declared.node_agreement.disagree.Disagree.{Disagree}
use Rattle.label_flow.specs.node_agreement.Meanings.{meaning_at}
use Rattle.label_flow.specs.node_agreement.First.{place_of_proto, place_of_kind, is_lower, IsDifferenceBelow, IsFirstBelow}

lower_same : (a b : ℕ) (rest : Bool) → a ≡ b → is_lower a b rest ≡ rest
lower_same a b rest e = (λ i. le-ltb a b (omega (arith, e)) i || (eq-eqb a b e i && rest))

-- numbers of which neither is lower are the same, and the rest decides
neither : (a b : ℕ) (rest other : Bool) → is_lower a b rest ≡ false → is_lower b a other ≡ false → (a ≡ b) × (rest ≡ false) × (other ≡ false)
neither a b rest other h k =
    elim (cases_eq a b) [
      | inl e ↦ (e, sym (lower_same a b rest e) ∙ h, sym (lower_same b a other (sym e)) ∙ k)
      | inr ne ↦ absurd (elim (cases_lt a b) [
        | inl lt ↦ false≢true (sym h ∙ ap (λ x. x || (nat_eq a b && rest)) (lt-ltb a b lt))
        | inr le ↦ let lt : b < a = omega (arith, le, ne) in false≢true (sym k ∙ ap (λ x. x || (nat_eq b a && other)) (lt-ltb b a lt))
      ])
    ]

same_proto : (a b : Proto) → place_of_proto a ≡ place_of_proto b → a ≡ b
same_proto Cipso Cipso e = refl
same_proto Cipso Calipso e = absurd (omega (arith, e))
same_proto Calipso Cipso e = absurd (omega (arith, e))
same_proto Calipso Calipso e = refl

same_kind : (a b : Bool) → place_of_kind a ≡ place_of_kind b → a ≡ b
same_kind true true e = refl
same_kind true false e = absurd (omega (arith, e))
same_kind false true e = absurd (omega (arith, e))
same_kind false false e = refl

same_wire : (a b : ℕ) → nat_lt a b ≡ false → nat_lt b a ≡ false → a ≡ b
same_wire a b h k =
    elim (cases_eq a b) [
      | inl e ↦ e
      | inr ne ↦ absurd (elim (cases_lt a b) [
        | inl lt ↦ false≢true (sym h ∙ lt-ltb a b lt)
        | inr le ↦ let lt : b < a = omega (arith, le, ne) in false≢true (sym k ∙ lt-ltb b a lt)
      ])
    ]

one_some : (a b : ℕ) (r : Option ℕ) → r ≡ Some a → r ≡ Some b → a ≡ b
one_some a b r h k = let is : Some a ≡ Some b = sym h ∙ k in cc

pub one_first : (below : Proto → Bool → ℕ) (left right : TableState) (left_named right_named : NamedMeanings) (d e : Disagree) → IsFirstBelow below left right left_named right_named d → IsFirstBelow below left right left_named right_named e → d ≡ e
one_first below left right left_named right_named d e of_d of_e =
    let p = neither (place_of_proto d.proto) (place_of_proto e.proto) _ _ (of_e.first d of_d.difference) (of_d.first e of_e.difference) in
    let q = neither d.doi e.doi _ _ p.1 p.2 in
    let k = neither (place_of_kind d.level) (place_of_kind e.level) _ _ q.1 q.2 in
    let proto = same_proto d.proto e.proto p.0 in
    let level = same_kind d.level e.level k.0 in
    let wire = same_wire d.wire e.wire k.1 k.2 in
    let left_is = one_some d.left e.left (meaning_at left left_named e.proto e.doi e.level e.wire) (sym (λ i. meaning_at left left_named (proto i) (q.0 i) (level i) (wire i)) ∙ of_d.difference.left_means) of_e.difference.left_means in
    let right_is = one_some d.right e.right (meaning_at right right_named e.proto e.doi e.level e.wire) (sym (λ i. meaning_at right right_named (proto i) (q.0 i) (level i) (wire i)) ∙ of_d.difference.right_means) of_e.difference.right_means in
    (λ i. record { proto = proto i; doi = q.0 i; level = level i; wire = wire i; left = left_is i; right = right_is i })

-- a difference of fewer numbers is one of more
pub widened : (below wide : Proto → Bool → ℕ) (left right : TableState) (left_named right_named : NamedMeanings) (d : Disagree) → ((proto : Proto) (level : Bool) → below proto level ≤ wide proto level) → IsDifferenceBelow below left right left_named right_named d → IsDifferenceBelow wide left right left_named right_named d
widened below wide left right left_named right_named d fewer of_d = record {
  carried = omega (arith, of_d.carried, fewer d.proto d.level);
  left_means = of_d.left_means;
  right_means = of_d.right_means;
  differ = of_d.differ;
}
