-- A label that goes from one node to another, number by number.
use Rattle.std.proofs.Common.{◌≡◌, ℕ, ◌<◌, Bool, true, false, ◌||◌, nat_eq, List, [], ◌∷◌, map, Some, IsTrue, refl, sym, ap, subst, ◌∙◌, inl, inr}
use Rattle.std.specs.List.{list_any}
use Rattle.std.specs.Prelude.{option_map, option_and_then}
use Rattle.std.specs.Cmp.{nat_cmp_total}
use Rattle.std.specs.Ordering.{nat_cmp}
use Rattle.std.specs.FinSet as set
use Rattle.std.proofs.lemmas.Map.Lookups.{exact_unsigned}
use Rattle.std.proofs.lemmas.Bool.{cases_eq, eq-eqb, ne_eqb, and_parts, or_left, or_right, false≢true}
use Rattle.mls_label.specs.declared.label.Label.{Label}
use Rattle.mls_label.specs.declared.label.Proto.{Proto}
use Rattle.mls_label.specs.Cats.{has}
use Rattle.doi_table.specs.declared.plan.DoiPlan.{DoiPlan}
use Rattle.doi_table.specs.Pairs.{flipped, is_one_to_one}
use Rattle.doi_table.specs.Definition.{IsDefinition, number_in}
use Rattle.doi_table.specs.GoesBy.{GoesBy}
use Rattle.doi_table.specs.Table.{definition_of}
use Rattle.doi_table.proofs.Law.{pairs_lead_back}
use Rattle.label_commands.specs.node_readings.Reading.{NamedMeanings, meaning_in}
use Rattle.label_commands.specs.node_readings.Meaning.{meaning_of}
use Rattle.node_tables.specs.Tables.{TableState}
use Rattle.label_flow.specs.node_agreement.Meanings.{wire_meaning, carried_below}
use Rattle.label_flow.specs.node_agreement.Agreement.{Agree}

-- ---- the set of what a list's numbers become

module _ (f : ℕ → ℕ) where
  abbrev pub image : List ℕ → set.FinSet nat_cmp
  image ns = set.from_list (map f ns)

  image_has : (ns : List ℕ) (n : ℕ) → has ns n ≡ true → set.contains (image ns) (f n) ≡ true
  image_has ns n h = set.contains-from_list_nat (map f ns) (f n) ∙ among ns h
    where
      among : (ms : List ℕ) → has ms n ≡ true → list_any (λ y. nat_eq y (f n)) (map f ms) ≡ true
      among [] h = absurd (false≢true h)
      among (m ∷ ms) h =
          elim (cases_eq n m) [
            | inl e ↦ or_left (nat_eq (f m) (f n)) (list_any (λ y. nat_eq y (f n)) (map f ms)) (eq-eqb (f m) (f n) (ap f (sym e)))
            | inr ne ↦ or_right (nat_eq (f m) (f n)) (list_any (λ y. nat_eq y (f n)) (map f ms)) (among ms (sym (ap (λ b. b || has ms n) (ne_eqb n m ne)) ∙ h))
          ]

  has_image : (ns : List ℕ) (k : ℕ) → set.contains (image ns) k ≡ true → (n : ℕ) × (has ns n ≡ true) × (f n ≡ k)
  has_image ns k h = among ns (sym (set.contains-from_list_nat (map f ns) k) ∙ h)
    where
      among : (ms : List ℕ) → list_any (λ y. nat_eq y k) (map f ms) ≡ true → (n : ℕ) × (has ms n ≡ true) × (f n ≡ k)
      among [] h = absurd (false≢true h)
      among (m ∷ ms) h =
          elim (cases_eq (f m) k) [
            | inl e ↦ (m, or_left (nat_eq m m) (has ms m) (eq-eqb m m refl), e)
            | inr ne ↦
                let rest = among ms (sym (ap (λ b. b || list_any (λ y. nat_eq y k) (map f ms)) (ne_eqb (f m) k ne)) ∙ h) in
                (rest.0, or_right (nat_eq rest.0 m) (has ms rest.0) rest.1, rest.2)
          ]

both_ways : (a b : Bool) → (a ≡ true → b ≡ true) → (b ≡ true → a ≡ true) → a ≡ b
both_ways true b f g = sym (f refl)
both_ways false true f g = g refl
both_ways false false f g = refl

-- lists whose numbers become the same have one set
one_image : (f g : ℕ → ℕ) (ns ms : List ℕ) → ((n : ℕ) → has ns n ≡ true → (m : ℕ) × (has ms m ≡ true) × (g m ≡ f n)) → ((m : ℕ) → has ms m ≡ true → (n : ℕ) × (has ns n ≡ true) × (f n ≡ g m)) → image f ns ≡ image g ms
one_image f g ns ms there back =
    set.same_set nat_cmp_total exact_unsigned (image f ns) (image g ms) (λ k.
    both_ways (set.contains (image f ns) k) (set.contains (image g ms) k)
    (λ h.
    let n = has_image f ns k h in
    let m = there n.0 n.1 in
    subst (λ j. set.contains (image g ms) j ≡ true) (m.2 ∙ n.2) (image_has g ms m.0 m.1))
    (λ h.
    let m = has_image g ms k h in
    let n = back m.0 m.1 in
    subst (λ j. set.contains (image f ns) j ≡ true) (n.2 ∙ m.2) (image_has f ns n.0 n.1)))

-- ---- numbers there and back

leads_back : (trans : Bool) (pairs : List (ℕ × ℕ)) (n m : ℕ) → IsTrue (is_one_to_one pairs) → number_in trans pairs n ≡ Some m → number_in trans (flipped pairs) m ≡ Some n
leads_back true pairs n m once e = pairs_lead_back pairs n m once e
leads_back false pairs n m once e = let same : n ≡ m = cc in ap Some (sym same)

module _ (left right : TableState) (left_named right_named : NamedMeanings) (proto : Proto) (doi : ℕ) (a b : DoiPlan) (at_left : definition_of left.definitions proto doi ≡ Some a) (at_right : definition_of right.definitions proto doi ≡ Some b) (is : IsDefinition a) (agree : Agree left right left_named right_named) where
  one_meaning : (level : Bool) (wire m n : ℕ) → wire < carried_below proto level → wire_meaning level a left_named wire ≡ Some m → wire_meaning level b right_named wire ≡ Some n → m ≡ n
  one_meaning level wire m n lt em en =
      agree proto doi level wire m n lt
      (ap (option_and_then (λ p. wire_meaning level p left_named wire)) at_left ∙ em)
      (ap (option_and_then (λ p. wire_meaning level p right_named wire)) at_right ∙ en)

  once : IsTrue (is_one_to_one a.levels) × IsTrue (is_one_to_one a.cats)
  once = and_parts (is_one_to_one a.levels) (is_one_to_one a.cats) is.one_to_one

  level_kept : (x wire y : ℕ) → wire < 256 → number_in a.trans a.levels x ≡ Some wire → number_in b.trans (flipped b.levels) wire ≡ Some y → meaning_in right_named.levels y ≡ meaning_in left_named.levels x
  level_kept x wire y lt out home =
      sym (one_meaning true wire (meaning_in left_named.levels x) (meaning_in right_named.levels y) lt
      (ap (option_map (meaning_in left_named.levels)) (leads_back a.trans a.levels x wire once.0 out))
      (ap (option_map (meaning_in right_named.levels)) home))

  category_kept : (x wire y : ℕ) → wire < carried_below proto false → number_in a.trans a.cats x ≡ Some wire → number_in b.trans (flipped b.cats) wire ≡ Some y → meaning_in right_named.cats y ≡ meaning_in left_named.cats x
  category_kept x wire y lt out home =
      sym (one_meaning false wire (meaning_in left_named.cats x) (meaning_in right_named.cats y) lt
      (ap (option_map (meaning_in left_named.cats)) (leads_back a.trans a.cats x wire once.1 out))
      (ap (option_map (meaning_in right_named.cats)) home))

  pub meaning_kept : (x w y : Label) → w.level < 256 → ((c : ℕ) → IsTrue (has w.cats c) → c < carried_below proto false)
      → GoesBy (number_in a.trans a.levels) (number_in a.trans a.cats) x w → GoesBy (number_in b.trans (flipped b.levels)) (number_in b.trans (flipped b.cats)) w y
      → meaning_of right_named y ≡ meaning_of left_named x
  meaning_kept x w y lt carried out home =
      let level = level_kept x.level w.level y.level lt out.levels home.levels in
      let cats = one_image (meaning_in right_named.cats) (meaning_in left_named.cats) y.cats x.cats
      (λ d h.
      let c = home.from d h in
      let n = out.from c.0 c.1 in
      (n.0, n.1, sym (category_kept n.0 c.0 d (carried c.0 c.1) n.2 c.2)))
      (λ n h.
      let c = out.onto n h in
      let d = home.onto c.0 c.2 in
      (d.0, d.2, category_kept n c.0 d.0 (carried c.0 c.2) c.1 d.1)) in
      (λ i. record { level = level i; cats = cats i })
