-- A translated label, number by number.
use Rattle.std.proofs.Common.{◌≡◌, ℕ, Bool, true, false, ◌||◌, cond, nat_eq, List, [], ◌∷◌, Option, Some, None, Ok, is_none, refl, sym, ap, subst, ◌∙◌, inl, inr}
use Rattle.std.specs.List.{find, filter_map, cons_option}
use Rattle.std.proofs.lemmas.Bool.{cases_eq, eq-eqb, ne_eqb, false≢true}
use Rattle.mls_label.specs.declared.label.Label.{Label}
use Rattle.mls_label.specs.Cats.{has, IsCats}
use Rattle.mls_label.proofs.Law.{tests_give_sets, sets_of_a_test_have_what_passes, sets_are_what_they_have, sets_have_categories}
use Rattle.doi_table.specs.Pairs.{number_by}
use Rattle.doi_table.specs.Definition.{AreBelow}
use Rattle.doi_table.specs.Translation.{first_unmapped, mapped_cats, mapped_label, label_by}
use Rattle.doi_table.specs.GoesBy.{GoesBy}
use Rattle.doi_table.proofs.Translations.{number_within}

or_true : (a b : Bool) → b ≡ true → (a || b) ≡ true
or_true true b h = refl
or_true false b h = h

has_other : (k : ℕ) (cats : List ℕ) (c : ℕ) → (c ≡ k → ⊥) → has (k ∷ cats) c ≡ true → has cats c ≡ true
has_other k cats c ne h = sym (ap (λ b. b || has cats c) (ne_eqb c k ne)) ∙ h

has_first : (k : ℕ) (cats : List ℕ) (c : ℕ) → c ≡ k → has (k ∷ cats) c ≡ true
has_first k cats c e = ap (λ b. b || has cats c) (eq-eqb c k e)

-- ---- what a function gives for categories

module _ (f : ℕ → Option ℕ) where
  all_found : (cats : List ℕ) (c : ℕ) → find (λ k. is_none (f k)) cats ≡ None → has cats c ≡ true → (d : ℕ) × (f c ≡ Some d)
  all_found [] c none h = absurd (false≢true h)
  all_found (k ∷ cats) c none h =
      (elim (f k) as (λ r. f k ≡ r → (d : ℕ) × (f c ≡ Some d)) [
        | None ↦ λ e. let no : Some k ≡ None = sym (ap (λ r. cond (is_none r) (Some k) (find (λ n. is_none (f n)) cats)) e) ∙ none in absurd (cc)
        | Some d ↦ λ e. elim (cases_eq c k) [
          | inl same ↦ (d, ap f same ∙ e)
          | inr ne ↦ all_found cats c (sym (ap (λ r. cond (is_none r) (Some k) (find (λ n. is_none (f n)) cats)) e) ∙ none) (has_other k cats c ne h)
        ]
      ]) refl

  none_unmapped : (cats : List ℕ) → ((c : ℕ) → has cats c ≡ true → (d : ℕ) × (f c ≡ Some d)) → find (λ k. is_none (f k)) cats ≡ None
  none_unmapped [] all = refl
  none_unmapped (k ∷ cats) all =
      let here = all k (has_first k cats k refl) in
      ap (λ r. cond (is_none r) (Some k) (find (λ n. is_none (f n)) cats)) here.1
      ∙ none_unmapped cats (λ c h. all c (or_true (nat_eq c k) (has cats c) h))

  has_image : (cats : List ℕ) (c d : ℕ) → has cats c ≡ true → f c ≡ Some d → has (filter_map f cats) d ≡ true
  has_image [] c d h e = absurd (false≢true h)
  has_image (k ∷ cats) c d h e =
      elim (cases_eq c k) [
        | inl same ↦ ap (λ r. has (cons_option r (filter_map f cats)) d) (sym (ap f same) ∙ e) ∙ has_first d (filter_map f cats) d refl
        | inr ne ↦ behind (f k) (has_image cats c d (has_other k cats c ne h) e)
      ]
    where
      behind : (r : Option ℕ) → has (filter_map f cats) d ≡ true → has (cons_option r (filter_map f cats)) d ≡ true
      behind None h = h
      behind (Some x) h = or_true (nat_eq d x) (has (filter_map f cats) d) h

  image_has : (cats : List ℕ) (d : ℕ) → has (filter_map f cats) d ≡ true → (c : ℕ) × (has cats c ≡ true) × (f c ≡ Some d)
  image_has [] d h = absurd (false≢true h)
  image_has (k ∷ cats) d h =
      (elim (f k) as (λ r. f k ≡ r → (c : ℕ) × (has (k ∷ cats) c ≡ true) × (f c ≡ Some d)) [
        | None ↦ λ e.
            let rest = image_has cats d (sym (ap (λ r. has (cons_option r (filter_map f cats)) d) e) ∙ h) in
            (rest.0, or_true (nat_eq rest.0 k) (has cats rest.0) rest.1, rest.2)
        | Some x ↦ λ e. elim (cases_eq d x) [
          | inl same ↦ (k, has_first k cats k refl, e ∙ ap Some (sym same))
          | inr ne ↦
              let rest = image_has cats d (has_other x (filter_map f cats) d ne (sym (ap (λ r. has (cons_option r (filter_map f cats)) d) e) ∙ h)) in
              (rest.0, or_true (nat_eq rest.0 k) (has cats rest.0) rest.1, rest.2)
        ]
      ]) refl

-- ---- from the label to its numbers

pub record Made (levels cats : List (ℕ × ℕ)) (x y : Label) : Type 0 where
  pub level : number_by levels x.level ≡ Some y.level
  pub all : first_unmapped cats x.cats ≡ None
  pub set : y.cats ≡ mapped_cats cats x.cats

pub label_made : (levels cats : List (ℕ × ℕ)) (x y : Label) → label_by levels cats x ≡ Ok y → Made levels cats x y
label_made levels cats x y = by (number_by levels x.level) (first_unmapped cats x.cats) refl refl
  where
    by : (r s : Option ℕ) → number_by levels x.level ≡ r → first_unmapped cats x.cats ≡ s → mapped_label r s (mapped_cats cats x.cats) ≡ Ok y → Made levels cats x y
    by None s e f h = absurd (cc)
    by (Some l) (Some c) e f h = absurd (cc)
    by (Some l) None e f h =
        let made : Label = record { level = l; cats = mapped_cats cats x.cats } in
        let same : made ≡ y = cc in
        record { level = e ∙ ap (λ (z : Label). Some z.level) same; all = f; set = ap (λ (z : Label). z.cats) (sym same) }

pub goes : (levels cats : List (ℕ × ℕ)) (x y : Label) → AreBelow 65535 cats → label_by levels cats x ≡ Ok y → GoesBy (number_by levels) (number_by cats) x y
goes levels cats x y below h =
    let made = label_made levels cats x y h in
    let f = number_by cats in
    record {
      levels = made.level;
      onto = λ c hc.
          let found = all_found f x.cats c made.all hc in
          (found.0, found.1, ap (λ s. has s found.0) made.set ∙ sets_of_a_test_have_what_passes (has (filter_map f x.cats)) found.0 (number_within 65535 c found.0 cats below found.1) ∙ has_image f x.cats c found.0 hc found.1);
      from = λ d hd.
          let there : has (mapped_cats cats x.cats) d ≡ true = sym (ap (λ s. has s d) made.set) ∙ hd in
          let lt = sets_have_categories (mapped_cats cats x.cats) d (tests_give_sets (has (filter_map f x.cats))) there in
          image_has f x.cats d (sym (sets_of_a_test_have_what_passes (has (filter_map f x.cats)) d lt) ∙ there);
    }

pub label_set : (levels cats : List (ℕ × ℕ)) (x y : Label) → label_by levels cats x ≡ Ok y → IsCats y.cats
label_set levels cats x y h =
    subst IsCats (sym (label_made levels cats x y h).set) (tests_give_sets (has (filter_map (number_by cats) x.cats)))

-- ---- from the numbers to the label

both_ways : (a b : Bool) → (a ≡ true → b ≡ true) → (b ≡ true → a ≡ true) → a ≡ b
both_ways true b f g = sym (f refl)
both_ways false true f g = absurd (false≢true (g refl))
both_ways false false f g = refl

pub comes : (levels cats : List (ℕ × ℕ)) (x y : Label) → IsCats y.cats → GoesBy (number_by levels) (number_by cats) x y → label_by levels cats x ≡ Ok y
comes levels cats x y is by =
    let f = number_by cats in
    let set : y.cats ≡ mapped_cats cats x.cats =
    sets_are_what_they_have y.cats (has (filter_map f x.cats)) is (λ d lt. both_ways (has y.cats d) (has (filter_map f x.cats) d)
    (λ hd. let at = by.from d hd in has_image f x.cats at.0 d at.1 at.2)
    (λ hd.
    let at = image_has f x.cats d hd in
    let to = by.onto at.0 at.1 in
    let same : to.0 ≡ d = let is : Some to.0 ≡ Some d = sym to.1 ∙ at.2 in cc in
    subst (λ k. has y.cats k ≡ true) same to.2)) in
    ap (λ l. mapped_label l (first_unmapped cats x.cats) (mapped_cats cats x.cats)) by.levels
    ∙ ap (λ u. mapped_label (Some y.level) u (mapped_cats cats x.cats)) (none_unmapped f x.cats (λ c h. let to = by.onto c h in (to.0, to.1)))
    ∙ ap (λ s. mapped_label (Some y.level) None s) (sym set)

pub goes_back : (f g u v : ℕ → Option ℕ) (x y : Label) → ((n m : ℕ) → f n ≡ Some m → u m ≡ Some n) → ((n m : ℕ) → g n ≡ Some m → v m ≡ Some n) → GoesBy f g x y → GoesBy u v y x
goes_back f g u v x y levels cats by = record {
  levels = levels x.level y.level by.levels;
  onto = λ d hd. let at = by.from d hd in (at.0, cats at.0 d at.2, at.1);
  from = λ c hc. let to = by.onto c hc in (to.0, to.2, cats c to.0 to.1);
}

pub goes_same : (x y : Label) → x ≡ y → GoesBy (λ n. Some n) (λ n. Some n) x y
goes_same x y same = record {
  levels = ap (λ (z : Label). Some z.level) same;
  onto = λ c h. (c, refl, subst (λ (z : Label). has z.cats c ≡ true) same h);
  from = λ d h. (d, subst (λ (z : Label). has z.cats d ≡ true) (sym same) h, refl);
}
