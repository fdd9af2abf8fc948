-- Parts of a text between commas.
use Rattle.std.proofs.Common.{◌≡◌, ℕ, ◌+◌, ◌<◌, ◌≤◌, Bool, true, false, cond, List, [], ◌∷◌, length, take, drop, Some, None, refl, sym, ap, subst, ◌∙◌, arith, inl, inr, ne_eqb}
use Rattle.std.specs.Prelude.{◌==◌}
use Rattle.std.specs.List.{position, position_or_len, join_with_byte, list_all}
use Rattle.std.proofs.lemmas.Bool.{and_parts, cases_eq, ltb-true, ltb-false, false_from_ne_true, false≢true}
use Rattle.std.proofs.lemmas.List.Splits.{slice_split_first, slice_split_none, length-slice_split, join_with_byte-slice_split}
use Rattle.std.proofs.lemmas.List.Sums.{fails_before_first, AllPass-from_list_all}
use Rattle.std.proofs.lemmas.List.Elements.{All-from_get_or, All-weaker}
use Rattle.std.proofs.lemmas.Option.{none-some, cond_some}
use Rattle.mls_range.specs.LabelText.{comma}
use Rattle.domain_map.specs.address_text.Name.{is_name_octet, is_name}
use Rattle.label_commands.specs.flow_lines.HopText.{comma_parts}

abbrev pub is_comma : ℕ → Bool
is_comma octet = octet == comma

pub parts_cut : (text : List ℕ) (i : ℕ) → position is_comma text ≡ Some i → comma_parts text ≡ take i text ∷ comma_parts (drop (i + 1) text)
parts_cut text i e =
    let n = position_or_len is_comma text in
    let found = cond_some _ n i e in
    slice_split_first is_comma text 0 (ltb-true n (length text) found.0) ∙ ap (λ k. take k text ∷ comma_parts (drop (k + 1) text)) found.1

no_place : (b : Bool) (k : ℕ) → cond b (Some k) None ≡ None → b ≡ false
no_place true k e = absurd (none-some k (sym e))
no_place false k e = refl

pub parts_whole : (text : List ℕ) → position is_comma text ≡ None → comma_parts text ≡ text ∷ []
parts_whole text e =
    let n = position_or_len is_comma text in
    let all : length text ≤ n = ltb-false n (length text) (no_place _ n e) in
    slice_split_none is_comma text (All-from_get_or (λ c. is_comma c ≡ false) text 0 (λ k h. fails_before_first is_comma text k 0 (omega arith)))

pub some_parts : (text : List ℕ) → 0 < length (comma_parts text)
some_parts text = omega (arith, length-slice_split is_comma text)

pub joined_parts : (text : List ℕ) (parts : List (List ℕ)) → comma_parts text ≡ parts → join_with_byte comma parts ≡ text
joined_parts text parts e = sym (ap (join_with_byte comma) e) ∙ join_with_byte-slice_split comma text

-- a name has no comma

no_comma : (c : ℕ) → is_name_octet c ≡ true → is_comma c ≡ false
no_comma c is = elim (cases_eq c comma) [
  | inl e ↦ absurd (false≢true (subst (λ d. is_name_octet d ≡ true) e is))
  | inr ne ↦ ne_eqb c comma ne
]

pub name_alone : (text : List ℕ) → is_name text ≡ true → comma_parts text ≡ text ∷ []
name_alone text is =
    let fit = and_parts _ (list_all is_name_octet text) is in
    slice_split_none is_comma text (All-weaker (λ c. is_name_octet c ≡ true) (λ c. is_comma c ≡ false) no_comma text (AllPass-from_list_all is_name_octet text fit.1))

-- nor has what is in two parts one
pub two_parts_no_name : (text part next : List ℕ) (parts : List (List ℕ)) → comma_parts text ≡ part ∷ next ∷ parts → is_name text ≡ false
two_parts_no_name text part next parts e =
    false_from_ne_true (is_name text) (λ is. let same : length (part ∷ next ∷ parts) ≡ length (text ∷ []) = ap length (sym e ∙ name_alone text is) in omega (arith, same))
