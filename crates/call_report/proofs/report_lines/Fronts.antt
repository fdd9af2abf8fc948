-- Fronts of texts, and the one written form of a label by its runs.
use Rattle.std.proofs.Common.{◌≡◌, ◌∙◌, ℕ, suc, ◌<◌, ◌+◌, true, false, List, [], ◌∷◌, ◌++◌, length, drop, drop-cons, flat_map, map, Option, Some, None, refl, sym, ap, subst, append_assoc, arith}
use Rattle.std.specs.Prelude.{◌==◌, ◌&&◌, ◌≢◌, slice_get, if◌then◌else◌}
use Rattle.std.specs.List.{join_with_byte}
use Rattle.std.specs.Str.{bytes_eq}
use Rattle.std.proofs.lemmas.Bool.{false_from_ne_true}
use Rattle.std.proofs.lemmas.Bool.Decides.{Decides-eqb}
use Rattle.std.proofs.lemmas.List.{append-nil, map-append}
use Rattle.std.proofs.lemmas.Option.{slice_get_within, get_or_from_slice_get}
use Rattle.mls_range.specs.LabelText.{comma, term_text, terms_of_run, terms_text}
use Rattle.call_report.specs.report_lines.inside.Fronts.{after_text, category_text, run_text, runs_text}

-- ---- a text behind a front

module _ (more : List ℕ) where
  pub after_both : (front text rest : List ℕ) → after_text front text ≡ Some rest → after_text (front ++ more) text ≡ after_text more rest
  after_both [] text rest is = ap (after_text more) (cc)
  after_both (octet ∷ front) [] rest is = absurd (cc)
  after_both (octet ∷ front) (first ∷ text) rest is =
      elim (first == octet) as (λ b. ◌≡◌ {A = Option (List ℕ)} (if b then after_text front text else None) (Some rest) → ◌≡◌ {A = Option (List ℕ)} (if b then after_text (front ++ more) text else None) (after_text more rest)) [
        | true ↦ λ so. after_both front text rest so
        | false ↦ λ none. absurd (cc)
      ] is

  pub not_after : (front text : List ℕ) → after_text front text ≡ None → after_text (front ++ more) text ≡ None
  not_after [] text is = absurd (cc)
  not_after (octet ∷ front) [] is = refl
  not_after (octet ∷ front) (first ∷ text) is =
      elim (first == octet) as (λ b. ◌≡◌ {A = Option (List ℕ)} (if b then after_text front text else None) None → ◌≡◌ {A = Option (List ℕ)} (if b then after_text (front ++ more) text else None) None) [
        | true ↦ λ so. not_after front text so
        | false ↦ λ none. refl
      ] is

  pub equal_after : (front text rest : List ℕ) → after_text front text ≡ Some rest → bytes_eq text (front ++ more) ≡ bytes_eq rest more
  equal_after [] text rest is = ap (λ t. bytes_eq t more) (cc)
  equal_after (octet ∷ front) [] rest is = absurd (cc)
  equal_after (octet ∷ front) (first ∷ text) rest is =
      elim (first == octet) as (λ b. ◌≡◌ {A = Option (List ℕ)} (if b then after_text front text else None) (Some rest) → (b && bytes_eq text (front ++ more)) ≡ bytes_eq rest more) [
        | true ↦ λ so. equal_after front text rest so
        | false ↦ λ none. absurd (cc)
      ] is

  pub unequal_after : (front text : List ℕ) → after_text front text ≡ None → bytes_eq text (front ++ more) ≡ false
  unequal_after [] text is = absurd (cc)
  unequal_after (octet ∷ front) [] is = refl
  unequal_after (octet ∷ front) (first ∷ text) is =
      elim (first == octet) as (λ b. ◌≡◌ {A = Option (List ℕ)} (if b then after_text front text else None) None → (b && bytes_eq text (front ++ more)) ≡ false) [
        | true ↦ λ so. unequal_after front text so
        | false ↦ λ none. refl
      ] is

-- ---- the terms of a run

self : (n : ℕ) → (n == n) ≡ true
self n = (Decides-eqb n n).1 refl

-- a run of more than one category is two of them, with what is between
pub run_parts : (a b : ℕ) → a ≢ b → run_text (a, b) ≡ category_text a ++ (if a + 1 == b then 44 else 46) ∷ category_text b
run_parts a b other =
    let lone : (a == b) ≡ false = false_from_ne_true (a == b) (λ e. other ((Decides-eqb a b).0 e)) in
    elim (a + 1 == b) as (λ t. join_with_byte comma (map term_text (if t then (a, a) ∷ (b, b) ∷ [] else (a, b) ∷ [])) ≡ category_text a ++ (if t then 44 else 46) ∷ category_text b) [
      | true ↦ rw (self a, self b) refl
      | false ↦ rw lone refl
    ]

-- ---- the terms of runs

pub run_there : (runs : List (ℕ × ℕ)) (i : ℕ) (run : ℕ × ℕ) → slice_get runs i ≡ Some run → drop i runs ≡ run ∷ drop (i + 1) runs
run_there runs i run is =
    let next : suc i ≡ i + 1 = omega arith in
    drop-cons runs i run (slice_get_within runs i run is) ∙ ap (λ r. r ∷ drop (suc i) runs) (get_or_from_slice_get runs i run run is) ∙ ap (λ k. run ∷ drop k runs) next

join_both : (xs ys : List (List ℕ)) → 0 < length xs → 0 < length ys → join_with_byte comma (xs ++ ys) ≡ join_with_byte comma xs ++ comma ∷ join_with_byte comma ys
join_both [] ys some more = absurd (omega (arith, some))
join_both (x ∷ []) [] some more = absurd (omega (arith, more))
join_both (x ∷ []) (y ∷ ys) some more = refl
join_both (x ∷ next ∷ xs) ys some more =
    ap (λ t. x ++ comma ∷ t) (join_both (next ∷ xs) ys (omega arith) more) ∙ sym (append_assoc x (comma ∷ join_with_byte comma (next ∷ xs)) (comma ∷ join_with_byte comma ys))

abbrev join_terms : List (ℕ × ℕ) → List ℕ
join_terms terms = join_with_byte comma (map term_text terms)

some_terms : (run : ℕ × ℕ) (terms : List (ℕ × ℕ)) → 0 < length (map term_text (terms_of_run run ++ terms))
some_terms run terms = elim (run.0 + 1 == run.1) as (λ b. 0 < length (map term_text ((if b then (run.0, run.0) ∷ (run.1, run.1) ∷ [] else run ∷ []) ++ terms))) [
  | true ↦ omega arith
  | false ↦ omega arith
]

join_runs : (run : ℕ × ℕ) (runs : List (ℕ × ℕ)) → join_terms (flat_map terms_of_run (run ∷ runs)) ≡ run_text run ++ runs_text comma runs
join_runs run [] = ap join_terms (append-nil (terms_of_run run)) ∙ sym (append-nil (run_text run))
join_runs run (next ∷ runs) =
    let first : 0 < length (map term_text (terms_of_run run)) = subst (λ (ts : List (ℕ × ℕ)). 0 < length (map term_text ts)) (append-nil (terms_of_run run)) (some_terms run []) in
    ap (join_with_byte comma) (map-append term_text (terms_of_run run) (flat_map terms_of_run (next ∷ runs)))
    ∙ join_both (map term_text (terms_of_run run)) (map term_text (flat_map terms_of_run (next ∷ runs))) first (some_terms next (flat_map terms_of_run runs))
    ∙ ap (λ t. run_text run ++ comma ∷ t) (join_runs next runs)

terms_joined : (terms : List (ℕ × ℕ)) → 0 < length (map term_text terms) → terms_text terms ≡ 58 ∷ join_terms terms
terms_joined [] some = absurd (omega (arith, some))
terms_joined (term ∷ terms) some = refl

pub runs_written : (runs : List (ℕ × ℕ)) → terms_text (flat_map terms_of_run runs) ≡ runs_text 58 runs
runs_written [] = refl
runs_written (run ∷ runs) = terms_joined (flat_map terms_of_run (run ∷ runs)) (some_terms run (flat_map terms_of_run runs)) ∙ ap (λ t. 58 ∷ t) (join_runs run runs)
