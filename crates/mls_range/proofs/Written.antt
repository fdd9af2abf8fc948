-- Terms behind separators.
use Rattle.std.proofs.Common.{◌≡◌, ℕ, ◌+◌, List, [], ◌∷◌, ◌++◌, map, take, refl, sym, ap, ◌∙◌, append_assoc, Some, cond, inl, inr}
use Rattle.std.specs.List.{flat_map, join_with_byte, slice_get}
use Rattle.std.proofs.lemmas.List.{append-nil, take_more}
use Rattle.std.proofs.lemmas.List.Concat.{flat_map-append}
use Rattle.std.proofs.lemmas.Option.{slice_get_within, get_or_from_slice_get}
use Rattle.std.proofs.lemmas.Bool.{cases_eq, eq-eqb, ne_eqb}
use Rattle.mls_range.specs.LabelText.{term_text, terms_text, terms_of_run}
use Rattle.mls_range.specs.inside.Rest.{separated, Extends}

joined_is : (t : ℕ × ℕ) (ts : List (ℕ × ℕ)) → join_with_byte 44 (map term_text (t ∷ ts)) ≡ term_text t ++ separated 44 ts
joined_is t [] = sym (append-nil (term_text t))
joined_is t (u ∷ us) = ap (λ x. term_text t ++ 44 ∷ x) (joined_is u us)

pub terms_text_is : (ts : List (ℕ × ℕ)) → terms_text ts ≡ separated 58 ts
terms_text_is [] = refl
terms_text_is (t ∷ ts) = ap (λ x. 58 ∷ x) (joined_is t ts)

-- the separator of the next term
abbrev pub next_separator : ℕ → List (ℕ × ℕ) → ℕ
next_separator s [] = s
next_separator s (t ∷ ts) = 44

pub separated-append : (s : ℕ) (xs ys : List (ℕ × ℕ)) → separated s (xs ++ ys) ≡ separated s xs ++ separated (next_separator s xs) ys
separated-append s [] ys = refl
separated-append s (x ∷ []) ys = ap (λ t. s ∷ t) (ap (λ t. t ++ separated 44 ys) (sym (append-nil (term_text x))))
separated-append s (x ∷ y ∷ xs) ys =
    ap (λ t. s ∷ (term_text x ++ t)) (separated-append 44 (y ∷ xs) ys) ∙ ap (λ t. s ∷ t) (sym (append_assoc (term_text x) (separated 44 (y ∷ xs)) (separated 44 ys)))

flat_map-push : {A B : Type 0} (f : A → List B) (xs : List A) (x : A) → flat_map f (xs ++ x ∷ []) ≡ flat_map f xs ++ f x
flat_map-push f xs x = flat_map-append f xs (x ∷ []) ∙ ap (λ t. flat_map f xs ++ t) (append-nil (f x))

take_next : {A : Type 0} (xs : List A) (i : ℕ) (x : A) → slice_get xs i ≡ Some x → take (i + 1) xs ≡ take i xs ++ x ∷ []
take_next xs i x e =
    take_more xs i x (slice_get_within xs i x e) ∙ ap (λ y. take i xs ++ y ∷ []) (get_or_from_slice_get xs i x x e)

-- the terms of the first runs
abbrev pub front_terms : List (ℕ × ℕ) → ℕ → List (ℕ × ℕ)
front_terms runs i = flat_map terms_of_run (take i runs)

terms_some : (run : ℕ × ℕ) → (t : ℕ × ℕ) × (ts : List (ℕ × ℕ)) × (terms_of_run run ≡ t ∷ ts)
terms_some run =
    elim (cases_eq (run.0 + 1) run.1) [
      | inl e ↦ ((run.0, run.0), (run.1, run.1) ∷ [], ap (λ b. cond b ((run.0, run.0) ∷ (run.1, run.1) ∷ []) (run ∷ [])) (eq-eqb (run.0 + 1) run.1 e))
      | inr ne ↦ (run, [], ap (λ b. cond b ((run.0, run.0) ∷ (run.1, run.1) ∷ []) (run ∷ [])) (ne_eqb (run.0 + 1) run.1 ne))
    ]

next_some : (s : ℕ) (ts us : List (ℕ × ℕ)) (u : ℕ × ℕ) → next_separator s (ts ++ u ∷ us) ≡ 44
next_some s [] us u = refl
next_some s (t ∷ ts) us u = refl

next_front : (s : ℕ) (ts : List (ℕ × ℕ)) (run : ℕ × ℕ) → next_separator s (ts ++ terms_of_run run) ≡ 44
next_front s ts run =
    let t = terms_some run in
    ap (λ us. next_separator s (ts ++ us)) t.2 ∙ next_some s ts t.1 t.0

pub front_more : (runs : List (ℕ × ℕ)) (i : ℕ) (run : ℕ × ℕ) → slice_get runs i ≡ Some run → (separated 58 (front_terms runs (i + 1)) ≡ separated 58 (front_terms runs i) ++ separated (next_separator 58 (front_terms runs i)) (terms_of_run run)) × (next_separator 58 (front_terms runs (i + 1)) ≡ 44)
front_more runs i run e =
    let is : front_terms runs (i + 1) ≡ front_terms runs i ++ terms_of_run run =
    ap (flat_map terms_of_run) (take_next runs i run e) ∙ flat_map-push terms_of_run (take i runs) run in
    (ap (separated 58) is ∙ separated-append 58 (front_terms runs i) (terms_of_run run), ap (next_separator 58) is ∙ next_front 58 (front_terms runs i) run)

pub extends_on : (a b c d : List ℕ) → b ≡ a ++ c → Extends b d → Extends a d
extends_on a b c d e x = record { more = c ++ x.more; is = x.is ∙ ap (λ t. t ++ x.more) e ∙ append_assoc a c x.more }
