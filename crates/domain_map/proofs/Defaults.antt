-- The value of a name, or else the default one, found from the front.
use Rattle.std.proofs.Common.{◌≡◌, ℕ, zero, suc, ◌+◌, Bool, true, false, cond, List, [], ◌∷◌, take, drop, slice_get, Some, None, Option, sym, ap, ◌∙◌, add-one}
use Rattle.std.specs.Option.{option_or}
use Rattle.std.specs.Map.{lookup, keys_of}
use Rattle.std.specs.List.{IsDistinct}
use Rattle.std.proofs.lemmas.Option.{none-some, same_Some}
use Rattle.domain_map.specs.Domains.{Domain, same_domain}
use Rattle.domain_map.proofs.Rules.{drop_step, same_domain-sym, all_at}

module _ {X : Type 0} (es : List (Domain × X)) (i : ℕ) (key : Domain) (x : X) (is : slice_get es i ≡ Some (key, x)) where
  named_at : (test : Domain → Bool) → lookup test (drop i es) ≡ cond (test key) (Some x) (lookup test (drop (suc i) es))
  named_at test = ap (lookup test) (drop_step es i (key, x) is)

  -- an entry that hasn't the name is passed
  pub named_past : (test : Domain → Bool) → test key ≡ false → lookup test es ≡ lookup test (drop i es) → lookup test es ≡ lookup test (drop (i + 1) es)
  named_past test other before =
      before ∙ named_at test ∙ ap (λ hit. cond hit (Some x) (lookup test (drop (suc i) es))) other ∙ ap (λ n. lookup test (drop n es)) (sym (add-one i))

  -- the entry that has it
  pub named_here : (test : Domain → Bool) → test key ≡ true → lookup test es ≡ lookup test (drop i es) → Some x ≡ option_or (lookup test es) (lookup (same_domain None) es)
  named_here test hit before =
      sym (ap (λ found. option_or found (lookup (same_domain None) es)) (before ∙ named_at test ∙ ap (λ hit. cond hit (Some x) (lookup test (drop (suc i) es))) hit))

abbrev default_of : {X : Type 0} → List (Domain × X) → Option X
default_of es = lookup (same_domain None) es

past : {X : Type 0} (es : List (Domain × X)) (i : ℕ) (own : List ℕ) (x : X) → slice_get es i ≡ Some (Some own, x) → default_of (take i es) ≡ default_of (take (suc i) es)
past [] i own x is = absurd (none-some (Some own, x) is)
past (e ∷ es) zero own x is = sym (ap (λ z. default_of (z ∷ [])) (same_Some e (Some own, x) is))
past (e ∷ es) (suc i) own x is = ap (λ rest. cond (same_domain None e.0) (Some e.1) rest) (past es i own x is)

here : {X : Type 0} (es : List (Domain × X)) (i : ℕ) (x : X) → IsDistinct same_domain (keys_of es) → slice_get es i ≡ Some (None, x) → Some x ≡ default_of (take (suc i) es)
unfolding IsDistinct
here [] i x unique is = absurd (none-some (None, x) is)
here (e ∷ es) zero x unique is = sym (ap (λ z. default_of (z ∷ [])) (same_Some e (None, x) is))
here (e ∷ es) (suc i) x unique is =
    let other : same_domain None e.0 ≡ false = same_domain-sym None e.0 ∙ all_at (λ y. same_domain e.0 y ≡ false) es i None x unique.0 is in
    here es i x unique.1 is ∙ sym (ap (λ hit. cond hit (Some e.1) (default_of (take (suc i) es))) other)

-- an entry with a name leaves the default one as it is
pub default_past : {X : Type 0} (es : List (Domain × X)) (i : ℕ) (own : List ℕ) (x : X) → slice_get es i ≡ Some (Some own, x)
    → lookup (same_domain None) (take i es) ≡ lookup (same_domain None) (take (i + 1) es)
default_past es i own x is = past es i own x is ∙ ap (λ n. default_of (take n es)) (sym (add-one i))

-- the default entry is the first one, since no key is there twice
pub default_here : {X : Type 0} (es : List (Domain × X)) (i : ℕ) (x : X) → IsDistinct same_domain (keys_of es) → slice_get es i ≡ Some (None, x)
    → Some x ≡ lookup (same_domain None) (take (i + 1) es)
default_here es i x unique is = here es i x unique is ∙ ap (λ n. default_of (take n es)) (sym (add-one i))
