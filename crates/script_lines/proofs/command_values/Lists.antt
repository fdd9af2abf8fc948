-- Lists with commas between their entries.
use Rattle.std.proofs.Common.{◌≡◌, ℕ, ◌-◌, ◌≤◌, List, [], ◌∷◌, ◌++◌, length, get_or, take, drop, Option, Result, Ok, Err, sym, ap, ◌∙◌, arith, append_assoc, append-nil}
use Rattle.std.specs.Prelude.{option_map, OnErr}
use Rattle.std.specs.List.{flat_map}
use Rattle.std.proofs.lemmas.List.{take_all, take_rest}
use Rattle.script_lines.specs.command_values.List.{list_text}
use Rattle.script_lines.specs.command_values.inside.Extends.{Extends}

-- entries in front of those that may come
abbrev pub in_front : {X : Type 0} → List X → Option (List X) → Option (List X)
in_front xs more = option_map (λ ys. xs ++ ys) more

-- the first entry, then each behind a comma
list_text-cons : {X : Type 0} (text_of : X → List ℕ) (x : X) (xs : List X) → list_text text_of (x ∷ xs) ≡ text_of x ++ flat_map (λ y. 44 ∷ text_of y) xs
list_text-cons text_of x [] = sym (append-nil (text_of x))
list_text-cons text_of x (y ∷ ys) = ap (λ t. text_of x ++ (44 ∷ t)) (list_text-cons text_of y ys)

-- what stands there once all entries are written
pub all_written : {X : Type 0} (text_of : X → List ℕ) (xs : List X) (x : X) (k : ℕ) (old one all : List ℕ) → 1 ≤ length xs → x ≡ get_or xs 0 x
    → length (take (length xs - 1) (drop 1 xs)) ≤ k → one ≡ old ++ text_of x → all ≡ one ++ flat_map (λ y. 44 ∷ text_of y) (take k (take (length xs - 1) (drop 1 xs))) → all ≡ old ++ list_text text_of xs
all_written text_of [] x k old one all some first whole written is = absurd (omega arith)
all_written text_of (y ∷ ys) x k old one all some first whole written is =
    let rest = take (length (y ∷ ys) - 1) (drop 1 (y ∷ ys)) in
    let others = flat_map (λ z. 44 ∷ text_of z) in
    is ∙ ap (λ zs. one ++ others zs) (take_all k rest whole ∙ take_rest (y ∷ ys) 1) ∙ ap (λ t. t ++ others ys) written
    ∙ append_assoc old (text_of x) (others ys) ∙ ap (λ z. old ++ (text_of z ++ others ys)) first ∙ ap (λ t. old ++ t) (sym (list_text-cons text_of y ys))

-- a writer that fails in a later step has left what the earlier ones wrote
pub left_by_push : {T E : Type 0} (r : Result T E) (old one all new more : List ℕ) → one ≡ old ++ more → all ≡ one ++ new → OnErr r (Extends old all)
left_by_push (Ok x) old one all new more first then = tt
left_by_push (Err e) old one all new more first then = record { more = more ++ new; is = then ∙ ap (λ t. t ++ new) first ∙ append_assoc old more new }
