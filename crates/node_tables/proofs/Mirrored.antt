-- Pairs kept from both sides.
use Rattle.std.proofs.Common.{◌≡◌, ℕ, zero, suc, ◌+◌, ◌<◌, true, false, ◌||◌, List, [], ◌∷◌, ◌++◌, length, Option, Some, None, Ok, is_some, IsSome, option_to_list, refl, sym, ap, ◌∙◌, arith}
use Rattle.std.specs.Prelude.{nat_le, remove}
use Rattle.std.specs.Map.{lookup}
use Rattle.std.specs.Str.{bytes_eq}
use Rattle.std.proofs.lemmas.Bool.{cond-false, lt-leb, or_from, false≢true}
use Rattle.std.proofs.lemmas.List.{map_push, length_push, same_from_push}
use Rattle.indexmap.specs.IndexMap.{insert_entry}
use Rattle.node_tables.specs.Tables.{AddressPairs, six_of, four_of, swapped}
use Rattle.node_tables.specs.Change.{pair_added}
use Rattle.node_tables.proofs.Entries.{inserted_last}

-- one more pair on both sides
pub mirrored_push : (sixes fours new_sixes new_fours : AddressPairs) (four six : List ℕ) → fours ≡ swapped sixes → is_some (lookup (bytes_eq four) sixes) ≡ false → is_some (lookup (bytes_eq six) fours) ≡ false
    → new_sixes ≡ insert_entry bytes_eq sixes four six → new_fours ≡ insert_entry bytes_eq fours six four → new_fours ≡ swapped new_sixes
mirrored_push sixes fours new_sixes new_fours four six mirrored no_four no_six is_sixes is_fours =
    is_fours
    ∙ inserted_last bytes_eq fours six four no_six
    ∙ ap (λ ps. ps ++ (six, four) ∷ []) mirrored
    ∙ sym (map_push (λ (p : List ℕ × List ℕ). (p.1, p.0)) sixes (four, six))
    ∙ ap swapped (sym (is_sixes ∙ inserted_last bytes_eq sixes four six no_four))

pub pair_is_added : (pairs fours new : AddressPairs) (four six : List ℕ) → fours ≡ swapped pairs → is_some (lookup (bytes_eq four) pairs) ≡ false → is_some (lookup (bytes_eq six) fours) ≡ false → length pairs < 256
    → new ≡ insert_entry bytes_eq pairs four six → pair_added pairs four six ≡ Ok new
pair_is_added pairs fours new four six mirrored no_four no_six few is =
    let no_six_here : is_some (four_of pairs six) ≡ false = ap (λ ps. is_some (lookup (bytes_eq six) ps)) (sym mirrored) ∙ no_six in
    cond-false (is_some (six_of pairs four) || is_some (four_of pairs six)) _ _ (or_from (is_some (six_of pairs four)) (is_some (four_of pairs six)) no_four no_six_here)
    ∙ cond-false (nat_le 256 (length pairs)) _ _ (lt-leb 256 (length pairs) few)
    ∙ ap Ok (sym (is ∙ inserted_last bytes_eq pairs four six no_four))

-- one pair less on both sides
swapped-remove : (pairs : AddressPairs) (i : ℕ) → remove (swapped pairs) i ≡ swapped (remove pairs i)
swapped-remove [] zero = refl
swapped-remove [] (suc i) = refl
swapped-remove (p ∷ pairs) zero = refl
swapped-remove (p ∷ pairs) (suc i) = ap (λ ps. (p.1, p.0) ∷ ps) (swapped-remove pairs i)

pub mirrored_remove : (sixes fours new_sixes new_fours : AddressPairs) (i : ℕ) → fours ≡ swapped sixes → new_sixes ≡ remove sixes i → new_fours ≡ remove fours i → new_fours ≡ swapped new_sixes
mirrored_remove sixes fours new_sixes new_fours i mirrored is_sixes is_fours =
    is_fours ∙ ap (λ ps. remove ps i) mirrored ∙ swapped-remove sixes i ∙ ap swapped (sym is_sixes)

-- the pair that was added last is taken back
pub taken_back : {P : Type 0} (pairs one popped : List P) (p : P) (r : Option P) → one ≡ pairs ++ p ∷ [] → one ≡ popped ++ option_to_list r → (0 < length one → IsSome r) → popped ≡ pairs
taken_back {P} pairs one popped p r is pops some = by r pops (some (omega (arith, ap length is, length_push pairs p)))
  where
    by : (s : Option P) → one ≡ popped ++ option_to_list s → IsSome s → popped ≡ pairs
    by None e h = absurd (false≢true h)
    by (Some x) e h = (same_from_push popped pairs x p (sym e ∙ is)).0
