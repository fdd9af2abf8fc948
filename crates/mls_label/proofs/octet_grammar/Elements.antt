-- What holds of each element of a list.
use Rattle.std.proofs.Common.{◌≡◌, ℕ, List, Option, Some, None, refl, subst}
use Rattle.std.specs.Prelude.{All, slice_get, unwrap_or}
use Rattle.std.proofs.lemmas.Option.{slice_get_within, get_or_from_slice_get}

-- and of the one that stands for what isn't there: so it holds at every place
pub All-place_or : {X : Type 0} (P : X → Type 0) (xs : List X) (i : ℕ) (other : X) → All P xs → P other → P (unwrap_or (slice_get xs i) other)
All-place_or {X} P xs i other all is = by_place (slice_get xs i) refl where
  by_place : (o : Option X) → slice_get xs i ≡ o → P (unwrap_or o other)
  by_place (Some x) at = subst P (get_or_from_slice_get xs i x x at) (all i x (slice_get_within xs i x at))
  by_place None at = is
