-- What is known while a bitmap is read.
use Rattle.std.specs.Prelude.{ℕ, ◌≡◌, ◌+◌, ◌-◌, ◌<◌, ◌≤◌, Bool, true, false, not, ◌&&◌, nat_lt, List, length, Option, IfSome, unwrap_or, if◌then◌else◌}
use Rattle.std.specs.Int.{bit_at}
use Rattle.mls_label.specs.Cats.{cats_where}
use Rattle.mls_label.specs.Runs.{runs_of}
use Rattle.mls_label.specs.category_bitmap.Bitmap.{has_bit}

-- the categories of a bitmap below a place
abbrev pub cats_below : List ℕ → ℕ → List ℕ
cats_below bitmap at = cats_where (λ c. has_bit bitmap c && nat_lt c at)

-- the bits before a place are read: those before the begun run, or all, are in the set, and no run ends directly before those to come
pub record IsRead (bitmap cats : List ℕ) (begun : Option ℕ) (at : ℕ) : Type 0 where
  pub so_far : cats ≡ cats_below bitmap (unwrap_or begun at)
  pub few : length (runs_of cats) ≤ unwrap_or begun at
  pub gap : (k : ℕ) → k + 1 ≡ unwrap_or begun at → has_bit bitmap k ≡ false
  pub order : IfSome begun (λ first. first < at)
  pub ones : IfSome begun (λ first. (k : ℕ) → first ≤ k → k < at → has_bit bitmap k ≡ true)

-- one of two bits is 1, and not both
abbrev pub differs : Bool → Bool → Bool
differs true b = not b
differs false b = b

-- the first one of these turns stands at this place, and the rest are those behind it; place 0 is the most significant bit
pub record IsNextTurn (turns place rest : ℕ) : Type 0 where
  pub within : place < 32
  pub one : bit_at turns (31 - place) ≡ 1
  pub zeros : (k : ℕ) → k < place → bit_at turns (31 - k) ≡ 0
  pub behind : (k : ℕ) → k < 32 → bit_at rest (31 - k) ≡ (if nat_lt place k then bit_at turns (31 - k) else 0)
  pub fewer : rest < turns
