-- A bitmap read by its turns, the places at which a bit isn't as the one in front of it.
use Rattle.std.proofs.Common.{◌≡◌, ℕ, zero, suc, ◌+◌, ◌-◌, ◌<◌, ◌≤◌, Bool, true, false, not, ◌==◌, ◌||◌, List, length, Option, Some, None, is_some, refl, sym, ap, subst, ◌∙◌, arith, inl, inr}
use Rattle.std.specs.Prelude.{if◌then◌else◌}
use Rattle.std.specs.Int.{bit_at}
use Rattle.std.proofs.lemmas.Bool.{cases_lt, ne_eqb}
use Rattle.std.proofs.lemmas.Bool.Decides.{nat_tests}
use Rattle.std.proofs.lemmas.Nat.Bits.{bit_at-zero}
use Rattle.mls_label.specs.Cats.{has, is_within, cats_where}
use Rattle.mls_label.specs.Runs.{runs_of}
use Rattle.mls_label.specs.category_bitmap.Bitmap.{has_bit}
use Rattle.mls_label.specs.category_bitmap.inside.Read.{IsRead, IsNextTurn, differs}
use Rattle.mls_label.proofs.category_bitmap.Bits.{read_on, read_behind, run_begins, run_ends}

-- the bit in front of a place
abbrev pub bit_before : List ℕ → ℕ → Bool
bit_before bitmap zero = false
bit_before bitmap (suc c) = has_bit bitmap c

-- 32 bits are read up to a place, and the ones of `turns` are the turns from there on
pub record IsTurning (bitmap cats : List ℕ) (begun : Option ℕ) (from turns : ℕ) : Type 0 where
  pub place : ℕ
  pub within : place ≤ 32
  pub read : IsRead bitmap cats begun (from + place)
  pub before : (k : ℕ) → k < place → bit_at turns (31 - k) ≡ 0
  pub after : (k : ℕ) → place ≤ k → k < 32 → (bit_at turns (31 - k) == 1) ≡ differs (has_bit bitmap (from + k)) (bit_before bitmap (from + k))

-- a run goes on where the bit before is 1
before_is : (bitmap cats : List ℕ) (begun : Option ℕ) (at : ℕ) → IsRead bitmap cats begun at → bit_before bitmap at ≡ is_some begun
before_is bitmap cats None zero is = refl
before_is bitmap cats None (suc c) is = is.gap c (omega arith)
before_is bitmap cats (Some first) zero is = absurd (omega (arith, is.order))
before_is bitmap cats (Some first) (suc c) is = is.ones c (omega (arith, is.order)) (omega arith)

-- ---- the start

zero_or_more : (bitmap : List ℕ) (from k word : ℕ) (last : Bool) → bit_before bitmap from ≡ last → ((j : ℕ) → j < 32 → (bit_at word (31 - j) == 1) ≡ has_bit bitmap (from + j)) → k < 32
    → (if k == 0 then last else (bit_at word (32 - k) == 1)) ≡ bit_before bitmap (from + k)
zero_or_more bitmap from zero word last first bits lt =
    let same : from ≡ from + 0 = omega arith in
    sym first ∙ ap (bit_before bitmap) same
zero_or_more bitmap from (suc k) word last first bits lt =
    let place : 32 - suc k ≡ 31 - k = omega arith in
    let next : suc (from + k) ≡ from + suc k = omega arith in
    ap (λ b. if b then last else (bit_at word (32 - suc k) == 1)) (ne_eqb (suc k) 0 (λ e. omega (arith, e)))
    ∙ ap (λ j. bit_at word j == 1) place ∙ bits k (omega arith) ∙ ap (bit_before bitmap) next

pub turning_from : (bitmap cats : List ℕ) (begun : Option ℕ) (from word turns : ℕ) (last : Bool) → last ≡ is_some begun → IsRead bitmap cats begun from
    → ((k : ℕ) → k < 32 → (bit_at word (31 - k) == 1) ≡ has_bit bitmap (from + k))
    → ((k : ℕ) → k < 32 → (bit_at turns (31 - k) == 1) ≡ differs (bit_at word (31 - k) == 1) (if k == 0 then last else (bit_at word (32 - k) == 1)))
    → IsTurning bitmap cats begun from turns
turning_from bitmap cats begun from word turns last goes is bits are =
    let same : from ≡ from + 0 = omega arith in
    record {
      place = 0;
      within = omega arith;
      read = subst (IsRead bitmap cats begun) same is;
      before = λ k lt. absurd (omega arith);
      after = λ k le lt. are k lt ∙ (λ i. differs (bits k lt i) (zero_or_more bitmap from k word last (before_is bitmap cats begun from is ∙ sym goes) bits lt i));
    }

-- ---- up to the next turn

equal_of : (a b : Bool) → differs a b ≡ false → a ≡ b
equal_of true true e = refl
equal_of false false e = refl
equal_of true false e = e
equal_of false true e = sym e

turned_of : (a b : Bool) → differs a b ≡ true → a ≡ not b
turned_of true true e = sym e
turned_of false false e = e
turned_of true false e = refl
turned_of false true e = refl

same_bits : (bitmap : List ℕ) (some : Bool) (start n k : ℕ) → bit_before bitmap start ≡ some → ((j : ℕ) → j < n → differs (has_bit bitmap (start + j)) (bit_before bitmap (start + j)) ≡ false) → k < n → has_bit bitmap (start + k) ≡ some
same_bits bitmap some start n zero first none lt =
    let same : start + 0 ≡ start = omega arith in
    equal_of (has_bit bitmap (start + 0)) (bit_before bitmap (start + 0)) (none 0 lt) ∙ ap (bit_before bitmap) same ∙ first
same_bits bitmap some start n (suc k) first none lt =
    let next : start + suc k ≡ suc (start + k) = omega arith in
    equal_of (has_bit bitmap (start + suc k)) (bit_before bitmap (start + suc k)) (none (suc k) lt) ∙ ap (bit_before bitmap) next ∙ same_bits bitmap some start n k first none (omega arith)

up_to : (bitmap cats : List ℕ) (begun : Option ℕ) (from turns next : ℕ) (t : IsTurning bitmap cats begun from turns) → t.place ≤ next → next ≤ 32 → ((k : ℕ) → k < next → bit_at turns (31 - k) ≡ 0) → IsRead bitmap cats begun (from + next)
up_to bitmap cats begun from turns next t le most none =
    let start = from + t.place in
    let alike : (j : ℕ) → j < next - t.place → differs (has_bit bitmap (start + j)) (bit_before bitmap (start + j)) ≡ false =
    λ j lt.
    let there : start + j ≡ from + (t.place + j) = omega arith in
    ap (λ c. differs (has_bit bitmap c) (bit_before bitmap c)) there ∙ sym (t.after (t.place + j) (omega arith) (omega arith)) ∙ ap (λ n. n == 1) (none (t.place + j) (omega arith)) in
    read_on bitmap cats begun start (from + next) (omega arith) t.read (λ c low high.
    let there : c ≡ start + (c - start) = omega arith in
    ap (has_bit bitmap) there ∙ same_bits bitmap (is_some begun) start (next - t.place) (c - start) (before_is bitmap cats begun start t.read) alike (omega arith))

-- no turn is left
pub turned_all : (bitmap cats : List ℕ) (begun : Option ℕ) (from turns : ℕ) → turns ≡ 0 → IsTurning bitmap cats begun from turns → IsRead bitmap cats begun (from + 32)
turned_all bitmap cats begun from turns none t =
    up_to bitmap cats begun from turns 32 t t.within (omega arith) (λ k lt. ap (λ n. bit_at n (31 - k)) none ∙ bit_at-zero (31 - k))

-- ---- a turn

not_before : (bitmap cats : List ℕ) (begun : Option ℕ) (from turns place rest : ℕ) (t : IsTurning bitmap cats begun from turns) → IsNextTurn turns place rest → t.place ≤ place
not_before bitmap cats begun from turns place rest t next =
    elim (cases_lt place t.place) [
      | inl lt ↦ absurd (omega (arith, t.before place lt, next.one))
      | inr le ↦ le
    ]

pub up_to_turn : (bitmap cats : List ℕ) (begun : Option ℕ) (from turns place rest : ℕ) → IsTurning bitmap cats begun from turns → IsNextTurn turns place rest → IsRead bitmap cats begun (from + place)
up_to_turn bitmap cats begun from turns place rest t next =
    up_to bitmap cats begun from turns place t (not_before bitmap cats begun from turns place rest t next) (omega (arith, next.within)) next.zeros

turn_is : (bitmap cats : List ℕ) (begun : Option ℕ) (from turns place rest : ℕ) → IsTurning bitmap cats begun from turns → IsNextTurn turns place rest → has_bit bitmap (from + place) ≡ not (is_some begun)
turn_is bitmap cats begun from turns place rest t next =
    let e : differs (has_bit bitmap (from + place)) (bit_before bitmap (from + place)) ≡ true =
    sym (t.after place (not_before bitmap cats begun from turns place rest t next) next.within) ∙ ap (λ n. n == 1) next.one in
    turned_of (has_bit bitmap (from + place)) (bit_before bitmap (from + place)) e
    ∙ ap not (before_is bitmap cats begun (from + place) (up_to_turn bitmap cats begun from turns place rest t next))

-- what is left behind it
behind_turn : (bitmap cats new : List ℕ) (begun now : Option ℕ) (from turns place rest : ℕ) → IsTurning bitmap cats begun from turns → IsNextTurn turns place rest → IsRead bitmap new now (from + place + 1) → IsTurning bitmap new now from rest
behind_turn bitmap cats new begun now from turns place rest t next read =
    let there : from + place + 1 ≡ from + (place + 1) = omega arith in
    let kept : (k : ℕ) → place < k → k < 32 → bit_at rest (31 - k) ≡ bit_at turns (31 - k) = λ k lt small. next.behind k small ∙ grind (arith, nat_tests) in
    record {
      place = place + 1;
      within = omega (arith, next.within);
      read = subst (IsRead bitmap new now) there read;
      before = λ k lt. next.behind k (omega (arith, next.within)) ∙ grind (arith, nat_tests);
      after = λ k le lt. ap (λ n. n == 1) (kept k (omega arith) lt) ∙ t.after k (omega (arith, not_before bitmap cats begun from turns place rest t next)) lt;
    }

-- a run begins
pub turn_begins : (bitmap cats : List ℕ) (from turns place rest : ℕ) → IsTurning bitmap cats None from turns → IsNextTurn turns place rest → IsTurning bitmap cats (Some (from + place)) from rest
turn_begins bitmap cats from turns place rest t next =
    behind_turn bitmap cats cats None (Some (from + place)) from turns place rest t next
    (run_begins bitmap cats (from + place) (up_to_turn bitmap cats None from turns place rest t next) (turn_is bitmap cats None from turns place rest t next))

-- a run ends
pub turn_ends : (bitmap cats new : List ℕ) (first from turns place rest : ℕ) → IsTurning bitmap cats (Some first) from turns → IsNextTurn turns place rest
    → new ≡ cats_where (λ d. has cats d || is_within first (from + place - 1) d) → length (runs_of new) ≤ length (runs_of cats) + 1 → IsTurning bitmap new None from rest
turn_ends bitmap cats new first from turns place rest t next added more =
    behind_turn bitmap cats new (Some first) None from turns place rest t next
    (run_ends bitmap cats new first (from + place) (up_to_turn bitmap cats (Some first) from turns place rest t next) (turn_is bitmap cats (Some first) from turns place rest t next) added more)

-- no category stands directly before a run that has begun
pub behind_all : (bitmap cats : List ℕ) (first at : ℕ) → IsRead bitmap cats (Some first) at → (d : ℕ) → has cats d ≡ true → d + 1 < first
behind_all bitmap cats first at is = read_behind bitmap cats first is.so_far is.gap

-- that a run goes on is known
pub with_begun : (bitmap cats : List ℕ) (begun now : Option ℕ) (from turns : ℕ) → begun ≡ now → IsTurning bitmap cats begun from turns → IsTurning bitmap cats now from turns
with_begun bitmap cats begun now from turns e t = subst (λ b. IsTurning bitmap cats b from turns) e t
