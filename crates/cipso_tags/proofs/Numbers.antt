-- Bodies of numbers, read one by one: each number has its bounds, and a number out of them is the fault.
use Rattle.std.proofs.Common.{◌≡◌, ℕ, ◌+◌, ◌*◌, ◌<◌, ◌≤◌, List, [], ◌∷◌, ◌++◌, length, take, refl, sym, ap, subst, ◌∙◌, append_assoc, arith, length-append}
use Rattle.std.specs.Prelude.{slice_index}
use Rattle.std.specs.Int.{w16, to_be_bytes}
use Rattle.mls_label.specs.declared.octet_grammar.fault.WireFault.{WireFault}
use Rattle.mls_label.specs.octet_grammar.Front.{IsFront, IsPrefixFree, ReadsFront}
use Rattle.mls_label.specs.octet_grammar.Fault.{FailsFront}
use Rattle.mls_label.specs.octet_grammar.Place.{FaultsInNumber, IsBetween}
use Rattle.mls_label.proofs.octet_grammar.Fronts.{free_by_length}
use Rattle.mls_label.proofs.octet_grammar.Places.{NumberNext, HasNumber, number_fails}
use Rattle.cipso_tags.specs.Body.{words, IsNumbers}
use Rattle.cipso_tags.specs.inside.Header.{IsSized}
use Rattle.cipso_tags.proofs.Words.{AreSmall, small_left, small_right, length-words, words-append, cut, words_same}

-- Of all lists of count numbers in order that begin with xs, the next is from low to high, and each of these may come.
pub record IsStep (D : List ℕ → Type 0) (count : ℕ) (xs : List ℕ) (low high : ℕ) : Type 0 where
  pub bound : (y : ℕ) (ys : List ℕ) → D (xs ++ y ∷ ys) → length xs + 1 + length ys ≡ count → IsBetween low high y
  pub extend : (c : ℕ) → low ≤ c → c ≤ high → (ys : List ℕ) × (length xs + 1 + length ys ≡ count) × D (xs ++ c ∷ ys)

-- numbers in order have two octets each
abbrev pub OrderIsSmall : (List ℕ → Type 0) → Type 0
OrderIsSmall D = (ns : List ℕ) → D ns → AreSmall ns

abbrev pub NumbersOf : ℕ → (List ℕ → Type 0) → (List ℕ → List ℕ) → ℕ → List ℕ → List ℕ → Type 0
NumbersOf most D cats_of count = IsSized (2 * count) (IsNumbers most D cats_of)

pub numbers_free : (most : ℕ) (D : List ℕ → Type 0) (cats_of : List ℕ → List ℕ) (count : ℕ) → OrderIsSmall D → IsPrefixFree (NumbersOf most D cats_of count)
numbers_free most D cats_of count small =
    free_by_length (NumbersOf most D cats_of count) (λ a b v w m n. n.long ∙ sym m.long)
    (λ t v w m n.
    let same = words_same m.is.numbers n.is.numbers (small m.is.numbers m.is.ordered) (small n.is.numbers n.is.ordered) (sym m.is.is ∙ n.is.is) in
    m.is.carries ∙ ap cats_of same ∙ sym n.is.carries)

-- a list of the right length and order is a member
pub numbers_member : (most : ℕ) (D : List ℕ → Type 0) (cats_of : List ℕ → List ℕ) (count : ℕ) (numbers : List ℕ) → count ≤ most → length numbers ≡ count → D numbers → NumbersOf most D cats_of count (words numbers) (cats_of numbers)
numbers_member most D cats_of count numbers le long ordered =
    record {
      long = omega (arith, length-words numbers);
      is = record { numbers = numbers; is = refl; room = omega arith; ordered = ordered; carries = refl };
    }

-- the number behind xs in a member
next_of : (D : List ℕ → Type 0) (count : ℕ) (xs zs rest ys : List ℕ) (low high : ℕ) → IsStep D count xs low high → AreSmall zs → length xs < count → length zs ≡ count → D zs → zs ≡ xs ++ ys → rest ≡ words ys → NumberNext rest low high
next_of D count xs zs rest [] low high step small lt long ordered is octets = absurd (omega (arith, ap length is, length-append xs []))
next_of D count xs zs rest (y ∷ ys) low high step small lt long ordered is octets =
    record {
      number = y;
      more = words ys;
      is = octets;
      bounds = step.bound y ys (subst D is ordered) (omega (arith, ap length is, length-append xs (y ∷ ys)));
      small = (small_right xs (y ∷ ys) (subst AreSmall is small)).0;
    }

front_with : (most : ℕ) (D : List ℕ → Type 0) (cats_of : List ℕ → List ℕ) (count : ℕ) (xs ys : List ℕ) (c : ℕ) → count ≤ most → length xs + 1 + length ys ≡ count → D (xs ++ c ∷ ys) → IsFront (NumbersOf most D cats_of count) (words xs ++ to_be_bytes w16 c)
front_with most D cats_of count xs ys c le long ordered =
    let zs = xs ++ c ∷ ys in
    let p = words xs ++ to_be_bytes w16 c in
    let whole : words zs ≡ p ++ words ys = words-append xs (c ∷ ys) ∙ sym (append_assoc (words xs) (to_be_bytes w16 c) (words ys)) in
    let m = numbers_member most D cats_of count zs le (omega (arith, length-append xs (c ∷ ys))) ordered in
    record { more = words ys; value = cats_of zs; member = subst (λ t. NumbersOf most D cats_of count t (cats_of zs)) whole m }

step_number : (most : ℕ) (D : List ℕ → Type 0) (cats_of : List ℕ → List ℕ) (count : ℕ) (xs : List ℕ) (low high : ℕ) → OrderIsSmall D → count ≤ most → length xs < count → low ≤ high → IsStep D count xs low high → HasNumber (NumbersOf most D cats_of count) (words xs) low high
step_number most D cats_of count xs low high small le lt order step =
    let sample = step.extend low (omega arith) order in
    let fits = small_left xs (low ∷ sample.0) (small (xs ++ low ∷ sample.0) sample.2) in
    record {
      next = λ rest v m.
          let zs = m.is.numbers in
          let c = cut xs zs rest fits (small zs m.is.ordered) (sym m.is.is) in
          next_of D count xs zs rest c.more low high step (small zs m.is.ordered) lt (omega (arith, m.long, ap length m.is.is, length-words zs)) m.is.ordered c.is c.octets;
      front = λ n bounds.
          let more = step.extend n bounds.0 bounds.1 in
          front_with most D cats_of count xs more.0 n le more.1 more.2;
    }

-- Behind the numbers xs none in bounds stands.
pub step_fails : (most : ℕ) (D : List ℕ → Type 0) (cats_of : List ℕ → List ℕ) (count : ℕ) (s xs : List ℕ) (o low high : ℕ) (f : WireFault) → OrderIsSmall D → count ≤ most → o ≤ length s → take o s ≡ words xs → length xs < count → low ≤ high → high < 65536 → slice_index s o < 256 → IsStep D count xs low high → FaultsInNumber s o low high f → FailsFront (NumbersOf most D cats_of count) s f
step_fails most D cats_of count s xs o low high f small fits le read lt order bound octet step faults =
    number_fails (NumbersOf most D cats_of count) (numbers_free most D cats_of count small) s (words xs) o low high f le read order bound octet (step_number most D cats_of count xs low high small fits lt order step) faults

-- What may follow xs: lists of which Rest holds, and no others.
pub record IsAfter (D Rest : List ℕ → Type 0) (xs : List ℕ) : Type 0 where
  pub tight : (ys : List ℕ) → D (xs ++ ys) → Rest ys
  pub loose : (ys : List ℕ) → Rest ys → D (xs ++ ys)

pub after_start : (D : List ℕ → Type 0) → IsAfter D D []
after_start D = record { tight = λ ys d. d; loose = λ ys d. d }

-- all numbers were read
pub numbers_read : (most : ℕ) (D : List ℕ → Type 0) (cats_of : List ℕ → List ℕ) (count : ℕ) (s xs : List ℕ) → count ≤ most → 2 * count ≤ length s → take (2 * count) s ≡ words xs → length xs ≡ count → D xs → ReadsFront (NumbersOf most D cats_of count) s (cats_of xs) (2 * count)
numbers_read most D cats_of count s xs fits le read long ordered =
    record {
      within = le;
      member = subst (λ t. NumbersOf most D cats_of count t (cats_of xs)) (sym read) (numbers_member most D cats_of count xs fits long ordered);
    }
