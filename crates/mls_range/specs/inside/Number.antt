-- Decimal numbers without leading zeros, read from the left.
use Rattle.std.specs.Prelude.{◌≡◌, ℕ, ◌+◌, ◌-◌, ◌*◌, ◌<◌, ◌≤◌, List, [], ◌∷◌, ◌++◌, ◌⊎◌}
use Rattle.std.specs.Fmt.{decimal}

-- the digits begin the decimal text of a number from low to high
pub record BeginsNumber (low high : ℕ) (digits : List ℕ) : Type 0 where
  pub number : ℕ
  pub more : List ℕ
  pub is : decimal number ≡ digits ++ more
  pub above : low ≤ number
  pub below : number ≤ high

abbrev pub IsDigit : ℕ → Type 0
IsDigit octet = (48 ≤ octet) × (octet ≤ 57)

abbrev pub AllDigits : List ℕ → Type 0
AllDigits [] = Unit {0}
AllDigits (octet ∷ octets) = IsDigit octet × AllDigits octets

-- the number that digits make when they follow those of n
abbrev pub number_after : ℕ → List ℕ → ℕ
number_after n [] = n
number_after n (octet ∷ octets) = number_after (10 * n + (octet - 48)) octets

-- a number from first to last becomes one from low to high, with the digits behind it
pub record Reaches (first last low high : ℕ) : Type 0 where
  pub start : ℕ
  pub more : List ℕ
  pub from : first ≤ start
  pub to : start ≤ last
  pub digits : AllDigits more
  pub above : low ≤ number_after start more
  pub below : number_after start more ≤ high

-- the octet may come next: it is a digit that leads to a number from low to high, behind count digits that make n
pub record GoesOn (count n octet low high : ℕ) : Type 0 where
  pub digit : IsDigit octet
  pub unled : (count ≡ 0) ⊎ (0 < n)
  pub zero : octet ≡ 48 → (0 < count) ⊎ (low ≡ 0)
  pub reaches : Reaches (10 * n + (octet - 48)) (10 * n + (octet - 48)) low high
