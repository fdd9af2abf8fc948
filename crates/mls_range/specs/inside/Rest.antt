-- What the parts of the reader say of the text from a place on.
use Rattle.std.specs.Prelude.{◌≡◌, ℕ, ◌<◌, ◌≤◌, Bool, List, [], ◌∷◌, ◌++◌, length, drop, IsTrue, ◌==◌, if◌then◌else◌}
use Rattle.std.specs.Fmt.{decimal}
use Rattle.std.specs.List.{All}
use Rattle.mls_label.specs.declared.octet_grammar.fault.WireFault.{WireFault}
use Rattle.mls_label.specs.declared.octet_grammar.fault.WireKind.{WireKind}
use Rattle.mls_label.specs.declared.octet_grammar.fault.WireKind.TheVariants.{Octet, End}
use Rattle.mls_range.specs.LabelText.{letter_s, letter_c, colon, comma, dot, hyphen, IsTerm, term_text}
use Rattle.mls_range.specs.Crowd.{IsCounted}
use Rattle.mls_range.specs.inside.Number.{BeginsNumber}

-- from start to end the text spells part
pub record Spells (text : List ℕ) (start end : ℕ) (part : List ℕ) : Type 0 where
  pub within : end ≤ length text
  pub forward : start ≤ end
  pub is : drop start text ≡ part ++ drop end text

-- the octets go on, or they end
abbrev pub StopsHere : List ℕ → WireKind → Type 0
StopsHere rest Octet = (octet : ℕ) × (more : List ℕ) × (rest ≡ octet ∷ more)
StopsHere rest End = rest ≡ []

-- no text of L begins so and goes on as the octets do; or the octets end, and are none
abbrev pub StopsIn : (List ℕ → Type 0) → List ℕ → List ℕ → WireKind → Type 0
StopsIn L part rest Octet = (octet : ℕ) × (more : List ℕ) × (rest ≡ octet ∷ more) × ((end : List ℕ) → L (part ++ octet ∷ end) → ⊥)
StopsIn L part rest End = (rest ≡ []) × (L part → ⊥)

-- From start on the text begins as a text of L does up to the fault, and there it stops.
pub record FaultIn (L : List ℕ → Type 0) (text : List ℕ) (start : ℕ) (fault : WireFault) : Type 0 where
  pub part : List ℕ
  pub reads : Spells text start fault.octet part
  pub more : List ℕ
  pub front : L (part ++ more)
  pub stops : StopsIn L part (drop fault.octet text) fault.kind

-- a number from low to high
pub record IsNumber (low high : ℕ) (text : List ℕ) : Type 0 where
  pub number : ℕ
  pub is : text ≡ decimal number
  pub above : low ≤ number
  pub below : number ≤ high

-- no number stands there
pub record FailsNumber (text : List ℕ) (start low high : ℕ) (fault : WireFault) : Type 0 where
  pub fails : FaultIn (IsNumber low high) text start fault
  pub none : IsNumber low high fails.part → ⊥

-- a number stands there, and the octet at its end belongs to no longer one
pub record ReadsNumber (text : List ℕ) (start low high number end : ℕ) : Type 0 where
  pub reads : Spells text start end (decimal number)
  pub above : low ≤ number
  pub below : number ≤ high
  pub ends : (octet : ℕ) (more : List ℕ) → drop end text ≡ octet ∷ more → BeginsNumber low high (decimal number ++ octet ∷ []) → ⊥

-- the second part of a term that has one
abbrev pub last_text : ℕ → ℕ → List ℕ
last_text first last = if first == last then [] else dot ∷ letter_c ∷ decimal last

-- the octets go on with another one, or they end
abbrev pub MissesOctet : ℕ → List ℕ → WireKind → Type 0
MissesOctet wanted rest Octet = (octet : ℕ) × (more : List ℕ) × (rest ≡ octet ∷ more) × (octet ≡ wanted → ⊥)
MissesOctet wanted rest End = rest ≡ []

-- the octets go on as they don't behind a counted term
abbrev pub MissesEnd : Bool → List ℕ → WireKind → Type 0
MissesEnd dash rest Octet = (octet : ℕ) × (more : List ℕ) × (rest ≡ octet ∷ more) × (IsCounted dash (octet ∷ []) → ⊥)
MissesEnd dash rest End = ⊥

-- where a label ends: at the text's end, or, where dash says so, at a dash
abbrev pub IsLabelEnd : Bool → List ℕ → Type 0
IsLabelEnd dash [] = Unit {0}
IsLabelEnd dash (octet ∷ rest) = IsTrue dash × (octet ≡ hyphen)

-- terms, the first behind the separator and each other behind a comma
abbrev pub separated : ℕ → List (ℕ × ℕ) → List ℕ
separated separator [] = []
separated separator (term ∷ terms) = separator ∷ term_text term ++ separated comma terms

-- any number of further terms, and the label's end
pub record MoreTerms (dash : Bool) (text : List ℕ) : Type 0 where
  pub terms : List (ℕ × ℕ)
  pub rest : List ℕ
  pub are : All IsTerm terms
  pub is : text ≡ separated comma terms ++ rest
  pub ends : IsLabelEnd dash rest

-- a term, and what may come behind it
pub record Terms (dash : Bool) (text : List ℕ) : Type 0 where
  pub term : ℕ × ℕ
  pub more : List ℕ
  pub is_term : IsTerm term
  pub is : text ≡ term_text term ++ more
  pub behind : MoreTerms dash more

-- a counted term, and anything behind it
pub record TermOn (dash : Bool) (text : List ℕ) : Type 0 where
  pub term : ℕ × ℕ
  pub more : List ℕ
  pub is_term : IsTerm term
  pub is : text ≡ term_text term ++ more
  pub counts : IsCounted dash more

-- the same from behind the term's first number
pub record BehindFirst (dash : Bool) (first : ℕ) (text : List ℕ) : Type 0 where
  pub last : ℕ
  pub more : List ℕ
  pub order : first ≤ last
  pub small : last < 65535
  pub is : text ≡ last_text first last ++ more
  pub counts : IsCounted dash more

-- behind a level a colon and terms, or the label's end
pub record BehindLevel (dash : Bool) (text : List ℕ) : Type 0 where
  pub terms : List (ℕ × ℕ)
  pub rest : List ℕ
  pub are : All IsTerm terms
  pub is : text ≡ separated colon terms ++ rest
  pub ends : IsLabelEnd dash rest

-- a label, and its end
pub record LabelOn (dash : Bool) (text : List ℕ) : Type 0 where
  pub level : ℕ
  pub more : List ℕ
  pub small : level < 256
  pub is : text ≡ letter_s ∷ decimal level ++ more
  pub behind : BehindLevel dash more

-- the rest of a counted term stands there
pub record ReadsLast (dash : Bool) (text : List ℕ) (start first last end : ℕ) : Type 0 where
  pub reads : Spells text start end (last_text first last)
  pub order : first ≤ last
  pub small : last < 65535
  pub counts : IsCounted dash (drop end text)

-- a counted term stands there
pub record ReadsTerm (dash : Bool) (text : List ℕ) (start first last end : ℕ) : Type 0 where
  pub reads : Spells text start end (term_text (first, last))
  pub is_term : IsTerm (first, last)
  pub counts : IsCounted dash (drop end text)

-- what stood there stands there still, with more behind it
pub record Extends (old new : List ℕ) : Type 0 where
  pub more : List ℕ
  pub is : new ≡ old ++ more
