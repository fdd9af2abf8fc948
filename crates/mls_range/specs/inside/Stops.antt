-- What is read in a text from a place on, and why nothing is: the fault of the grammar, or the term that is too much.
use Rattle.std.specs.Prelude.{◌≡◌, ℕ, ◌+◌, ◌<◌, ◌≤◌, Bool, List, [], ◌∷◌, ◌++◌, length, take, drop, ◌||◌}
use Rattle.std.specs.List.{All, flat_map}
use Rattle.mls_label.specs.declared.cat_set.TheConstants.{MOST_RUNS}
use Rattle.mls_label.specs.declared.label.Label.{Label}
use Rattle.mls_label.specs.Cats.{has, cats_where, is_within}
use Rattle.mls_label.specs.Runs.{runs_of}
use Rattle.mls_range.specs.declared.fault.TextFault.{TextFault}
use Rattle.mls_range.specs.declared.fault.TextKind.{TextKind}
use Rattle.mls_range.specs.declared.fault.TextKind.TheVariants.{Grammar, End, TooManyRuns, NotOrdered}
use Rattle.mls_range.specs.LabelText.{colon, IsTerm, term_text, cats_of_terms, IsLabelText}
use Rattle.mls_range.specs.Crowd.{run_count, IsCounted, with_comma, CrowdsLabel, IsRoomy}
use Rattle.mls_range.specs.Place.{octet_fault, end_fault}
use Rattle.mls_range.specs.inside.Rest.{Spells, FaultIn, IsLabelEnd, separated, Terms, BehindLevel, LabelOn}

-- No text of L that a set can have stands there: the fault of L, where no term is too much, or the term that is too much.
abbrev pub FailsAt : (List ℕ → Type 0) → (ℕ → Type 0) → List ℕ → ℕ → ℕ → TextKind → Type 0
FailsAt L crowds text start octet Grammar = FaultIn L text start (octet_fault octet) × ((at : ℕ) → crowds at → ⊥)
FailsAt L crowds text start octet End = FaultIn L text start (end_fault octet) × ((at : ℕ) → crowds at → ⊥)
FailsAt L crowds text start octet TooManyRuns = (at : ℕ) × (octet ≡ start + at) × crowds at
FailsAt L crowds text start octet NotOrdered = ⊥

-- In a text of terms, the first counted term after which the set would have too many runs begins at this octet.
pub record CrowdsTerms (dash : Bool) (text : List ℕ) (octet : ℕ) : Type 0 where
  pub before : List (ℕ × ℕ)
  pub term : ℕ × ℕ
  pub rest : List ℕ
  pub are : All IsTerm before
  pub is_term : IsTerm term
  pub is : text ≡ flat_map with_comma before ++ (term_text term ++ rest)
  pub counts : IsCounted dash rest
  pub few : (n : ℕ) → run_count (take n before) ≤ MOST_RUNS
  pub many : MOST_RUNS < run_count (before ++ term ∷ [])
  pub place : octet ≡ length (flat_map with_comma before)

-- terms stand there, up to their end, with these categories and nowhere too many runs
pub record ReadsTerms (dash : Bool) (text : List ℕ) (start : ℕ) (cats : List ℕ) (end : ℕ) : Type 0 where
  pub terms : List (ℕ × ℕ)
  pub part : List ℕ
  pub are : All IsTerm terms
  pub is : separated colon terms ≡ colon ∷ part
  pub reads : Spells text start end part
  pub has : cats ≡ cats_of_terms terms
  pub ends : IsLabelEnd dash (drop end text)
  pub roomy : (octet : ℕ) → CrowdsTerms dash (drop start text) octet → ⊥

abbrev pub StopsTerms : Bool → List ℕ → ℕ → TextFault → Type 0
StopsTerms dash text start fault = FailsAt (Terms dash) (CrowdsTerms dash (drop start text)) text start fault.octet fault.kind

-- the term that is too much, of the terms behind a colon
pub record CrowdsBehind (dash : Bool) (text : List ℕ) (octet : ℕ) : Type 0 where
  pub terms : List ℕ
  pub at : ℕ
  pub is : text ≡ colon ∷ terms
  pub crowds : CrowdsTerms dash terms at
  pub place : octet ≡ 1 + at

abbrev pub IsRoomyBehind : Bool → List ℕ → Type 0
IsRoomyBehind dash text = (octet : ℕ) → CrowdsBehind dash text octet → ⊥

-- behind a level stand terms, or none, with these categories and nowhere too many runs
pub record ReadsCats (dash : Bool) (text : List ℕ) (start : ℕ) (cats : List ℕ) (end : ℕ) : Type 0 where
  pub terms : List (ℕ × ℕ)
  pub are : All IsTerm terms
  pub reads : Spells text start end (separated colon terms)
  pub has : cats ≡ cats_of_terms terms
  pub ends : IsLabelEnd dash (drop end text)
  pub roomy : IsRoomyBehind dash (drop start text)

abbrev pub StopsCats : Bool → List ℕ → ℕ → TextFault → Type 0
StopsCats dash text start fault = FailsAt (BehindLevel dash) (CrowdsBehind dash (drop start text)) text start fault.octet fault.kind

-- a label stands there, up to its end, nowhere with too many runs
pub record ReadsPart (dash : Bool) (text : List ℕ) (start : ℕ) (label : Label) (end : ℕ) : Type 0 where
  pub part : List ℕ
  pub reads : Spells text start end part
  pub is : IsLabelText part label
  pub ends : IsLabelEnd dash (drop end text)
  pub roomy : IsRoomy dash (drop start text)

abbrev pub StopsPart : Bool → List ℕ → ℕ → TextFault → Type 0
StopsPart dash text start fault = FailsAt (LabelOn dash) (CrowdsLabel dash (drop start text)) text start fault.octet fault.kind

-- the run is too much for the set
abbrev pub StopsRun : List ℕ → ℕ → ℕ → ℕ → TextFault → Type 0
StopsRun cats first last octet fault = (fault.octet ≡ octet) × (fault.kind ≡ TooManyRuns) × (MOST_RUNS < length (runs_of (cats_where (λ c. has cats c || is_within first last c))))
