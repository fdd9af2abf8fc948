-- How the calls end that write.
use Rattle.std.specs.Prelude.{ℕ, ◌≡◌, ◌+◌, ◌<◌, ◌≤◌, List, [], ◌∷◌, length, map, Result, Ok, Err}
use Rattle.mls_label.specs.declared.label.Label.{Label}
use Rattle.mls_label.specs.declared.label.Tag.{Tag}
use Rattle.mls_label.specs.Runs.{numbers_of}
use Rattle.cipso_tags.specs.Tag.{tag_type}
use Rattle.cipso_tags.specs.Text.{Fits}
use Rattle.cipso_option.specs.Text.{cipso_text}
use Rattle.calipso_option.specs.Text.{IsExpressible, calipso_text}
use Rattle.netlabel_codec.specs.declared.told.NetlabelRun.{NetlabelRun}
use Rattle.netlabel_codec.specs.declared.status.Status.{Status}
use Rattle.netlabel_codec.specs.declared.status.Status.TheVariants.{BadRuns, BadDoi, BadTag, Inexpressible}
use Rattle.netlabel_codec.specs.Put.{IsPut}

-- ascending runs of categories, from low on: none begins behind its end, at or before the end of the one before it, or holds a number above 65534
abbrev pub AreRunsFrom : ℕ → List NetlabelRun → Type 0
AreRunsFrom low [] = Unit {0}
AreRunsFrom low (run ∷ runs) = (low ≤ run.first) × (run.first ≤ run.last) × (run.last < 65535) × AreRunsFrom (run.last + 1) runs

-- the first and the last of a run
abbrev pub run_ends : NetlabelRun → ℕ × ℕ
run_ends run = (run.first, run.last)

-- the label of a level and the categories of runs
abbrev pub label_given : ℕ → List NetlabelRun → Label
label_given level runs = record { level = level; cats = numbers_of (map run_ends runs) }

-- why there is no CIPSO option of a DOI, a tag's type, a level and runs: the first of these causes
abbrev pub LacksCipso : ℕ → ℕ → ℕ → List NetlabelRun → Status → Type 0
LacksCipso doi type level runs BadRuns = AreRunsFrom 0 runs → ⊥
LacksCipso doi type level runs BadDoi = AreRunsFrom 0 runs × (doi ≡ 0)
LacksCipso doi type level runs BadTag = AreRunsFrom 0 runs × (0 < doi) × ((tag : Tag) → tag_type tag ≡ type → ⊥)
LacksCipso doi type level runs Inexpressible = AreRunsFrom 0 runs × (0 < doi) × ((tag : Tag) × (tag_type tag ≡ type) × (Fits tag (label_given level runs) → ⊥))
LacksCipso doi type level runs cause = ⊥

-- the option's octets
pub record HasCipso (doi type level : ℕ) (runs : List NetlabelRun) (text : List ℕ) : Type 0 where
  pub tag : Tag
  pub of_type : tag_type tag ≡ type
  pub ascend : AreRunsFrom 0 runs
  pub named : 0 < doi
  pub fits : Fits tag (label_given level runs)
  pub is : text ≡ cipso_text doi tag (label_given level runs)

abbrev pub IsCipsoOf : ℕ → ℕ → ℕ → List NetlabelRun → Result (List ℕ) Status → Type 0
IsCipsoOf doi type level runs (Ok text) = HasCipso doi type level runs text
IsCipsoOf doi type level runs (Err cause) = LacksCipso doi type level runs cause

-- why there is no CALIPSO option of a DOI, a level and runs: the first of these causes
abbrev pub LacksCalipso : ℕ → ℕ → List NetlabelRun → Status → Type 0
LacksCalipso doi level runs BadRuns = AreRunsFrom 0 runs → ⊥
LacksCalipso doi level runs BadDoi = AreRunsFrom 0 runs × (doi ≡ 0)
LacksCalipso doi level runs Inexpressible = AreRunsFrom 0 runs × (0 < doi) × (IsExpressible (label_given level runs) → ⊥)
LacksCalipso doi level runs cause = ⊥

-- the option's octets
pub record HasCalipso (doi level : ℕ) (runs : List NetlabelRun) (text : List ℕ) : Type 0 where
  pub ascend : AreRunsFrom 0 runs
  pub named : 0 < doi
  pub fits : IsExpressible (label_given level runs)
  pub is : text ≡ calipso_text doi (label_given level runs)

abbrev pub IsCalipsoOf : ℕ → ℕ → List NetlabelRun → Result (List ℕ) Status → Type 0
IsCalipsoOf doi level runs (Ok text) = HasCalipso doi level runs text
IsCalipsoOf doi level runs (Err cause) = LacksCalipso doi level runs cause

-- The buffer has the whole option, or the status is that it has too little room; in both cases the option's length is told. Where there is no option,
-- the status is the cause, the length 0, and the buffer is as it was.
abbrev pub Delivers : Result (List ℕ) Status → List ℕ → List ℕ → ℕ → Status → Type 0
Delivers (Ok text) old new count status = (count ≡ length text) × IsPut text old new status
Delivers (Err cause) old new count status = (status ≡ cause) × (count ≡ 0) × (new ≡ old)

-- how a call ends that writes what IsAsked says
pub record WritesOption (IsAsked : Result (List ℕ) Status → Type 0) (old new : List ℕ) (count : ℕ) (status : Status) : Type 0 where
  pub answer : Result (List ℕ) Status
  pub is : IsAsked answer
  pub delivers : Delivers answer old new count status
