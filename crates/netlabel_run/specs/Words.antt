-- The forms of the command line: what the words, without the program's name, ask for.
use Rattle.std.specs.Prelude.{ℕ, ◌≡◌, ◌<◌, ◌≤◌, ◌^◌, IsTrue, List, [], ◌∷◌, codes, Option, Some, None}
use Rattle.std.specs.Fmt.{decimal}
use Rattle.mls_label.specs.declared.label.Label.{Label}
use Rattle.mls_range.specs.LabelText.{IsLabelText}
use Rattle.mls_range.specs.TextFault.{IsRoomyLabel}
use Rattle.script_lines.specs.command_values.Doi.{doi_of_text}
use Rattle.label_commands.specs.flow_lines.FileName.{is_file_name}
use Rattle.label_commands.specs.command_words.Numbers.{number_named, versions_named}
use Rattle.label_commands.specs.command_words.Words.{NamesWorkers}
use Rattle.netlabel_run.specs.declared.command.Command.{Command}
use Rattle.netlabel_run.specs.declared.command.Command.TheVariants.{Judge, Check, Show, Agree, Make, Run}

-- a level that a word may name: the text of a label that has room for its categories
pub record IsLevel (text : List ℕ) (level : Label) : Type 0 where
  pub reads : IsLabelText text level
  pub roomy : IsRoomyLabel text

-- `judge <doi> <level> <file>`
pub record AsksToJudge (words : List (List ℕ)) (doi : ℕ) (level : Label) (file : List ℕ) : Type 0 where
  pub doi_text : List ℕ
  pub level_text : List ℕ
  pub are : words ≡ codes "judge" ∷ doi_text ∷ level_text ∷ file ∷ []
  pub is_doi : doi_of_text doi_text ≡ Some doi
  pub is_level : IsLevel level_text level
  pub is_name : IsTrue (is_file_name file)

-- `show <capture>`
pub record AsksToShow (words : List (List ℕ)) (file : List ℕ) : Type 0 where
  pub are : words ≡ codes "show" ∷ file ∷ []
  pub is_name : IsTrue (is_file_name file)

-- `check <script>`
pub record AsksToCheck (words : List (List ℕ)) (file : List ℕ) : Type 0 where
  pub are : words ≡ codes "check" ∷ file ∷ []
  pub is_name : IsTrue (is_file_name file)

-- `run <script>`, which has 4 workers, or `run <script> -w <n>`
pub data AsksToRun (words : List (List ℕ)) (file : List ℕ) : ℕ → Type 0 where
  plainly : words ≡ codes "run" ∷ file ∷ [] → IsTrue (is_file_name file) → AsksToRun words file 4
  with_workers : (text : List ℕ) (workers : ℕ) → words ≡ codes "run" ∷ file ∷ codes "-w" ∷ text ∷ [] → IsTrue (is_file_name file) → NamesWorkers text workers
      → AsksToRun words file workers

-- `agree <script> <flow>`, or `agree <script> <flow> <versions>`
pub data AsksToAgree (words : List (List ℕ)) (file : List ℕ) (flow : ℕ) : Option (List ℕ) → Type 0 where
  without_versions : (text : List ℕ) → words ≡ codes "agree" ∷ file ∷ text ∷ [] → IsTrue (is_file_name file) → number_named text ≡ Some flow → AsksToAgree words file flow None
  with_versions : (text list : List ℕ) (versions : List ℕ) → words ≡ codes "agree" ∷ file ∷ text ∷ list ∷ [] → IsTrue (is_file_name file) → number_named text ≡ Some flow
      → versions_named list ≡ Some versions → AsksToAgree words file flow (Some versions)

-- `make <number> <count> <capture>`: the number is below 2^64, and both are without leading zeros
pub record AsksToMake (words : List (List ℕ)) (seed count : ℕ) (file : List ℕ) : Type 0 where
  pub are : words ≡ codes "make" ∷ decimal seed ∷ decimal count ∷ file ∷ []
  pub below : seed < 2 ^ 64
  pub few : count ≤ 1048576
  pub is_name : IsTrue (is_file_name file)

-- the words are of the command's form
abbrev pub Asks : List (List ℕ) → Command → Type 0
Asks words (Judge doi level file) = AsksToJudge words doi level file
Asks words (Check file) = AsksToCheck words file
Asks words (Show file) = AsksToShow words file
Asks words (Agree file flow versions) = AsksToAgree words file flow versions
Asks words (Make seed count file) = AsksToMake words seed count file
Asks words (Run file workers) = AsksToRun words file workers

-- the words are of one of the forms
abbrev pub IsForm : List (List ℕ) → Type 0
IsForm words = (command : Command) × Asks words command

-- what the words ask for; none where they are no form
abbrev pub IsAsked : List (List ℕ) → Option Command → Type 0
IsAsked words None = IsForm words → ⊥
IsAsked words (Some command) = Asks words command
