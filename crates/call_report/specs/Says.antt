-- All that a program says of one thing that was asked for.
use Rattle.std.specs.Prelude.{ℕ, ◌≡◌, List, [], ◌∷◌, Option}
use Rattle.call_report.specs.Report.{Folder, Versions, Report, late_report}
use Rattle.call_report.specs.Stages.{Stage, reading_stage}
use Rattle.call_report.specs.Output.{Output}

-- a call of the folder on a file of this name that the outside may refuse
pub data FileCall : Type 0 where
  reading : List ℕ → FileCall
  making : List ℕ → FileCall

-- Each is said of what the folder holds, and of the versions of the tables that the call itself has printed: where a flow was cut short, of what it came to.
pub record Says : Type 1 where
  -- what is printed
  pub report : Folder → Versions → Report → Type 0
  -- it depends on what the folder holds
  pub reads : Type 0
  -- the status that is due, the first event deciding; none is where a file that is needed is absent
  pub status : Folder → ℕ → Type 0
  -- a status that is due over what some folder may hold
  pub possible : ℕ → Type 0
  -- the files that are read and made, stage by stage
  pub stages : Folder → Versions → List Stage → Type 0
  -- the files that are made, and what they are to hold
  pub outputs : Folder → Versions → List Output → Type 0
  -- with every status: the tables of each hop were published in time, and no version falls where none may
  pub lawful : Folder → Versions → Type 0
  -- where nothing was refused: nothing is left out, up to the event that ends the call
  pub whole : Folder → Versions → Type 0
  -- with every status, of the packets that the printed lines tell of, under the versions that these name: where a packet's label was kept along its way, what was delivered is sound
  pub access : Folder → Versions → Type 0
  -- of the same packets: one that comes to a hop which has no option for its label is denied there and is in no output, and Inexpressible is told of no other
  pub withheld : Folder → Versions → Type 0
  -- something may be printed before this call of the folder, where it is the last one that was begun, in the last of these stages
  pub preceded : Versions → List Stage → FileCall → Type 0

-- A command that reads one file, makes none and prints no versions: its report and status by what the file holds, and whether it may print something before a read.
abbrev pub reading_says : List ℕ → (Option (List ℕ) → Report → Type 0) → (Option (List ℕ) → ℕ → Type 0) → Type 0 → Says
reading_says file prints ends early = record {
  report = λ held seen report. prints (held file) report;
  reads = Unit {0};
  status = λ held status. ends (held file) status;
  possible = λ status. (held : Folder) × ends (held file) status;
  stages = λ held seen stages. (seen ≡ []) × (stages ≡ reading_stage file ∷ []);
  outputs = λ held seen outputs. outputs ≡ [];
  lawful = λ held seen. seen ≡ [];
  whole = λ held seen. seen ≡ [];
  access = λ held seen. Unit {0};
  withheld = λ held seen. Unit {0};
  preceded = λ seen stages call. early;
}

-- Words that are no form: the usage line, no file, status 1.
abbrev pub usage_says : List ℕ → Says
usage_says line = record {
  report = λ held seen report. report ≡ late_report [] line;
  reads = ⊥;
  status = λ held status. status ≡ 1;
  possible = λ status. status ≡ 1;
  stages = λ held seen stages. (seen ≡ []) × (stages ≡ []);
  outputs = λ held seen outputs. outputs ≡ [];
  lawful = λ held seen. seen ≡ [];
  whole = λ held seen. seen ≡ [];
  access = λ held seen. Unit {0};
  withheld = λ held seen. Unit {0};
  preceded = λ seen stages call. ⊥;
}
