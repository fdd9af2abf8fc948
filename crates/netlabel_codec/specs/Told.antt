-- What C is told of a label option, or of the first fault.
use Rattle.std.specs.Prelude.{ℕ, ◌≡◌, List, length, map, Option, Some, None}
use Rattle.mls_label.specs.Runs.{runs_of}
use Rattle.cipso_tags.specs.Tag.{tag_type}
use Rattle.packet_label.specs.declared.packet.Wire.{Wire}
use Rattle.packet_label.specs.declared.packet.Wire.TheVariants.{Cipso, Calipso}
use Rattle.packet_label.specs.Wire.{label_said}
use Rattle.netlabel_codec.specs.declared.told.NetlabelLabel.{NetlabelLabel}
use Rattle.netlabel_codec.specs.declared.told.NetlabelRun.{NetlabelRun}
use Rattle.netlabel_codec.specs.declared.told.TheConstants.{NONE, CIPSO, CALIPSO}
use Rattle.netlabel_codec.specs.declared.status.Status.{Status}
use Rattle.netlabel_codec.specs.declared.status.Status.TheVariants.{Done}
use Rattle.netlabel_codec.specs.Put.{IsPut}

-- a run by its first and its last category
abbrev pub run_told : ℕ × ℕ → NetlabelRun
run_told run = record { first = run.0; last = run.1 }

-- the maximal runs of a set, in ascending order
abbrev pub runs_told : List ℕ → List NetlabelRun
runs_told cats = map run_told (runs_of cats)

-- no option, and where it is looked for or at fault
abbrev pub nothing_at : ℕ → NetlabelLabel
nothing_at octet = record { octet = octet; length = 0; runs = 0; doi = 0; kind = NONE; tag = 0; level = 0 }

-- what an option of so many octets says but its categories: kind, place, DOI, the type of a CIPSO tag, level, and how many maximal runs there are
abbrev pub option_told : ℕ → Wire → NetlabelLabel
option_told count (Cipso at doi tag label) =
    record { octet = at; length = count; runs = length (runs_of label.cats); doi = doi; kind = CIPSO; tag = tag_type tag; level = label.level }
option_told count (Calipso at doi label) =
    record { octet = at; length = count; runs = length (runs_of label.cats); doi = doi; kind = CALIPSO; tag = 0; level = label.level }

-- The struct says what the option says, and the buffer has all runs of its categories or the status is that it has too little room. Where there
-- is no option, that is said.
abbrev pub TellsWire : ℕ → Option Wire → List NetlabelRun → List NetlabelRun → NetlabelLabel → Status → Type 0
TellsWire count None old new said status = (said ≡ nothing_at 0) × (new ≡ old) × (status ≡ Done)
TellsWire count (Some wire) old new said status = (said ≡ option_told count wire) × IsPut (runs_told (label_said wire).cats) old new status

-- the struct says where the first fault is, the status of what, and the buffer is as it was
pub record TellsFault (kind : Status) (octet : ℕ) (old new : List NetlabelRun) (said : NetlabelLabel) (status : Status) : Type 0 where
  pub status_is : status ≡ kind
  pub says : said ≡ nothing_at octet
  pub kept : new ≡ old
