-- The laws of src/laws.rt under their names, for the crates above.
use Rattle.std.proofs.Common.{◌≤◌, ℕ, ◌-◌, List, Option, length, Result, Ok, Err}
use Rattle.std.specs.Prelude.{OnOk, IsErrOf}
use Rattle.net_io.specs.Depot.{DepotState, octets_of, IsRead, OnlyReads}
use Rattle.net_io.proofs.Frames.{reads_on}
use Rattle.net_io.proofs.Parts.{read_within}

pub octets_read_are_within_the_file : (file : Option (List ℕ)) (at n : ℕ) (buffer : List ℕ) → n ≤ length buffer → IsRead file at n buffer → n ≤ length (octets_of file) - at
octets_read_are_within_the_file = read_within

pub reads_go_on : {T U E : Type 0} (failed : E) (given : T) (result : Result U E) (name : List ℕ) (old middle new : DepotState)
    → OnlyReads {T = T} {E = E} failed (Ok given) name old middle → OnlyReads failed result name middle new → OnlyReads failed result name old new
reads_go_on = reads_on

on_any : {U E : Type 0} (result : Result U E) (P : Type 0) → P → OnOk result P
on_any (Ok given) P p = p
on_any (Err fault) P p = tt

pub reads_may_be_answered_otherwise : {T U E : Type 0} (failed : E) (given : T) (result : Result U E) (name : List ℕ) (old new : DepotState)
    → OnlyReads {T = T} {E = E} failed (Ok given) name old new → (IsErrOf result failed → ⊥) → OnlyReads failed result name old new
reads_may_be_answered_otherwise failed given result name old new r not_failed = record {
  told = r.told;
  kept = r.kept;
  reads = record { no_less = r.reads.no_less; ok = on_any result _ r.reads.ok; still = λ _. r.reads.ok; cause = λ e. absurd (not_failed e) };
  creates = r.creates;
  appends = r.appends;
}
