-- Reads one after the other.
use Rattle.std.proofs.Common.{◌≡◌, ℕ, List, ◌∷◌, Result, Ok, Err, refl, sym, ap, ◌∙◌, subst, arith}
use Rattle.std.specs.Prelude.{IsTrue, Contains}
use Rattle.net_io.specs.declared.fault.IoFault.{IoFault}
use Rattle.net_io.specs.declared.fault.IoFault.TheVariants.{Failed, OutOfMemory}
use Rattle.net_io.specs.Depot.{DepotState, SameHeld, OnlyReads, octets_of}
use Rattle.net_io.specs.Faults.{SameCounts}
use Rattle.call_report.specs.report_file.File.{ReportPart, KeepsPart}
use Rattle.label_audit.specs.Reads.{OnlyReadsAmong}
use Rattle.label_audit.specs.inside.Reading.{file_of, HasRead}
use Rattle.label_audit.proofs.Among.{is_first, is_behind, nothing_read, one_among, among_on, among_as, among_err}

-- what a call leaves that has an answer
pub record Unmoved (a b : DepotState) : Type 0 where
  pub told : b.tells ≡ a.tells
  pub kept : IsTrue a.tells → SameHeld a.held b.held
  pub reads : SameCounts a.reads b.reads
  pub creates : SameCounts a.creates b.creates
  pub appends : SameCounts a.appends b.appends

pub only_ok : {T : Type 0} {x : T} {names : List (List ℕ)} {a b : DepotState} → Unmoved a b → OnlyReadsAmong Failed (Ok x) names a b
only_ok same = record {
  told = same.told;
  kept = same.kept;
  reads = record { no_less = λ other. omega (arith, same.reads other); ok = same.reads; still = λ _. same.reads; cause = λ e. absurd cc };
  creates = same.creates;
  appends = same.appends;
}

-- reads of the report
pub read_report : {T : Type 0} {result : Result T IoFault} {a b : DepotState} (names : List (List ℕ)) (old new : ReportPart) → KeepsPart b new → new.name ≡ old.name → OnlyReads Failed result old.name a b → HasRead names result old new a b
read_report names old new keeps name only = record { keeps = keeps; name = name; only = one_among (is_first old.name names) only }

module _ {names : List (List ℕ)} {old new : ReportPart} {a b : DepotState} where
  pub read_ok : {T U : Type 0} {x : T} {y : U} → HasRead names (Ok x) old new a b → HasRead names (Ok y) old new a b
  read_ok {T} {U} {x} {y} read = record { keeps = read.keeps; name = read.name; only = among_as (Ok y) (λ e. absurd cc) read.only }

  pub read_memory : {T U : Type 0} {x : T} → HasRead names (Ok x) old new a b → HasRead {T = U} names (Err OutOfMemory) old new a b
  read_memory {T} {U} read =
      let none : Result U IoFault = Err OutOfMemory in
      record { keeps = read.keeps; name = read.name; only = among_as none (λ e. absurd cc) read.only }

  pub read_err : {T U : Type 0} {fault : IoFault} → HasRead {T = T} names (Err fault) old new a b → HasRead {T = U} names (Err fault) old new a b
  read_err read = record { keeps = read.keeps; name = read.name; only = among_err read.only }

  pub read_same : {T : Type 0} {x : T} → HasRead names (Ok x) old new a b → Unmoved a b
  read_same read = record { told = read.only.told; kept = read.only.kept; reads = read.only.reads.ok; creates = read.only.creates; appends = read.only.appends }

  pub read_told : {T : Type 0} {x : T} → HasRead names (Ok x) old new a b → IsTrue a.tells → IsTrue b.tells
  read_told read tells = subst IsTrue (sym read.only.told) tells

  pub read_file : {T : Type 0} {x : T} → HasRead names (Ok x) old new a b → IsTrue a.tells → file_of b new ≡ file_of a old
  read_file read tells = ap octets_of (ap b.held read.name ∙ read.only.kept tells old.name)

pub read_none : {T : Type 0} {x : T} {names : List (List ℕ)} {old : ReportPart} {a : DepotState} → KeepsPart a old → HasRead names (Ok x) old old a a
read_none keeps = record { keeps = keeps; name = refl; only = nothing_read }

pub read_on : {T U : Type 0} {x : T} {result : Result U IoFault} {names : List (List ℕ)} {r s t : ReportPart} {a b c : DepotState} → HasRead names (Ok x) r s a b → HasRead names result s t b c → HasRead names result r t a c
read_on {T} {U} {x} {result} {names} {r} {s} {t} {a} {b} {c} one two = record {
  keeps = two.keeps;
  name = two.name ∙ one.name;
  only = among_on one.only (subst (λ (n : List ℕ). OnlyReadsAmong Failed result (n ∷ names) b c) one.name two.only);
}

-- reads of a capture leave what is kept of the report
kept_over : (r : ReportPart) (a b : DepotState) → b.tells ≡ a.tells → (IsTrue a.tells → SameHeld a.held b.held) → KeepsPart a r → KeepsPart b r
kept_over r a b told held keeps = λ tells.
    let before = subst IsTrue told tells in
    rw (held before r.name) (keeps before)

pub read_capture : {T : Type 0} {result : Result T IoFault} {name : List ℕ} {a b : DepotState} (names : List (List ℕ)) (r : ReportPart) → KeepsPart a r → Contains names name → OnlyReads Failed result name a b → HasRead names result r r a b
read_capture {T} {result} {name} {a} {b} names r keeps one only = record {
  keeps = kept_over r a b only.told only.kept keeps;
  name = refl;
  only = one_among (is_behind r.name name names one) only;
}
