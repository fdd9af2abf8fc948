-- What one failed call more does to the numbers of faults.
use Rattle.std.proofs.Common.{◌≡◌, ◌≤◌, ℕ, ◌+◌, true, false, ◌&&◌, cond, List, [], ◌∷◌, ◌++◌, refl, sym, ◌∙◌, ap, subst, arith, inl, bytes_eq, string_bytes, Err}
use Rattle.std.proofs.lemmas.List.Sums.{sum_by-append}
use Rattle.std.proofs.lemmas.Slice.Eq.{bytes_eq-Decides}
use Rattle.net_io.specs.Failed.{is_failed, is_same_call, failed_in}
use Rattle.net_io.specs.inside.Listed.{Lists}
use Rattle.net_io.specs.Depot.{OnlyReads, OnlyCreates, OnlyAppends}
use Rattle.net_io.specs.Faults.{CountsByName, Rose, SameCounts}
use Rattle.net_io.specs.Memory.{files_state}
use Rattle.net_io.specs.declared.folder.NamedFile.{NamedFile}
use Rattle.net_io.specs.declared.failed.FailedCall.{FailedCall}
use Rattle.net_io.specs.declared.failed.DepotCall.{DepotCall}
use Rattle.net_io.specs.declared.failed.DepotCall.TheVariants.{Read, Create, Append}
use Rattle.net_io.specs.declared.fault.IoFault.{IoFault}
use Rattle.net_io.specs.declared.fault.IoFault.TheVariants.{Failed, OutOfMemory}

is_same_call-same : (call : DepotCall) → is_same_call call call ≡ true
is_same_call-same Read = refl
is_same_call-same Create = refl
is_same_call-same Append = refl

-- a number with one call more in the list
failed_in-more : (failed : List FailedCall) (entry : FailedCall) (call : DepotCall) (name : List ℕ)
    → failed_in (failed ++ entry ∷ []) call name ≡ failed_in failed call name + cond (is_failed call name entry) 1 0
failed_in-more failed entry call name = grind (arith, sum_by-append (λ e. cond (is_failed call name e) 1 0) failed (entry ∷ []))

is_failed-entry : (call : DepotCall) (name : List ℕ) (entry : FailedCall) → entry.call ≡ call → string_bytes entry.name ≡ name → is_failed call name entry ≡ true
is_failed-entry call name entry kind on =
    let named : bytes_eq (string_bytes entry.name) name ≡ true = (bytes_eq-Decides (string_bytes entry.name) name).1 on in
    let same : is_same_call call entry.call ≡ true = subst (λ k. is_same_call call k ≡ true) (sym kind) (is_same_call-same call) in
    rw (same, named) refl

-- The numbers of a call's own kind after its fault was listed, or after no memory was left to list it.
counts_fault : {T : Type 0} (fault : IoFault) (call : DepotCall) (name : List ℕ) (old new : List FailedCall)
    → (fault ≡ Failed → Lists call name old new) → (fault ≡ OutOfMemory → new ≡ old)
    → CountsByName {T = T} Failed (Err fault) name (failed_in old call) (failed_in new call)
counts_fault Failed call name old new listed none =
    let lists : Lists call name old new = listed refl in
    let more : (other : List ℕ) → failed_in new call other ≡ failed_in old call other + cond (is_failed call other lists.entry) 1 0 =
    λ other. ap (λ list. failed_in list call other) lists.last ∙ failed_in-more old lists.entry call other in
    let one : ◌≡◌ {A = ℕ} (cond (is_failed call name lists.entry) 1 0) 1 = ap (λ b. cond {A = ℕ} b 1 0) (is_failed-entry call name lists.entry lists.kind lists.on) in
    record {
      no_less = λ other. omega (arith, more other);
      ok = tt;
      still = λ not_failed. absurd (not_failed refl);
      cause = λ e. inl (omega (arith, more name, one));
    }
counts_fault OutOfMemory call name old new listed none =
    record {
      no_less = λ other. omega (arith, ap (λ list. failed_in list call other) (none refl));
      ok = tt;
      still = λ not_failed other. ap (λ list. failed_in list call other) (none refl);
      cause = λ e. cc;
    }

-- the numbers of another kind
others_same : (fault : IoFault) (call other : DepotCall) (name : List ℕ) (old new : List FailedCall) → is_same_call other call ≡ false
    → (fault ≡ Failed → Lists call name old new) → (fault ≡ OutOfMemory → new ≡ old) → SameCounts (failed_in old other) (failed_in new other)
others_same Failed call other name old new differ listed none at =
    let lists : Lists call name old new = listed refl in
    let kind : is_same_call other lists.entry.call ≡ false = ap (is_same_call other) lists.kind ∙ differ in
    let no : is_failed other at lists.entry ≡ false = ap (λ b. b && bytes_eq (string_bytes lists.entry.name) at) kind in
    let zero : ◌≡◌ {A = ℕ} (cond (is_failed other at lists.entry) 1 0) 0 = ap (λ b. cond {A = ℕ} b 1 0) no in
    omega (arith, ap (λ list. failed_in list other at) lists.last ∙ failed_in-more old lists.entry other at, zero)
others_same OutOfMemory call other name old new differ listed none at = ap (λ list. failed_in list other at) (none refl)

pub fault_reads : {T : Type 0} (fault : IoFault) (name : List ℕ) (files : List NamedFile) (old new : List FailedCall)
    → (fault ≡ Failed → Lists Read name old new) → (fault ≡ OutOfMemory → new ≡ old)
    → OnlyReads {T = T} Failed (Err fault) name (files_state files old) (files_state files new)
fault_reads fault name files old new listed none = record {
  told = refl;
  kept = λ told other. refl;
  reads = counts_fault fault Read name old new listed none;
  creates = others_same fault Read Create name old new refl listed none;
  appends = others_same fault Read Append name old new refl listed none;
}

pub fault_creates : {T : Type 0} (fault : IoFault) (name : List ℕ) (files : List NamedFile) (old new : List FailedCall)
    → (fault ≡ Failed → Lists Create name old new) → (fault ≡ OutOfMemory → new ≡ old)
    → OnlyCreates {T = T} Failed (Err fault) name (files_state files old) (files_state files new)
fault_creates fault name files old new listed none = record {
  told = refl;
  reads = others_same fault Create Read name old new refl listed none;
  creates = counts_fault fault Create name old new listed none;
  appends = others_same fault Create Append name old new refl listed none;
}

pub fault_appends : {T : Type 0} (fault : IoFault) (name : List ℕ) (files : List NamedFile) (old new : List FailedCall)
    → (fault ≡ Failed → Lists Append name old new) → (fault ≡ OutOfMemory → new ≡ old)
    → OnlyAppends {T = T} Failed (Err fault) name (files_state files old) (files_state files new)
fault_appends fault name files old new listed none = record {
  told = refl;
  reads = others_same fault Append Read name old new refl listed none;
  creates = others_same fault Append Create name old new refl listed none;
  appends = counts_fault fault Append name old new listed none;
}

-- one number that is that of every name, after a fault of its kind
pub counts_for_all : {T : Type 0} (fault : IoFault) (name : List ℕ) (old new : ℕ) → old ≤ new → (fault ≡ Failed → Rose old new)
    → (fault ≡ OutOfMemory → new ≡ old) → CountsByName {T = T} Failed (Err fault) name (λ _. old) (λ _. new)
counts_for_all Failed name old new less rose same = record { no_less = λ _. less; ok = tt; still = λ not_failed. absurd (not_failed refl); cause = λ _. rose refl }
counts_for_all OutOfMemory name old new less rose same = record { no_less = λ _. less; ok = tt; still = λ _ _. same refl; cause = λ e. cc }
