-- What one call more does to a folder that calls before have left as it was.
use Rattle.std.proofs.Common.{ℕ, List, Result, Ok, sym, ◌∙◌, subst, arith}
use Rattle.std.specs.Prelude.{IsTrue}
use Rattle.std.proofs.lemmas.Result.{on_ok_weaker}
use Rattle.net_io.specs.Depot.{DepotState, OnlyReads, OnlyAppends}
use Rattle.net_io.specs.Faults.{CountsByName, Rose}

counts_on : {T U E : Type 0} (failed : E) (ok : T) (result : Result U E) (name : List ℕ) (a b c : List ℕ → ℕ)
    → CountsByName {T = T} {E = E} failed (Ok ok) name a b → CountsByName failed result name b c → CountsByName failed result name a c
counts_on failed ok result name a b c before now = record {
  no_less = λ other. omega (arith, before.no_less other, now.no_less other);
  ok = on_ok_weaker result (λ same other. same other ∙ before.ok other) now.ok;
  still = λ not_failed other. now.still not_failed other ∙ before.ok other;
  cause = λ e. subst (λ n. Rose n (c name)) (before.ok name) (now.cause e);
}

pub reads_on : {T U E : Type 0} (failed : E) (ok : T) (result : Result U E) (name : List ℕ) (a b c : DepotState)
    → OnlyReads {T = T} {E = E} failed (Ok ok) name a b → OnlyReads failed result name b c → OnlyReads failed result name a c
reads_on failed ok result name a b c before now = record {
  told = now.told ∙ before.told;
  kept = λ told other. now.kept (subst IsTrue (sym before.told) told) other ∙ before.kept told other;
  reads = counts_on failed ok result name a.reads b.reads c.reads before.reads now.reads;
  creates = λ other. now.creates other ∙ before.creates other;
  appends = λ other. now.appends other ∙ before.appends other;
}

pub appends_on : {T U E : Type 0} (failed : E) (ok : T) (result : Result U E) (name : List ℕ) (a b c : DepotState)
    → OnlyAppends {T = T} {E = E} failed (Ok ok) name a b → OnlyAppends failed result name b c → OnlyAppends failed result name a c
appends_on failed ok result name a b c before now = record {
  told = now.told ∙ before.told;
  reads = λ other. now.reads other ∙ before.reads other;
  creates = λ other. now.creates other ∙ before.creates other;
  appends = counts_on failed ok result name a.appends b.appends c.appends before.appends now.appends;
}

counts_any : {T U E : Type 0} (failed : E) (n : T) (m : U) (name : List ℕ) (a b : List ℕ → ℕ)
    → CountsByName {T = T} {E = E} failed (Ok n) name a b → CountsByName {T = U} {E = E} failed (Ok m) name a b
counts_any failed n m name a b counts = record { no_less = counts.no_less; ok = counts.ok; still = λ _. counts.ok; cause = λ e. cc }

-- whatever the answer was, where it was one
pub reads_any : {T U E : Type 0} (failed : E) (n : T) (m : U) (name : List ℕ) (a b : DepotState)
    → OnlyReads {T = T} {E = E} failed (Ok n) name a b → OnlyReads {T = U} {E = E} failed (Ok m) name a b
reads_any failed n m name a b r = record { told = r.told; kept = r.kept; reads = counts_any failed n m name a.reads b.reads r.reads; creates = r.creates; appends = r.appends }

pub appends_any : {T U E : Type 0} (failed : E) (n : T) (m : U) (name : List ℕ) (a b : DepotState)
    → OnlyAppends {T = T} {E = E} failed (Ok n) name a b → OnlyAppends {T = U} {E = E} failed (Ok m) name a b
appends_any failed n m name a b r = record { told = r.told; reads = r.reads; creates = r.creates; appends = counts_any failed n m name a.appends b.appends r.appends }
