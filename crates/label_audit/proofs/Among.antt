-- Reads of several names, one behind another, whatever a call answers.
use Rattle.std.proofs.Common.{◌≡◌, ℕ, suc, List, ◌∷◌, Result, Ok, Err, refl, sym, ap, subst, ◌∙◌, arith}
use Rattle.std.specs.Prelude.{IsTrue, IsErrOf, Contains, OnOk}
use Rattle.std.proofs.lemmas.Result.{on_ok_weaker}
use Rattle.net_io.specs.Depot.{DepotState, OnlyReads}
use Rattle.net_io.specs.Faults.{Rose}
use Rattle.label_audit.specs.Reads.{OnlyReadsAmong}

pub is_first : {X : Type 0} (x : X) (xs : List X) → Contains (x ∷ xs) x
is_first x xs = (0, omega arith, refl)

pub is_behind : {X : Type 0} (x y : X) (xs : List X) → Contains xs y → Contains (x ∷ xs) y
is_behind x y xs c = (suc c.0, omega (arith, c.1), c.2)

pub on_ok_of : {T E P : Type 0} (result : Result T E) → P → OnOk result P
on_ok_of (Ok given) fact = fact
on_ok_of (Err error) fact = tt

module _ {E : Type 0} {failed : E} where
  pub nothing_read : {T : Type 0} {given : T} {names : List (List ℕ)} {a : DepotState} → OnlyReadsAmong failed (Ok given) names a a
  nothing_read {T} {given} {names} {a} = record {
    told = refl;
    kept = λ told name. refl;
    reads = record { no_less = λ name. omega arith; ok = λ name. refl; still = λ _ name. refl; cause = λ e. absurd cc };
    creates = λ name. refl;
    appends = λ name. refl;
  }

  -- of one of them
  pub one_among : {T : Type 0} {result : Result T E} {names : List (List ℕ)} {name : List ℕ} {a b : DepotState} → Contains names name → OnlyReads failed result name a b → OnlyReadsAmong failed result names a b
  one_among {T} {result} {names} {name} one only = record {
    told = only.told;
    kept = only.kept;
    reads = record { no_less = only.reads.no_less; ok = only.reads.ok; still = only.reads.still; cause = λ e. (name, one, only.reads.cause e) };
    creates = only.creates;
    appends = only.appends;
  }

  -- of names that are all among others
  pub more_among : {T : Type 0} {result : Result T E} {names others : List (List ℕ)} {a b : DepotState} → ((name : List ℕ) → Contains names name → Contains others name) → OnlyReadsAmong failed result names a b
      → OnlyReadsAmong failed result others a b
  more_among more only = record {
    told = only.told;
    kept = only.kept;
    reads = record { no_less = only.reads.no_less; ok = only.reads.ok; still = only.reads.still; cause = λ e. let c = only.reads.cause e in (c.0, more c.0 c.1, c.2) };
    creates = only.creates;
    appends = only.appends;
  }

  -- behind reads that were answered
  pub among_on : {T U : Type 0} {given : T} {result : Result U E} {names : List (List ℕ)} {a b c : DepotState} → OnlyReadsAmong failed (Ok given) names a b → OnlyReadsAmong failed result names b c → OnlyReadsAmong failed result names a c
  among_on {T} {U} {given} {result} {names} {a} {b} {c} one two = record {
    told = two.told ∙ one.told;
    kept = λ told name. two.kept (subst IsTrue (sym one.told) told) name ∙ one.kept told name;
    reads = record {
      no_less = λ name. omega (arith, one.reads.no_less name, two.reads.no_less name);
      ok = on_ok_weaker result (λ same name. same name ∙ one.reads.ok name) two.reads.ok;
      still = λ other name. two.reads.still other name ∙ one.reads.ok name;
      cause = λ e. let because = two.reads.cause e in (because.0, because.1, subst (λ (n : ℕ). Rose n (c.reads because.0)) (one.reads.ok because.0) because.2);
    };
    creates = λ name. two.creates name ∙ one.creates name;
    appends = λ name. two.appends name ∙ one.appends name;
  }

  -- with another answer, but that they failed
  pub among_as : {T U : Type 0} {given : T} (result : Result U E) {names : List (List ℕ)} {a b : DepotState} → (IsErrOf result failed → ⊥) → OnlyReadsAmong failed (Ok given) names a b → OnlyReadsAmong failed result names a b
  among_as result other only = record {
    told = only.told;
    kept = only.kept;
    reads = record { no_less = only.reads.no_less; ok = on_ok_of result only.reads.ok; still = λ _. only.reads.ok; cause = λ e. absurd (other e) };
    creates = only.creates;
    appends = only.appends;
  }

  -- the same fault of another call
  pub among_err : {T U : Type 0} {why : E} {names : List (List ℕ)} {a b : DepotState} → OnlyReadsAmong {T = T} failed (Err why) names a b → OnlyReadsAmong {T = U} failed (Err why) names a b
  among_err {T} {U} {why} only = record {
    told = only.told;
    kept = only.kept;
    reads = record {
      no_less = only.reads.no_less;
      ok = tt;
      still = λ other. only.reads.still (λ e. other (let same : why ≡ failed = cc in ap Err same));
      cause = λ e. only.reads.cause (let same : why ≡ failed = cc in ap Err same);
    };
    creates = only.creates;
    appends = only.appends;
  }

-- an answer has no fault, whatever the faults are named
pub among_answer : {T U E F : Type 0} {failed : E} {failed' : F} {given : T} {answer : U} {names : List (List ℕ)} {a b : DepotState} → OnlyReadsAmong failed (Ok given) names a b → OnlyReadsAmong failed' (Ok answer) names a b
among_answer only = record {
  told = only.told;
  kept = only.kept;
  reads = record { no_less = only.reads.no_less; ok = only.reads.ok; still = λ _. only.reads.ok; cause = λ e. absurd cc };
  creates = only.creates;
  appends = only.appends;
}
