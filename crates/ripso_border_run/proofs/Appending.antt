-- An append of nothing.
use Rattle.std.proofs.Common.{◌≡◌, ℕ, List, [], Option, Some, None, Ok, refl, sym, ap, ◌∙◌, arith}
use Rattle.std.specs.Prelude.{IsTrue, IsSome}
use Rattle.std.proofs.lemmas.List.{append-nil}
use Rattle.net_io.specs.Depot.{DepotState}
use Rattle.captures.specs.Output.{HasAppended}

some_of : (o : Option (List ℕ)) → IsSome o → (held : List ℕ) × (o ≡ Some held)
some_of None there = absurd (cc)
some_of (Some held) there = (held, refl)

pub nothing_appended : (name waits : List ℕ) (folder : DepotState) → (IsTrue folder.tells → IsSome (folder.held name)) → HasAppended (Ok tt) name [] waits waits folder folder
nothing_appended name waits folder there = record {
  here = λ told. (let held = some_of (folder.held name) (there told) in record {
    held = held.0;
    sent = [];
    rest = waits;
    was = held.1;
    now = held.1 ∙ ap (λ h. Some h) (sym (append-nil held.0));
    all = sym (append-nil waits);
    left = refl;
  });
  others = λ told other apart. refl;
  frame = record {
    told = refl;
    reads = λ other. refl;
    creates = λ other. refl;
    appends = record { no_less = λ other. omega arith; ok = λ other. refl; still = λ e other. refl; cause = λ e. absurd cc };
  };
}
