-- What a failing append leaves.
use Rattle.std.proofs.Common.{◌≡◌, ℕ, IsTrue, IsSome, List, [], ◌++◌, take, drop, Option, Some, None, Err, refl, sym, ap, ◌∙◌}
use Rattle.std.proofs.lemmas.List.{append-nil, take-append-drop}
use Rattle.net_io.specs.Depot.{DepotState, octets_of, AppendsPrefix, OnlyAppends}
use Rattle.net_io.specs.declared.fault.IoFault.{IoFault}
use Rattle.net_io.specs.declared.fault.IoFault.TheVariants.{Failed}
use Rattle.captures.specs.Output.{IsAppended, HasAppended}

some_held : (file : Option (List ℕ)) → IsSome file → (octets : List ℕ) × (file ≡ Some octets)
some_held (Some octets) there = (octets, refl)
some_held None there = absurd (cc)

module _ (fault : IoFault) (name waits : List ℕ) (old new : DepotState) where
  -- some first octets were appended, and not all
  part_appended : IsSome (old.held name) → AppendsPrefix name waits old.held new.held → IsAppended (Err fault) (waits ++ []) waits (old.held name) (new.held name)
  part_appended there part =
      let held = some_held (old.held name) there in
      record {
        held = held.0;
        sent = take part.count waits;
        rest = drop part.count waits;
        was = held.1;
        now = part.holds.here ∙ ap (λ (o : Option (List ℕ)). Some (octets_of o ++ take part.count waits)) held.1;
        all = take-append-drop part.count waits ∙ sym (append-nil waits);
        left = tt;
      }

  pub append_fails : (IsTrue old.tells → IsSome (old.held name)) → (IsTrue old.tells → AppendsPrefix name waits old.held new.held)
      → OnlyAppends {T = Unit {0}} Failed (Err fault) name old new → HasAppended (Err fault) name [] waits waits old new
  append_fails there part only = record {
    here = λ told. part_appended (there told) (part told);
    others = λ told other apart. (part told).holds.elsewhere other apart;
    frame = only;
  }
