-- What appends to an output make of it.
use Rattle.std.specs.Prelude.{OnOk}
use Rattle.std.proofs.Common.{◌≡◌, ◌≢◌, ℕ, IsTrue, IsSome, List, ◌++◌, Option, Some, None, Result, refl, sym, ap, subst, ◌∙◌, append_assoc}
use Rattle.net_io.specs.Depot.{DepotState}
use Rattle.captures.specs.Output as output
use Rattle.net_io.specs.declared.fault.IoFault.{IoFault}
use Rattle.script_run.specs.declared.flow_run.end.FlowStop.{FlowStop}
use Rattle.script_run.specs.flow_run.inside.Output.{IsAppended, IsThere, AppendsMove, HasAppended}

pub there_is : (name name' : List ℕ) (folder : DepotState) → name' ≡ name → IsThere (Some name) folder → IsTrue folder.tells → IsSome (folder.held name')
there_is name name' folder same there told =
    let held = there told name refl in
    subst (λ (n : List ℕ). IsSome (folder.held n)) (sym same) (rw held.1 refl)

-- what was appended, by a result, as up to a stop
appended_to : (result : Result (Unit {0}) IoFault) (stop : Option FlowStop) (octets waits : List ℕ) (old new : Option (List ℕ)) → (stop ≡ None → (rest : List ℕ) → OnOk result (rest ≡ waits) → rest ≡ waits)
    → output.IsAppended result octets waits old new → IsAppended stop octets waits old new
appended_to result stop octets waits old new ok one = record { held = one.held; sent = one.sent; rest = one.rest; was = one.was; now = one.now; all = one.all; left = λ none. ok none one.rest one.left }

other_name : (name other : List ℕ) → (let one : Option (List ℕ) = Some name in one ≢ Some other) → other ≢ name
other_name name other apart same = apart (ap Some (sym same))

pub has_appended : (result : Result (Unit {0}) IoFault) (stop : Option FlowStop) (name octets waits waits' : List ℕ) (old new : DepotState)
    → (stop ≡ None → (rest : List ℕ) → OnOk result (rest ≡ waits') → rest ≡ waits') → output.HasAppended result name octets waits waits' old new
    → AppendsMove stop (Some name) old.appends new.appends → HasAppended stop (Some name) octets waits waits' old new
has_appended result stop name octets waits waits' old new ok appended moved = record {
  told = appended.frame.told;
  here = λ told other same.
      let is : name ≡ other = cc in
      subst (λ (n : List ℕ). IsAppended stop (waits ++ octets) waits' (old.held n) (new.held n)) is (appended_to result stop (waits ++ octets) waits' (old.held name) (new.held name) ok (appended.here told));
  others = λ told other apart. appended.others told other (other_name name other apart);
  reads = appended.frame.reads;
  creates = appended.frame.creates;
  still = λ none. absurd cc;
  moved = moved;
}

-- one behind the other
pub appended_more : (stop : Option FlowStop) (text octets waits waits' : List ℕ) (a b c : Option (List ℕ)) → IsAppended None text waits a b → IsAppended stop (waits ++ octets) waits' b c
    → IsAppended stop (text ++ octets) waits' a c
appended_more stop text octets waits waits' a b c one other =
    let same : other.held ≡ one.held ++ one.sent = let eq = sym other.was ∙ one.now in cc in
    record {
      held = one.held;
      sent = one.sent ++ other.sent;
      rest = other.rest;
      was = one.was;
      now = other.now ∙ ap (λ h. Some (h ++ other.sent)) same ∙ ap Some (append_assoc one.held one.sent other.sent);
      all =
          append_assoc one.sent other.sent other.rest
          ∙ ap (λ t. one.sent ++ t) other.all
          ∙ sym (append_assoc one.sent waits octets)
          ∙ ap (λ w. (one.sent ++ w) ++ octets) (sym (one.left refl))
          ∙ ap (λ t. t ++ octets) one.all;
      left = other.left;
    }

-- a text that isn't added any more
pub appended_cut : (stop : FlowStop) (text octets waits waits' : List ℕ) (a b : Option (List ℕ)) → IsAppended None text waits a b → IsAppended (Some stop) (text ++ octets) waits' a b
appended_cut stop text octets waits waits' a b one = record {
  held = one.held;
  sent = one.sent;
  rest = one.rest ++ octets;
  was = one.was;
  now = one.now;
  all = sym (append_assoc one.sent one.rest octets) ∙ ap (λ t. t ++ octets) one.all;
  left = λ none. absurd cc;
}

pub appended_stops : (stop : Option FlowStop) (text waits : List ℕ) (a b : Option (List ℕ)) → IsAppended None text waits a b → IsAppended stop text waits a b
appended_stops stop text waits a b one = record {
  held = one.held;
  sent = one.sent;
  rest = one.rest;
  was = one.was;
  now = one.now;
  all = one.all;
  left = λ none. one.left refl;
}
