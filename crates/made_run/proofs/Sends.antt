-- What appends make of the file, and what the making of it leaves.
use Rattle.std.specs.Prelude.{OnOk}
use Rattle.std.proofs.Common.{◌≡◌, ℕ, IsTrue, IsSome, List, [], ◌++◌, Option, Some, None, Result, refl, sym, ap, subst, ◌∙◌, append_assoc}
use Rattle.std.proofs.lemmas.List.{append-nil}
use Rattle.net_io.specs.Depot.{DepotState}
use Rattle.captures.specs.Output as output
use Rattle.net_io.specs.Faults.{Rose, SameCounts}
use Rattle.net_io.specs.declared.fault.IoFault.{IoFault}
use Rattle.made_run.specs.declared.stop.MadeStop.{MadeStop}
use Rattle.made_run.specs.declared.stop.MadeStop.TheVariants.{Create, Append, OutOfMemory}
use Rattle.made_run.specs.inside.File.{IsSent, IsBegun, AppendsMove, HasAppended, HasSent}

-- ---- what a file holds

pub there_is : (text waits : List ℕ) (file : Option (List ℕ)) → IsSent text waits file → IsSome file
there_is text waits file sent = rw sent.holds refl

-- what an append leaves: the text goes on from what was sent before
sent_on : (result : Result (Unit {0}) IoFault) (text waits waits' : List ℕ) (old new : Option (List ℕ)) → output.IsAppended result (waits ++ []) waits' old new → IsSent text waits old
    → (rest : List ℕ) × IsSent text rest new × OnOk result (rest ≡ waits')
sent_on result text waits waits' old new one was =
    let same : one.held ≡ was.sent = let eq = sym one.was ∙ was.holds in cc in (
      one.rest,
      record {
        sent = was.sent ++ one.sent;
        holds = one.now ∙ ap (λ h. Some (h ++ one.sent)) same;
        all = append_assoc was.sent one.sent one.rest ∙ ap (λ t. was.sent ++ t) (one.all ∙ append-nil waits) ∙ was.all;
      },
      one.left,
    )

-- the text goes on, and what goes on waits too
pub sent_more : (text waits more : List ℕ) (file : Option (List ℕ)) → IsSent text waits file → IsSent (text ++ more) (waits ++ more) file
sent_more text waits more file was = record { sent = was.sent; holds = was.holds; all = sym (append_assoc was.sent waits more) ∙ ap (λ t. t ++ more) was.all }

pub begun_more : (text more : List ℕ) (file : Option (List ℕ)) → IsBegun text file → IsBegun (text ++ more) file
begun_more text more file was = (was.0 ++ more, sent_more text was.0 more file was.1)

-- ---- an append of what waits

pub has_sent : (result : Result (Unit {0}) IoFault) (stop : Option MadeStop) (name waits waits' : List ℕ) (old new : DepotState)
    → (stop ≡ None → (rest : List ℕ) → OnOk result (rest ≡ waits') → rest ≡ waits') → (stop ≡ None → waits' ≡ [])
    → output.HasAppended result name [] waits waits' old new → AppendsMove name stop old.appends new.appends → HasSent name stop waits waits' old new
has_sent result stop name waits waits' old new ok empty appended moved = record {
  appended = record {
    told = appended.frame.told;
    others = appended.others;
    reads = appended.frame.reads;
    creates = appended.frame.creates;
    moved = moved;
  };
  sent = empty;
  text = λ told text was.
      let on = sent_on result text waits waits' (old.held name) (new.held name) (appended.here told) was in
      (on.0, on.1, λ none. ok none on.0 on.2 ∙ empty none);
}

-- ---- one behind the other

rose_from : (a b c : ℕ) → b ≡ a → Rose b c → Rose a c
rose_from a b c same rose = subst (λ (n : ℕ). Rose n c) same rose

pub moved_more : (name : List ℕ) (stop : Option MadeStop) (a b c : List ℕ → ℕ) → SameCounts a b → AppendsMove name stop b c → AppendsMove name stop a c
moved_more name None a b c same moved = λ other. moved other ∙ same other
moved_more name (Some Create) a b c same moved = moved
moved_more name (Some Append) a b c same rose = rose_from (a name) (b name) (c name) (same name) rose
moved_more name (Some OutOfMemory) a b c same moved = λ other. moved other ∙ same other

pub appended_none : (name : List ℕ) (stop : Option MadeStop) (a : DepotState) → AppendsMove name stop a.appends a.appends → HasAppended name stop a a
appended_none name stop a moved = record { told = refl; others = λ told other apart. refl; reads = λ other. refl; creates = λ other. refl; moved = moved }

pub appended_more : (name : List ℕ) (stop : Option MadeStop) (a b c : DepotState) → HasAppended name None a b → HasAppended name stop b c → HasAppended name stop a c
appended_more name stop a b c one other = record {
  told = other.told ∙ one.told;
  others = λ told away apart. other.others (subst IsTrue (sym one.told) told) away apart ∙ one.others told away apart;
  reads = λ away. other.reads away ∙ one.reads away;
  creates = λ away. other.creates away ∙ one.creates away;
  moved = moved_more name stop a.appends b.appends c.appends one.moved other.moved;
}
