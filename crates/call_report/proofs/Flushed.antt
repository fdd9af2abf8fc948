-- A report all of whose text was handed on.
use Rattle.std.proofs.Common.{◌≡◌, ℕ, List, [], ◌++◌, Ok, subst}
use Rattle.std.proofs.lemmas.List.{append-nil}
use Rattle.net_io.specs.Sink.{SinkState}
use Rattle.call_report.specs.Printing.{Goes, HandsOn, IsUnderWay}

pub way_flushed : {T : Type 0} (waits still : List ℕ) (x : T) (a b : SinkState) → still ≡ [] → HandsOn [] waits still (Ok x) a b → IsUnderWay waits [] a b
way_flushed waits still x a b none hands = record {
  goes = subst (λ (t : List ℕ). Goes t [] a b) (append-nil waits) (subst (λ (w : List ℕ). Goes (waits ++ []) w a b) none hands.ok);
  told = hands.told;
  faults = hands.counts.ok;
}
