-- The lines of a flow, one behind the other, up to a stop.
use Rattle.std.proofs.Common.{◌≡◌, ◌<◌, ℕ, ◌+◌, List, [], ◌∷◌, ◌++◌, length, Some, Ok, Err, refl, sym, ap, subst, ◌∙◌, append_assoc, arith}
use Rattle.std.proofs.lemmas.List.{append-nil}
use Rattle.net_io.specs.Sink.{SinkState, WritesPrefix}
use Rattle.net_io.specs.declared.fault.IoFault.{IoFault}
use Rattle.net_io.specs.declared.fault.IoFault.TheVariants as io
use Rattle.label_commands.specs.declared.flow_lines.hop.Hop.{Hop}
use Rattle.label_flow.specs.declared.packet_walk.walked.Walked.{Walked}
use Rattle.label_flow.specs.Pair.{PairState}
use Rattle.call_report.specs.Lines.Flow.{walked_line}
use Rattle.call_report.specs.Printing.{HandsOn}
use Rattle.call_report.proofs.Law.{texts_join, a_whole_text_is_a_front}
use Rattle.script_run.specs.flow_run.Run.{walked_lines}
use Rattle.script_run.specs.flow_run.Ends.{IsHandedOn, IsCutOff}
use Rattle.script_run.specs.flow_run.inside.Taken.{IsPrintedTo, print_stop}

pub some_walked : (flow number : ℕ) (names : List (List ℕ)) (hops : List Hop) (walked : Walked) → 0 < length (walked_line flow number names hops walked)
unfolding walked_line
some_walked flow number names hops walked = omega arith

-- all but what waits is a front of all
pub cut_off : (text waits waits' : List ℕ) (a b : SinkState) → IsHandedOn text waits waits' a b → IsCutOff text waits a b
cut_off text waits waits' a b hands = record {
  told = hands.told;
  faults = hands.counts.ok;
  prefix = λ told.
      let goes = hands.ok in
      subst (λ (t : List ℕ). WritesPrefix t a.written b.written) goes.all (a_whole_text_is_a_front goes.sent waits' a.written b.written (goes.written told));
}

pub cut_broken : (text waits waits' : List ℕ) (a b : SinkState) → HandsOn {T = Unit {0}} text waits waits' (Err io.OutOfMemory) a b → IsCutOff text waits a b
cut_broken text waits waits' a b hands = record {
  told = hands.told;
  faults = hands.counts.still (λ failed. absurd cc);
  prefix = λ told.
      let less = hands.err.written told in
      record { count = less.count; within = omega (arith, less.within); written = less.written };
}

-- a line that fails
pub print_fails : (fault : IoFault) (text line waits mid still : List ℕ) (a b c : SinkState) → IsHandedOn text waits mid a b → HandsOn {T = Unit {0}} line mid still (Err fault) b c
    → IsPrintedTo (Some (print_stop fault)) (text ++ line) waits still a c
print_fails io.Failed text line waits mid still a b c one other =
    let all = texts_join text line waits mid still tt (Err io.Failed) a b c one other in
    (all.told, all.counts.cause refl, all.err)
print_fails io.OutOfMemory text line waits mid still a b c one other =
    cut_broken (text ++ line) waits still a c (texts_join text line waits mid still tt (Err io.OutOfMemory) a b c one other)

pub print_goes : (text line waits mid still : List ℕ) (a b c : SinkState) → IsHandedOn text waits mid a b → IsHandedOn line mid still b c → IsHandedOn (text ++ line) waits still a c
print_goes text line waits mid still a b c one other = texts_join text line waits mid still tt (Ok tt) a b c one other

-- one more packet's line
pub lines_more : (flow number : ℕ) (names : List (List ℕ)) (hops : List Hop) (pairs : List PairState) (p : PairState)
    → walked_lines flow number names hops (pairs ++ p ∷ []) ≡ walked_lines flow number names hops pairs ++ walked_line flow (number + length pairs) names hops p.walked
lines_more flow number names hops [] p =
    let same : number ≡ number + 0 = omega arith in
    append-nil (walked_line flow number names hops p.walked) ∙ ap (λ n. walked_line flow n names hops p.walked) same
lines_more flow number names hops (q ∷ pairs) p =
    let next : (number + 1) + length pairs ≡ number + length (q ∷ pairs) = omega arith in
    ap (λ t. walked_line flow number names hops q.walked ++ t) (lines_more flow (number + 1) names hops pairs p)
    ∙ ap (λ n. walked_line flow number names hops q.walked ++ (walked_lines flow (number + 1) names hops pairs ++ walked_line flow n names hops p.walked)) next
    ∙ sym (append_assoc (walked_line flow number names hops q.walked) (walked_lines flow (number + 1) names hops pairs) (walked_line flow (number + length (q ∷ pairs)) names hops p.walked))
