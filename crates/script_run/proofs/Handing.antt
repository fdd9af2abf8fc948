-- Texts that were handed on, and what was printed where they are followed by an end.
use Rattle.std.proofs.Common.{◌≡◌, ℕ, List, [], ◌++◌, Ok, Err, refl, sym, ap, subst, ◌∙◌, arith, append_assoc, length-append, inl, inr}
use Rattle.std.specs.Prelude.{IsTrue}
use Rattle.std.proofs.lemmas.List.{append-nil, take-append-le}
use Rattle.net_io.specs.declared.fault.IoFault.{IoFault}
use Rattle.net_io.specs.Faults.{Rose}
use Rattle.net_io.specs.Sink.{SinkState, WritesPrefix}
use Rattle.call_report.specs.declared.status.Status.{Status}
use Rattle.call_report.specs.declared.status.Status.TheVariants.{OutOfMemory, WriteFault}
use Rattle.call_report.specs.Status.{write_status}
use Rattle.call_report.specs.Printing.{Breaks, HandsOn, IsUnderWay, Printed}
use Rattle.call_report.proofs.Law.{a_report_goes_on, a_failing_text_ends_a_report, a_failing_part_is_a_failing_whole, a_report_is_printed, a_whole_text_is_a_front}

-- a text that was handed on behind what waited is under way
pub way_of : {T : Type 0} (text waits still : List ℕ) (x : T) (a b : SinkState) → HandsOn text waits still (Ok x) a b → IsUnderWay (waits ++ text) still a b
way_of text waits still x a b hands = record { goes = hands.ok; told = hands.told; faults = hands.counts.ok }

-- an end was printed behind it
pub printed_behind : {T : Type 0} (text waits still last : List ℕ) (x : T) (due status : Status) (a b c : SinkState) → HandsOn text waits still (Ok x) a b → Printed still last due status b c → Printed (waits ++ text) last due status a c
printed_behind text waits still last x due status a b c hands printed = a_report_is_printed (waits ++ text) still a b (way_of text waits still x a b hands) last due status c printed

-- it failed
pub printed_failing : {T : Type 0} (text waits still : List ℕ) (fault : IoFault) (due : Status) (a b : SinkState) → HandsOn {T = T} text waits still (Err fault) a b → Printed (waits ++ text) [] due (write_status fault) a b
printed_failing {T} text waits still fault due a b hands =
    let all : HandsOn {T = T} (waits ++ text) [] still (Err fault) a b = record { ok = tt; err = hands.err; told = hands.told; counts = hands.counts } in
    subst (λ (t : List ℕ). Printed t [] due (write_status fault) a b) (append-nil (waits ++ text)) (a_failing_text_ends_a_report (waits ++ text) [] still [] fault due a b all)

-- a write failed in a part of a text
pub printed_broken : (part more whole : List ℕ) (due : Status) (a b : SinkState) → part ++ more ≡ whole → b.tells ≡ a.tells → Rose a.faults b.faults → Breaks part a b → Printed whole [] due WriteFault a b
printed_broken part more whole due a b is told rose breaks = record {
  told = told;
  how = inr (inr (inl (refl, rose, subst (λ (t : List ℕ). Breaks t a b) is (a_failing_part_is_a_failing_whole part more a b breaks))));
}

front_of_more : (part more old new : List ℕ) → WritesPrefix part old new → WritesPrefix (part ++ more) old new
front_of_more part more old new front = record {
  count = front.count;
  within = omega (arith, front.within, length-append part more);
  written = front.written ∙ ap (λ t. old ++ t) (sym (take-append-le front.count part more (omega (arith, front.within))));
}

-- memory ran out in a part of a text
pub printed_in_part : (part more whole : List ℕ) (due : Status) (a b : SinkState) → part ++ more ≡ whole → b.tells ≡ a.tells → b.faults ≡ a.faults → (IsTrue a.tells → WritesPrefix part a.written b.written) → Printed whole [] due OutOfMemory a b
printed_in_part part more whole due a b is told same front = record {
  told = told;
  how = inr (inl (refl, same, λ t. subst (λ (w : List ℕ). WritesPrefix (w ++ []) a.written b.written) is (front_of_more (part ++ more) [] a.written b.written (front_of_more part more a.written b.written (front t)))));
}

pub in_parts : (waits text more rest : List ℕ) → (waits ++ text) ++ (more ++ rest) ≡ waits ++ ((text ++ more) ++ rest)
in_parts waits text more rest = append_assoc waits text (more ++ rest) ∙ ap (λ t. waits ++ t) (sym (append_assoc text more rest))

whole_front : (text old new : List ℕ) → new ≡ old ++ (text ++ []) → WritesPrefix (text ++ []) old new
whole_front text old new is = a_whole_text_is_a_front text [] old new (is ∙ ap (λ t. old ++ t) (append-nil text))

-- what was to end for want of memory ends so with a longer body too
pub printed_more : (body more : List ℕ) (status : Status) (a b : SinkState) → Printed body [] OutOfMemory status a b → Printed (body ++ more) [] OutOfMemory status a b
printed_more body more status a b printed = record {
  told = printed.told;
  how = elim printed.how [
    | inl all ↦ inr (inl (all.0, all.1, λ told. of_part (whole_front body a.written b.written (all.2 told))))
    | inr rest ↦ elim rest [
      | inl short ↦ inr (inl (short.0, short.1, λ told. of_part (short.2 told)))
      | inr broken ↦ elim broken [
        | inl failed ↦ inr (inr (inl (failed.0, failed.1, a_failing_part_is_a_failing_whole body more a b failed.2)))
        | inr line ↦ absurd (omega (arith, line.2))
      ]
    ]
  ];
} where
  of_part : WritesPrefix (body ++ []) a.written b.written → WritesPrefix ((body ++ more) ++ []) a.written b.written
  of_part front = front_of_more (body ++ more) [] a.written b.written (front_of_more body more a.written b.written (subst (λ (t : List ℕ). WritesPrefix t a.written b.written) (append-nil body) front))

-- memory ran out while a text was under way
pub printed_on_the_way : (text waits more : List ℕ) (due : Status) (a b : SinkState) → IsUnderWay text waits a b → Printed (text ++ more) [] due OutOfMemory a b
printed_on_the_way text waits more due a b way =
    printed_in_part way.goes.sent (waits ++ more) (text ++ more) due a b (sym (append_assoc way.goes.sent waits more) ∙ ap (λ t. t ++ more) way.goes.all) way.told way.faults
    (λ told. subst (λ (t : List ℕ). WritesPrefix t a.written b.written) (append-nil way.goes.sent) (a_whole_text_is_a_front way.goes.sent [] a.written b.written (way.goes.written told)))

-- with which statuses a report ends
pub ends_so : (P : Status → Type 0) (body last : List ℕ) (due status : Status) (a b : SinkState) → Printed body last due status a b → P due → (b.faults ≡ a.faults → P OutOfMemory) → (Rose a.faults b.faults → P WriteFault) → P status
ends_so P body last due status a b printed here memory failed =
    elim printed.how [
      | inl all ↦ subst P (sym all.0) here
      | inr rest ↦ elim rest [
        | inl short ↦ subst P (sym short.0) (memory short.1)
        | inr broken ↦ elim broken [
          | inl body ↦ subst P (sym body.0) (failed body.1)
          | inr line ↦ subst P (sym line.0) here
        ]
      ]
    ]

-- a report that has no line behind its body has that status only where no write has failed
pub ends_done : (P : Status → Type 0) (body : List ℕ) (due status : Status) (a b : SinkState) → Printed body [] due status a b → (b.faults ≡ a.faults → P due) → (b.faults ≡ a.faults → P OutOfMemory) → (Rose a.faults b.faults → P WriteFault) → P status
ends_done P body due status a b printed here memory failed =
    elim printed.how [
      | inl all ↦ subst P (sym all.0) (here all.1)
      | inr rest ↦ elim rest [
        | inl short ↦ subst P (sym short.0) (memory short.1)
        | inr broken ↦ elim broken [
          | inl body ↦ subst P (sym body.0) (failed body.1)
          | inr line ↦ absurd (omega (arith, line.2))
        ]
      ]
    ]

-- a text behind what waits, and behind all that was handed on
pub ways_join : (text more waits still : List ℕ) (a b c : SinkState) → IsUnderWay text waits a b → IsUnderWay (waits ++ more) still b c → IsUnderWay (text ++ more) still a c
ways_join text more waits still a b c way next =
    let hands : HandsOn {T = Unit {0}} more waits still (Ok tt) b c = record { ok = next.goes; err = tt; told = next.told; counts = record { no_less = omega (arith, next.faults); ok = next.faults; still = λ _. next.faults; cause = λ e. absurd cc } } in
    a_report_goes_on text waits a b way more still tt c hands
