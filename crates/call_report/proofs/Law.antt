-- The statements of the laws, as terms.
use Rattle.std.proofs.Common.{◌≡◌, ◌<◌, ℕ, ◌+◌, suc, List, [], ◌++◌, length, take, slice_get, Some, Result, Ok, Err, refl, sym, ap, subst, ◌∙◌, arith, append_assoc, length-append, inl, inr}
use Rattle.std.specs.Prelude.{IsTrue, OnOk, OnErr}
use Rattle.std.proofs.Math.Seq.{take-append-add}
use Rattle.std.proofs.lemmas.List.{append-nil}
use Rattle.net_io.specs.declared.fault.IoFault.{IoFault}
use Rattle.net_io.specs.declared.fault.IoFault.TheVariants.{Failed, OutOfMemory as NoMemory}
use Rattle.net_io.specs.Faults.{Rose}
use Rattle.net_io.specs.Sink.{SinkState, WritesPrefix, WritesLess}
use Rattle.script_lines.specs.declared.command.Step.{Step}
use Rattle.node_tables.specs.declared.reply.Reply.{Reply}
use Rattle.node_tables.specs.Steps.{step_reply, tables_after}
use Rattle.call_report.specs.declared.status.Status.{Status}
use Rattle.call_report.specs.declared.status.Status.TheVariants.{OutOfMemory}
use Rattle.call_report.specs.Status.{write_status}
use Rattle.call_report.specs.Printing.{Goes, Breaks, HandsOn, IsUnderWay, Printed, EndsInLine}
use Rattle.call_report.specs.Lines.Reply.{reply_text, reply_line_at, replies_text}
pub use Rattle.call_report.proofs.Beginnings.{a_whole_text_is_a_front, a_part_of_a_text_is_a_front, less_of_a_text_is_less_of_more}
-- how a call ends, over all that any program says, which is of `Type 1`, so that no clause can state it
pub use Rattle.call_report.proofs.Endings.{HasLeft, HasMade, Keeps, Knows, Begins, HasParts, IsDue, IsOfForm, asks, never_8, none_when_done, IsNumberOf, own_number, HasCause, IsPart, PrintsSome}
pub use Rattle.call_report.proofs.Endings.{front_behind, part_of_line, begun_part, ends_refused, ends_unprinted, ends_with_nothing, ends_short, ends_unwritten, ends_unread, ends_stopped_short, ends_stopped_unread, ends_printed_as, ends_printed}
pub use Rattle.call_report.proofs.Endings.{only_read, makes_nothing, knows_reading, knows_file, ends_with_usage}

-- ---- beginnings

module _ (sent rest old mid new : List ℕ) (was : mid ≡ old ++ sent) where
  then_first : (n : ℕ) → new ≡ mid ++ take n rest → new ≡ old ++ take (length sent + n) (sent ++ rest)
  then_first n written =
      written
      ∙ ap (λ x. x ++ take n rest) was
      ∙ append_assoc old sent (take n rest)
      ∙ ap (λ x. old ++ x) (sym (take-append-add sent rest n))

  prefix_behind : WritesPrefix rest mid new → WritesPrefix (sent ++ rest) old new
  prefix_behind p = record { count = length sent + p.count; within = omega (arith, p.within, length-append sent rest); written = then_first p.count p.written }

  less_behind : WritesLess rest mid new → WritesLess (sent ++ rest) old new
  less_behind p = record { count = length sent + p.count; within = omega (arith, p.within, length-append sent rest); written = then_first p.count p.written }

-- ---- a report under way

pub a_report_begins : (a : SinkState) → IsUnderWay [] [] a a
a_report_begins a = record { goes = record { sent = []; all = refl; written = λ told. sym (append-nil a.written) }; told = refl; faults = refl }

module _ (text waits : List ℕ) (a b : SinkState) (way : IsUnderWay text waits a b) where
  -- the rest behind what was sent
  rest_is : (more : List ℕ) → way.goes.sent ++ (waits ++ more) ≡ text ++ more
  rest_is more = sym (append_assoc way.goes.sent waits more) ∙ ap (λ x. x ++ more) way.goes.all

  pub a_report_takes_a_text : (more : List ℕ) → IsUnderWay (text ++ more) (waits ++ more) a b
  a_report_takes_a_text more = record { goes = record { sent = way.goes.sent; all = rest_is more; written = way.goes.written }; told = way.told; faults = way.faults }

  pub a_report_goes_on : {T : Type 0} (line still : List ℕ) (x : T) (c : SinkState) → HandsOn line waits still (Ok x) b c → IsUnderWay (text ++ line) still a c
  a_report_goes_on line still x c hands =
      let first = way.goes in
      let next = hands.ok in
      record {
        goes = record {
          sent = first.sent ++ next.sent;
          all = append_assoc first.sent next.sent still ∙ ap (λ x. first.sent ++ x) next.all ∙ rest_is line;
          written = λ told. next.written (subst IsTrue (sym way.told) told) ∙ ap (λ x. x ++ next.sent) (first.written told) ∙ append_assoc a.written first.sent next.sent;
        };
        told = hands.told ∙ way.told;
        faults = hands.counts.ok ∙ way.faults;
      }

  rose_behind : (c : SinkState) → Rose b.faults c.faults → Rose a.faults c.faults
  rose_behind c rose = subst (λ (n : ℕ). Rose n c.faults) way.faults rose

  breaks_behind : (rest whole : List ℕ) (c : SinkState) → way.goes.sent ++ rest ≡ whole → Breaks rest b c → Breaks whole a c
  breaks_behind rest whole c is breaks = record {
    some = omega (arith, breaks.some, ap length is, length-append way.goes.sent rest);
    written = λ told. subst (λ (x : List ℕ). WritesLess x a.written c.written) is
        (less_behind way.goes.sent rest a.written b.written c.written (way.goes.written told) (breaks.written (subst IsTrue (sym way.told) told)));
  }

  -- a write has failed on the way
  pub a_report_breaks : (line : List ℕ) (c : SinkState) → Breaks (waits ++ line) b c → Breaks (text ++ line) a c
  a_report_breaks line c breaks = breaks_behind (waits ++ line) (text ++ line) c (rest_is line) breaks

  pub faults_rose_over_a_report : (c : SinkState) → Rose b.faults c.faults → Rose a.faults c.faults
  faults_rose_over_a_report = rose_behind

  prefix_more : (last : List ℕ) (c : SinkState) → (IsTrue b.tells → WritesPrefix (waits ++ last) b.written c.written) → IsTrue a.tells → WritesPrefix (text ++ last) a.written c.written
  prefix_more last c prefix told =
      subst (λ (x : List ℕ). WritesPrefix x a.written c.written) (rest_is last)
      (prefix_behind way.goes.sent (waits ++ last) a.written b.written c.written (way.goes.written told) (prefix (subst IsTrue (sym way.told) told)))

  all_more : (last : List ℕ) (c : SinkState) → (IsTrue b.tells → c.written ≡ b.written ++ (waits ++ last)) → IsTrue a.tells → c.written ≡ a.written ++ (text ++ last)
  all_more last c all told =
      all (subst IsTrue (sym way.told) told)
      ∙ ap (λ x. x ++ (waits ++ last)) (way.goes.written told)
      ∙ append_assoc a.written way.goes.sent (waits ++ last)
      ∙ ap (λ x. a.written ++ x) (rest_is last)

  line_more : (last : List ℕ) (c : SinkState) → (IsTrue b.tells → EndsInLine waits last b.written c.written) → IsTrue a.tells → EndsInLine text last a.written c.written
  line_more last c ends told =
      let here = ends (subst IsTrue (sym way.told) told) in
      record { count = here.count; within = here.within; written = all_more (take here.count last) c (λ t. here.written) told }

  -- the report's end behind its beginning
  pub a_report_is_printed : (last : List ℕ) (due status : Status) (c : SinkState) → Printed waits last due status b c → Printed text last due status a c
  a_report_is_printed last due status c printed = record {
    told = printed.told ∙ way.told;
    how = elim printed.how [
      | inl all ↦ inl (all.0, all.1 ∙ way.faults, all_more last c all.2)
      | inr rest ↦ elim rest [
        | inl memory ↦ inr (inl (memory.0, memory.1 ∙ way.faults, prefix_more last c memory.2))
        | inr failed ↦ elim failed [
          | inl body ↦ inr (inr (inl (body.0, rose_behind c body.1, breaks_behind waits text c way.goes.all body.2)))
          | inr line ↦ inr (inr (inr (line.0, rose_behind c line.1, line.2, line_more last c line.3)))
        ]
      ]
    ];
  }

-- ---- texts handed on

pub nothing_is_handed_on : {T : Type 0} (text waits : List ℕ) (x : T) (a : SinkState) → HandsOn text waits (waits ++ text) (Ok x) a a
nothing_is_handed_on text waits x a = record {
  ok = record { sent = []; all = refl; written = λ told. sym (append-nil a.written) };
  err = tt;
  told = refl;
  counts = record { no_less = omega arith; ok = refl; still = λ _. refl; cause = λ e. absurd cc };
}

pub a_text_is_handed_on : {T : Type 0} (text waits held still : List ℕ) (result : Result T IoFault) (a b : SinkState) → held ≡ waits ++ text → HandsOn [] held still result a b → HandsOn text waits still result a b
a_text_is_handed_on text waits held still result a b is hands =
    let same : held ++ [] ≡ waits ++ text = append-nil held ∙ is in
    record {
      ok = subst (λ (t : List ℕ). OnOk result (Goes t still a b)) same hands.ok;
      err = subst (λ (t : List ℕ). OnErr result (Breaks t a b)) same hands.err;
      told = hands.told;
      counts = hands.counts;
    }

pub no_memory_for_a_line : {T : Type 0} (line waits still : List ℕ) (a : SinkState) → 0 < length line → HandsOn {T = T} line waits still (Err NoMemory) a a
no_memory_for_a_line line waits still a some = record {
  ok = tt;
  err = record {
    some = omega (arith, some, length-append waits line);
    written = λ told. record { count = 0; within = omega (arith, some, length-append waits line); written = sym (append-nil a.written) };
  };
  told = refl;
  counts = record { no_less = omega arith; ok = tt; still = λ _. refl; cause = λ e. absurd cc };
}

pub a_failing_part_is_a_failing_whole : (text more : List ℕ) (a b : SinkState) → Breaks text a b → Breaks (text ++ more) a b
a_failing_part_is_a_failing_whole text more a b breaks = record {
  some = omega (arith, breaks.some, length-append text more);
  written = λ told. less_of_a_text_is_less_of_more text more a.written b.written (breaks.written told);
}

breaks_as : (text whole : List ℕ) (a b : SinkState) → text ≡ whole → Breaks text a b → Breaks whole a b
breaks_as text whole a b is breaks = subst (λ (t : List ℕ). Breaks t a b) is breaks

pub a_failing_text_fails_with_more : {T U : Type 0} (text more waits still : List ℕ) (fault : IoFault) (a b : SinkState) → HandsOn {T = T} text waits still (Err fault) a b → HandsOn {T = U} (text ++ more) waits still (Err fault) a b
a_failing_text_fails_with_more text more waits still fault a b hands = record {
  ok = tt;
  err = breaks_as ((waits ++ text) ++ more) (waits ++ (text ++ more)) a b (append_assoc waits text more) (a_failing_part_is_a_failing_whole (waits ++ text) more a b hands.err);
  told = hands.told;
  counts = record {
    no_less = hands.counts.no_less;
    ok = tt;
    still = λ not_failed. hands.counts.still (λ e. not_failed (let same : fault ≡ Failed = cc in ap Err same));
    cause = λ e. hands.counts.cause (let same : fault ≡ Failed = cc in ap Err same);
  };
}

-- what was handed on begins a report
way_of : {T : Type 0} (text waits still : List ℕ) (x : T) (a b : SinkState) → HandsOn text waits still (Ok x) a b → IsUnderWay (waits ++ text) still a b
way_of text waits still x a b hands = record { goes = hands.ok; told = hands.told; faults = hands.counts.ok }

join_ok : {T U : Type 0} (first second waits mid still : List ℕ) (x : T) (y : U) (a b c : SinkState) → HandsOn first waits mid (Ok x) a b → HandsOn second mid still (Ok y) b c → HandsOn (first ++ second) waits still (Ok y) a c
join_ok first second waits mid still x y a b c one two =
    let way = a_report_goes_on (waits ++ first) mid a b (way_of first waits mid x a b one) second still y c two in
    record {
      ok = subst (λ (t : List ℕ). Goes t still a c) (append_assoc waits first second) way.goes;
      err = tt;
      told = way.told;
      counts = record { no_less = omega (arith, way.faults); ok = way.faults; still = λ _. way.faults; cause = λ e. absurd cc };
    }

join_err : {T U : Type 0} (first second waits mid still : List ℕ) (x : T) (fault : IoFault) (a b c : SinkState) → HandsOn first waits mid (Ok x) a b → HandsOn {T = U} second mid still (Err fault) b c → HandsOn {T = U} (first ++ second) waits still (Err fault) a c
join_err first second waits mid still x fault a b c one two =
    let way = way_of first waits mid x a b one in
    record {
      ok = tt;
      err = breaks_as ((waits ++ first) ++ second) (waits ++ (first ++ second)) a c (append_assoc waits first second) (a_report_breaks (waits ++ first) mid a b way second c two.err);
      told = two.told ∙ one.told;
      counts = record {
        no_less = omega (arith, way.faults, two.counts.no_less);
        ok = tt;
        still = λ not_failed. two.counts.still not_failed ∙ way.faults;
        cause = λ e. faults_rose_over_a_report (waits ++ first) mid a b way c (two.counts.cause e);
      };
    }

pub texts_join : {T U : Type 0} (first second waits mid still : List ℕ) (x : T) (result : Result U IoFault) (a b c : SinkState) → HandsOn first waits mid (Ok x) a b → HandsOn second mid still result b c → HandsOn (first ++ second) waits still result a c
texts_join first second waits mid still x (Ok y) a b c one two = join_ok first second waits mid still x y a b c one two
texts_join first second waits mid still x (Err fault) a b c one two = join_err first second waits mid still x fault a b c one two

-- ---- reports printed

pub a_text_begins_a_report : {T : Type 0} (text more still last : List ℕ) (x : T) (due status : Status) (a b c : SinkState) → HandsOn text [] still (Ok x) a b → Printed (still ++ more) last due status b c → Printed (text ++ more) last due status a c
a_text_begins_a_report text more still last x due status a b c hands printed =
    a_report_is_printed (text ++ more) (still ++ more) a b (a_report_takes_a_text text still a b (way_of text [] still x a b hands) more) last due status c printed

pub a_failing_text_ends_a_report : {T : Type 0} (text more still last : List ℕ) (fault : IoFault) (due : Status) (a b : SinkState) → HandsOn {T = T} text [] still (Err fault) a b → Printed (text ++ more) last due (write_status fault) a b
a_failing_text_ends_a_report text more still last Failed due a b hands = record {
  told = hands.told;
  how = inr (inr (inl (refl, hands.counts.cause refl, a_failing_part_is_a_failing_whole text more a b hands.err)));
}
a_failing_text_ends_a_report text more still last NoMemory due a b hands = record {
  told = hands.told;
  how = inr (inl (refl, hands.counts.still (λ e. absurd cc), λ told. a_part_of_a_text_is_a_front (text ++ more) last a.written b.written (less_of_a_text_is_less_of_more text more a.written b.written (hands.err.written told))));
}

pub no_memory_for_a_report : (body last : List ℕ) (due : Status) (a : SinkState) → Printed body last due OutOfMemory a a
no_memory_for_a_report body last due a = record { told = refl; how = inr (inl (refl, refl, λ told. record { count = 0; within = omega arith; written = sym (append-nil a.written) })) }

-- ---- replies to steps

pub no_steps_have_no_replies : (names : List (List ℕ)) (steps : List Step) (k : ℕ) → replies_text names steps k 0 ≡ []
unfolding replies_text
no_steps_have_no_replies names steps k = refl

pub replies_come_one_by_one : (names : List (List ℕ)) (steps : List Step) (k count : ℕ) → replies_text names steps k (count + 1) ≡ reply_line_at names steps k ++ replies_text names steps (k + 1) count
unfolding replies_text
replies_come_one_by_one names steps k count = let more : count + 1 ≡ suc count = omega arith in ap (replies_text names steps k) more

pub a_step_is_answered_at_its_node : (names : List (List ℕ)) (steps : List Step) (k : ℕ) (step : Step) (name : List ℕ) (reply : Reply) → slice_get steps k ≡ Some step → slice_get names step.node ≡ Some name
    → step_reply (tables_after (length names) steps k) step ≡ Some reply → reply_line_at names steps k ≡ reply_text (k + 1) name reply
a_step_is_answered_at_its_node names steps k step name reply at named answered = rw (at, named, answered) refl
