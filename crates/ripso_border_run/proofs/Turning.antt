-- What a turn of the loop needs of the folder.
use Rattle.std.proofs.Common.{◌≡◌, ◌≢◌, ◌≤◌, ℕ, drop, arith, Bool, true, false, List, [], Option, Result, Ok, Err, refl, sym, subst, ◌∙◌}
use Rattle.std.specs.Prelude.{IsTrue, IsSome, ◌||◌}
use Rattle.std.specs.Str.{bytes_eq}
use Rattle.std.proofs.lemmas.Bool.{true≢false}
use Rattle.std.proofs.lemmas.Slice.Eq.{bytes_eq-Decides}
use Rattle.net_io.specs.declared.fault.IoFault.{IoFault}
use Rattle.net_io.specs.Depot.{DepotState, octets_of, OnlyReads, NowHolds}
use Rattle.pcap_frames.specs.declared.fault.FrameStop.{FrameStop}
use Rattle.pcap_frames.specs.declared.fault.FrameStop.TheVariants.{ReadFault}
use Rattle.pcap_frames.specs.declared.fault.CaptureFault.{CaptureFault}
use Rattle.pcap_frames.specs.Record.{Frame, record_at}
use Rattle.pcap_frames.specs.Reader.{Reader, IsReady}
use Rattle.packet_label.specs.declared.denial.Denial.{Denial}
use Rattle.ripso_border_run.specs.declared.lines.Counts.{Counts}
use Rattle.ripso_border_run.specs.inside.Course.{none_counted, after_counting, IsStanding}
use Rattle.captures.specs.declared.reader.AnyFrames.TheVariants as reads
use Rattle.captures.proofs.Law.{a_reader_goes_on_in_a_kept_file}
use Rattle.captures.specs.Output.{HasAppended}
use Rattle.ripso_border_run.specs.declared.task.Task.{Task}
use Rattle.ripso_border_run.specs.Outcome.{is_named_twice}

or_true : (a b : Bool) → b ≡ true → (a || b) ≡ true
or_true true b is = refl
or_true false b is = is

-- the output isn't the input
pub apart_of : (task : Task) → is_named_twice task ≡ false → task.input ≢ task.output
apart_of task once same =
    absurd (true≢false (sym (or_true (bytes_eq task.output task.script) (bytes_eq task.output task.input) ((bytes_eq-Decides task.output task.input).1 (sym same))) ∙ once))

-- what is said of a file is so after a read
pub after_read : {T : Type 0} (failed : FrameStop) (result : Result T FrameStop) (name file : List ℕ) (old new : DepotState) (P : Option (List ℕ) → Type 0) → OnlyReads {T = T} failed result name old new
    → (IsTrue old.tells → P (old.held file)) → IsTrue new.tells → P (new.held file)
after_read failed result name file old new P read is told =
    let first = subst IsTrue read.told told in
    subst P (sym (read.kept first file)) (is first)

-- what the reader has found is so after it
pub answer_after : {T : Type 0} (result : Result T FrameStop) (reader : Reader) (old new : DepotState) (said : Result (Option Frame) CaptureFault) → OnlyReads {T = T} ReadFault result reader.name old new
    → (IsTrue old.tells → record_at reader.header.order reader.place (drop reader.place (octets_of (old.held reader.name))) ≡ said)
    → IsTrue new.tells → record_at reader.header.order reader.place (drop reader.place (octets_of (new.held reader.name))) ≡ said
answer_after result reader old new said read is =
    after_read ReadFault result reader.name reader.name old new (λ (o : Option (List ℕ)). record_at reader.header.order reader.place (drop reader.place (octets_of o)) ≡ said) read is

-- ---- a call that stands in front of a frame

few_after : (counts : Counts) (verdict : Result (Unit {0}) Denial) (counted : Counts) → counted ≡ after_counting counts verdict → counts.packets ≤ 1048576 → counts.packets ≢ 1048576
    → counts.passed ≤ counts.packets → counts.denied ≤ counts.packets → (counted.packets ≤ 1048576) × (counted.passed ≤ counted.packets) × (counted.denied ≤ counted.packets)
few_after counts (Ok x) counted is few below passed denied = rw is (omega (arith, few, below), omega (arith, passed), omega (arith, denied))
few_after counts (Err why) counted is few below passed denied = rw is (omega (arith, few, below), omega (arith, passed), omega (arith, denied))

module _ (task : Task) (old new : DepotState) (reader : Reader) (counts : Counts) (standing : IsStanding task old reader counts) where
  -- a read behind it
  pub stands_read : {T : Type 0} (result : Result T FrameStop) (next : Reader) → OnlyReads {T = T} ReadFault result reader.name old new → next.name ≡ reader.name → IsReady new next → IsStanding task new next counts
  stands_read result next read name ready = record {
    named = name ∙ standing.named;
    apart = standing.apart;
    ready = ready;
    there = after_read ReadFault result reader.name task.output old new IsSome read standing.there;
    few = standing.few;
    passed = standing.passed;
    denied = standing.denied;
  }

  -- the file is there behind an append, whatever became of it
  pub there_after : (result : Result (Unit {0}) IoFault) (octets waits waits' : List ℕ) → HasAppended result task.output octets waits waits' old new → IsTrue new.tells → IsSome (new.held task.output)
  there_after result octets waits waits' has told = rw ((has.here (subst IsTrue has.frame.told told)).now) refl

  -- a packet further
  pub stands_dealt : (result : Result (Unit {0}) IoFault) (octets waits waits' : List ℕ) → HasAppended result task.output octets waits waits' old new
      → (verdict : Result (Unit {0}) Denial) (counted : Counts) → counted ≡ after_counting counts verdict → counts.packets ≢ 1048576 → IsStanding task new reader counted
  stands_dealt result octets waits waits' has verdict counted is below =
      let few = few_after counts verdict counted is standing.few below standing.passed standing.denied in
      record {
        named = standing.named;
        apart = standing.apart;
        ready = a_reader_goes_on_in_a_kept_file old new (reads.Pcap reader) has.frame.told (λ told. has.others told reader.name (λ same. standing.apart (sym standing.named ∙ same))) standing.ready;
        there = there_after result octets waits waits' has;
        few = few.0;
        passed = few.1;
        denied = few.2;
      }

-- in front of the first frame, where the output was made
pub stands_made : (task : Task) (old new : DepotState) (reader : Reader) → is_named_twice task ≡ false → reader.name ≡ task.input → IsReady old reader
    → new.tells ≡ old.tells → (IsTrue old.tells → NowHolds task.output [] old.held new.held) → IsStanding task new reader none_counted
stands_made task old new reader once named ready told made = record {
  named = named;
  apart = apart_of task once;
  ready = a_reader_goes_on_in_a_kept_file old new (reads.Pcap reader) told (λ tells. (made tells).elsewhere reader.name (λ same. apart_of task once (sym named ∙ same))) ready;
  there = λ tells. rw ((made (subst IsTrue told tells)).here) refl;
  few = omega arith;
  passed = omega arith;
  denied = omega arith;
}
