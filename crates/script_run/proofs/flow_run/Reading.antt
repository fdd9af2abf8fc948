-- What one read of a source, and reads one after the other, change.
use Rattle.std.proofs.Common.{rules, ◌≡◌, ℕ, ◌+◌, ◌-◌, ◌<◌, ◌≤◌, Bool, true, false, cond, IsTrue, List, [], ◌∷◌, ◌++◌, length, take, map, Option, Some, None, Ok, Err, refl, sym, ap, subst, ◌∙◌, append_assoc, length-append, arith, inl, inr}
use Rattle.std.specs.List.{All}
use Rattle.std.proofs.lemmas.Bool.{lt-ltb, le-ltb}
use Rattle.std.proofs.lemmas.List.{append-nil, map-append}
use Rattle.std.proofs.lemmas.List.Elements.{All-append, All-nil}
use Rattle.net_io.specs.Depot.{DepotState, OnlyReads, octets_of}
use Rattle.net_io.specs.Faults.{SameCounts}
use Rattle.pcap_frames.specs.declared.record.FrameHead.{FrameHead}
use Rattle.captures.specs.declared.packet_in.PacketIn.{PacketIn}
use Rattle.captures.specs.declared.format.CaptureFormat.{CaptureFormat}
use Rattle.captures.specs.declared.fault.FileFault.{FileFault}
use Rattle.captures.specs.declared.fault.FileFault.TheVariants as file_fault
use Rattle.captures.specs.declared.fault.ReadStop.{ReadStop}
use Rattle.captures.specs.declared.fault.ReadStop.TheVariants as read_stop
use Rattle.captures.specs.declared.reader.AnyFrames.{AnyFrames}
use Rattle.captures.specs.declared.reader.AnyFrames.TheVariants.{Pcap, Pcapng}
use Rattle.captures.specs.Frame.{CapturedFrame, packet_in}
use Rattle.captures.specs.CaptureFile.{CaptureFile}
use Rattle.captures.specs.Reader.{FramesLeft, file_name_of, format_of, left_of, IsReadable, IsTaken, IsNextFrame}
use Rattle.captures.specs.Written.{IsTime}
use Rattle.call_report.specs.Event.{capture_event}
use Rattle.script_run.specs.declared.flow_run.source.Source.{Source}
use Rattle.script_run.specs.declared.flow_run.source.Behind.{Behind}
use Rattle.script_run.specs.declared.flow_run.source.Behind.TheVariants.{Whole, Broken, TooMany, Failed, NoMemory}
use Rattle.script_run.specs.flow_run.inside.Source.{is_end, frames_left, file_of, IsAmid, behind_at, IsAtEnd, IsSame, SameFetched, AreRead, HasGot, HasOnlyRead, ReadsMove, IsFed, StandsBy}

-- ---- the frames that are left

abbrev with_frame : CapturedFrame → FramesLeft → FramesLeft
with_frame frame left = record { frames = frame ∷ left.frames; fault = left.fault }

abbrev no_more : Option FileFault → FramesLeft
no_more fault = record { frames = []; fault = fault }

abbrev with_left : CaptureFormat → List CapturedFrame → FramesLeft → CaptureFile
with_left format front left = record { format = format; frames = front ++ left.frames; fault = left.fault }

take_none : (n : ℕ) → take {A = CapturedFrame} n [] ≡ []
take_none n = search rules

take_more : (n : ℕ) (x : CapturedFrame) (xs : List CapturedFrame) → take (n + 1) (x ∷ xs) ≡ x ∷ take n xs
take_more n x xs = search rules

empty_either : (b : Bool) (frames : List CapturedFrame) → frames ≡ [] → cond b [] frames ≡ []
empty_either true frames none = refl
empty_either false frames none = none

-- where the end isn't known yet
pub open_left : (source : Source) (file : List ℕ) → is_end source.behind ≡ false → frames_left source file ≡ take (source.most - source.read) (left_of source.reader file).frames
open_left source file unended = ap (λ b. cond b [] (take (source.most - source.read) (left_of source.reader file).frames)) unended

ended_left : (source : Source) (file : List ℕ) → is_end source.behind ≡ true → frames_left source file ≡ []
ended_left source file ended = ap (λ b. cond b [] (take (source.most - source.read) (left_of source.reader file).frames)) ended

full_left : (source : Source) (file : List ℕ) → source.most ≤ source.read → frames_left source file ≡ []
full_left source file full =
    let none : source.most - source.read ≡ 0 = omega (arith, full) in
    empty_either (is_end source.behind) (take (source.most - source.read) (left_of source.reader file).frames) (ap (λ n. take n (left_of source.reader file).frames) none)

module _ (old new : Source) (file : List ℕ) (unended : is_end old.behind ≡ false) where
  -- nothing is left
  stops_left : is_end new.behind ≡ true → (fault : Option FileFault) → left_of old.reader file ≡ no_more fault → frames_left old file ≡ frames_left new file
  stops_left ended fault none =
      open_left old file unended
      ∙ ap (λ (left : FramesLeft). take (old.most - old.read) left.frames) none
      ∙ take_none (old.most - old.read)
      ∙ sym (ended_left new file ended)

  -- the same is left
  stays_left : is_end new.behind ≡ false → left_of new.reader file ≡ left_of old.reader file → new.most ≡ old.most → new.read ≡ old.read → frames_left old file ≡ frames_left new file
  stays_left still same most read =
      open_left old file unended
      ∙ ap (λ (left : FramesLeft). take (old.most - old.read) left.frames) (sym same)
      ∙ ap (λ n. take (n - old.read) (left_of new.reader file).frames) (sym most)
      ∙ ap (λ n. take (new.most - n) (left_of new.reader file).frames) (sym read)
      ∙ sym (open_left new file still)

  -- one less is left
  goes_left : (frame : CapturedFrame) → is_end new.behind ≡ false → new.most ≡ old.most → new.read ≡ old.read + 1 → old.read < old.most
      → left_of old.reader file ≡ with_frame frame (left_of new.reader file) → frames_left old file ≡ frame ∷ frames_left new file
  goes_left frame still most read less here =
      let more : old.most - old.read ≡ (new.most - new.read) + 1 = omega (arith, most, read, less) in
      open_left old file unended
      ∙ ap (λ (left : FramesLeft). take (old.most - old.read) left.frames) here
      ∙ ap (λ n. take n (frame ∷ (left_of new.reader file).frames)) more
      ∙ take_more (new.most - new.read) frame (left_of new.reader file).frames
      ∙ ap (λ fs. frame ∷ fs) (sym (open_left new file still))

  -- where the reader has stopped
  stopped_left : (stop : ReadStop) (packet : PacketIn) → new.behind ≡ Some (behind_at stop) → left_of new.reader file ≡ left_of old.reader file → new.most ≡ old.most → new.read ≡ old.read
      → IsNextFrame (Err stop) packet (left_of old.reader file) (left_of new.reader file) → frames_left old file ≡ frames_left new file
  stopped_left (read_stop.Capture fault) packet behind same most read here = stops_left (ap is_end behind) (Some (file_fault.Pcap fault)) here
  stopped_left (read_stop.Ng fault) packet behind same most read here = stops_left (ap is_end behind) (Some (file_fault.Pcapng fault)) here
  stopped_left read_stop.ReadFault packet behind same most read here = stays_left (ap is_end behind) same most read
  stopped_left read_stop.OutOfMemory packet behind same most read here = stays_left (ap is_end behind) same most read

-- ---- where a source stands

module _ (source source' : Source) (file : List ℕ) (amid : IsAmid source file) where
  -- the same is left
  amid_stays : format_of source'.reader ≡ format_of source.reader → left_of source'.reader file ≡ left_of source.reader file → source'.read ≡ source.read → IsAmid source' file
  amid_stays format same read = record {
    front = amid.front;
    count = amid.count ∙ sym read;
    all =
        amid.all
        ∙ ap (λ (left : FramesLeft). Ok (with_left (format_of source.reader) amid.front left)) (sym same)
        ∙ ap (λ (f : CaptureFormat). Ok (with_left f amid.front (left_of source'.reader file))) (sym format);
  }

  -- one less is left
  amid_goes : (frame : CapturedFrame) → format_of source'.reader ≡ format_of source.reader → source'.read ≡ source.read + 1
      → left_of source.reader file ≡ with_frame frame (left_of source'.reader file) → IsAmid source' file
  amid_goes frame format read here = record {
    front = amid.front ++ frame ∷ [];
    count = omega (arith, amid.count, read, length-append amid.front (frame ∷ []));
    all =
        amid.all
        ∙ ap (λ (left : FramesLeft). Ok (with_left (format_of source.reader) amid.front left)) here
        ∙ ap (λ (fs : List CapturedFrame). (let all : CaptureFile = record { format = format_of source.reader; frames = fs; fault = (left_of source'.reader file).fault } in Ok all))
        (sym (append_assoc amid.front (frame ∷ []) (left_of source'.reader file).frames))
        ∙ ap (λ (f : CaptureFormat). Ok (with_left f (amid.front ++ frame ∷ []) (left_of source'.reader file))) (sym format);
  }

  few_in_front : source'.most ≡ source.most → source.read ≤ source.most → length (amid.front ++ []) ≤ source'.most
  few_in_front most within = omega (arith, amid.count, most, within, length-append {A = CapturedFrame} amid.front [])

  -- nothing is left
  ends_whole : source'.most ≡ source.most → source.read ≤ source.most → left_of source.reader file ≡ no_more None → IsAtEnd source' file Whole
  ends_whole most within here = record {
    capture = with_left (format_of source.reader) amid.front (no_more None);
    is = amid.all ∙ ap (λ (left : FramesLeft). Ok (with_left (format_of source.reader) amid.front left)) here;
    event = λ number. rw (le-ltb source'.most (length (amid.front ++ [])) (few_in_front most within)) refl;
  }

  -- or a fault
  ends_broken : (fault : FileFault) → source'.most ≡ source.most → source.read ≤ source.most → left_of source.reader file ≡ no_more (Some fault) → IsAtEnd source' file (Broken fault)
  ends_broken fault most within here = record {
    capture = with_left (format_of source.reader) amid.front (no_more (Some fault));
    is = amid.all ∙ ap (λ (left : FramesLeft). Ok (with_left (format_of source.reader) amid.front left)) here;
    event = λ number. rw (le-ltb source'.most (length (amid.front ++ [])) (few_in_front most within)) refl;
  }

  -- or a frame that may not be read
  ends_full : (frame : CapturedFrame) (more : FramesLeft) → source'.most ≡ source.most → source.read ≡ source.most → left_of source.reader file ≡ with_frame frame more → IsAtEnd source' file TooMany
  ends_full frame more most full here =
      let many : source'.most < length (amid.front ++ frame ∷ more.frames) = omega (arith, amid.count, most, full, length-append amid.front (frame ∷ more.frames)) in
      record {
        capture = with_left (format_of source.reader) amid.front (with_frame frame more);
        is = amid.all ∙ ap (λ (left : FramesLeft). Ok (with_left (format_of source.reader) amid.front left)) here;
        event = λ number. rw (lt-ltb source'.most (length (amid.front ++ frame ∷ more.frames)) many) refl;
      }

  -- by what the reader answered: a frame
  pub taken_stands : (head : FrameHead) (packet : PacketIn) → format_of source'.reader ≡ format_of source.reader → source'.read ≡ source.read + 1 → source'.behind ≡ None
      → IsTaken head packet (left_of source.reader file) (left_of source'.reader file) → StandsBy source'.behind source' file
  taken_stands head packet format read behind taken = subst (λ (b : Option Behind). StandsBy b source' file) (sym behind) (amid_goes taken.0 format read taken.3)

  -- one more than may be read
  pub full_stands : (head : FrameHead) (packet : PacketIn) (more : FramesLeft) → source'.most ≡ source.most → source.read ≡ source.most → source'.behind ≡ Some TooMany
      → IsTaken head packet (left_of source.reader file) more → StandsBy source'.behind source' file
  full_stands head packet more most full behind taken = subst (λ (b : Option Behind). StandsBy b source' file) (sym behind) (ends_full taken.0 more most full taken.3)

  -- none
  pub whole_stands : source'.most ≡ source.most → source.read ≤ source.most → source'.behind ≡ Some Whole → left_of source.reader file ≡ no_more None → StandsBy source'.behind source' file
  whole_stands most within behind here = subst (λ (b : Option Behind). StandsBy b source' file) (sym behind) (ends_whole most within here)

  -- or a stop
  pub stopped_stands : (stop : ReadStop) (packet : PacketIn) (more : FramesLeft) → source'.behind ≡ Some (behind_at stop) → format_of source'.reader ≡ format_of source.reader
      → left_of source'.reader file ≡ left_of source.reader file → source'.most ≡ source.most → source'.read ≡ source.read → source.read ≤ source.most
      → IsNextFrame (Err stop) packet (left_of source.reader file) more → StandsBy source'.behind source' file
  stopped_stands stop packet more behind format same most read within here = subst (λ (b : Option Behind). StandsBy b source' file) (sym behind) (by_stop stop here)
    where
      by_stop : (stop : ReadStop) → IsNextFrame (Err stop) packet (left_of source.reader file) more → StandsBy (Some (behind_at stop)) source' file
      by_stop (read_stop.Capture fault) here = ends_broken (file_fault.Pcap fault) most within here
      by_stop (read_stop.Ng fault) here = ends_broken (file_fault.Pcapng fault) most within here
      by_stop read_stop.ReadFault here = amid_stays format same read
      by_stop read_stop.OutOfMemory here = amid_stays format same read

-- ---- what was got

module _ (tells : Bool) (file : List ℕ) (old new : Source) (batch batch' : List PacketIn) (same : IsSame old new) (fetched : SameFetched old new) where
  pub got_nothing : new.heads.items ≡ old.heads.items → batch' ≡ batch → (IsTrue tells → frames_left old file ≡ frames_left new file) → HasGot tells file old new batch batch'
  got_nothing heads packets left = record {
    times = [];
    packets = [];
    same = same;
    heads = heads ∙ sym (append-nil old.heads.items);
    fetched = fetched;
    behind = packets ∙ sym (append-nil batch);
    count = refl;
    written = All-nil _;
    short = All-nil _;
    read = λ told. record { frames = []; times_are = refl; packets_are = refl; left = left told };
  }

  -- a frame
  pub got_one : (head : FrameHead) (packet : PacketIn) → new.heads.items ≡ old.heads.items ++ head ∷ [] → batch' ≡ batch ++ packet ∷ [] → IsTime (format_of old.reader) head
      → length packet.bytes ≤ 262144 → old.behind ≡ None → new.behind ≡ None → new.read ≡ old.read + 1 → old.read < old.most
      → (IsTrue tells → IsTaken head packet (left_of old.reader file) (left_of new.reader file)) → HasGot tells file old new batch batch'
  got_one head packet heads packets timely few none none' read less here = record {
    times = head ∷ [];
    packets = packet ∷ [];
    same = same;
    heads = heads;
    fetched = fetched;
    behind = packets;
    count = refl;
    written = one_written (format_of old.reader) head timely;
    short = one_short packet few;
    read = λ told.
        let taken = here told in
        record {
          frames = taken.0 ∷ [];
          times_are = ap (λ (h : FrameHead). h ∷ []) taken.1;
          packets_are = ap (λ (p : PacketIn). p ∷ []) taken.2;
          left = goes_left old new file (ap is_end none) taken.0 (ap is_end none') same.most read less taken.3;
        };
  }
    where
      one_short : (p : PacketIn) → length p.bytes ≤ 262144 → All (λ (q : PacketIn). length q.bytes ≤ 262144) (p ∷ [])
      one_short p few = search (rules, few)

      one_written : (format : CaptureFormat) (h : FrameHead) → IsTime format h → All (IsTime format) (h ∷ [])
      one_written format h timely = search (rules, timely)

  -- one more than may be read
  pub got_full : new.heads.items ≡ old.heads.items → batch' ≡ batch → old.read ≡ old.most → new.read ≡ old.read → HasGot tells file old new batch batch'
  got_full heads packets full read =
      got_nothing heads packets (λ told. full_left old file (omega (arith, full)) ∙ sym (full_left new file (omega (arith, full, read, same.most))))

  pub got_end : new.heads.items ≡ old.heads.items → batch' ≡ batch → old.behind ≡ None → new.behind ≡ Some Whole → (IsTrue tells → left_of old.reader file ≡ no_more None)
      → HasGot tells file old new batch batch'
  got_end heads packets none behind here = got_nothing heads packets (λ told. stops_left old new file (ap is_end none) (ap is_end behind) None (here told))

  pub got_stop : (stop : ReadStop) (packet : PacketIn) → new.heads.items ≡ old.heads.items → batch' ≡ batch → old.behind ≡ None → new.behind ≡ Some (behind_at stop)
      → left_of new.reader file ≡ left_of old.reader file → new.read ≡ old.read
      → (IsTrue tells → IsNextFrame (Err stop) packet (left_of old.reader file) (left_of new.reader file)) → HasGot tells file old new batch batch'
  got_stop stop packet heads packets none behind still read here =
      got_nothing heads packets (λ told. stopped_left old new file (ap is_end none) stop packet behind still same.most read (here told))

  pub got_unready : new.heads.items ≡ old.heads.items → batch' ≡ batch → old.behind ≡ None → new.behind ≡ Some NoMemory → new.reader ≡ old.reader → new.read ≡ old.read
      → HasGot tells file old new batch batch'
  got_unready heads packets none behind reader read =
      got_nothing heads packets (λ told. stays_left old new file (ap is_end none) (ap is_end behind) (ap (λ r. left_of r file) reader) same.most read)

pub same_more : (a b c : Source) → IsSame a b → IsSame b c → IsSame a c
same_more a b c one other = record { name = other.name ∙ one.name; format = other.format ∙ one.format; most = other.most ∙ one.most }

read_more : (file : List ℕ) (a b c : Source) (times times' : List FrameHead) (packets packets' : List PacketIn) → AreRead file a b times packets → AreRead file b c times' packets'
    → AreRead file a c (times ++ times') (packets ++ packets')
read_more file a b c times times' packets packets' one other = record {
  frames = one.frames ++ other.frames;
  times_are =
      map-append (λ (f : CapturedFrame). f.head) one.frames other.frames
      ∙ ap (λ (ts : List FrameHead). ts ++ map (λ (f : CapturedFrame). f.head) other.frames) one.times_are
      ∙ ap (λ (ts : List FrameHead). times ++ ts) other.times_are;
  packets_are =
      map-append packet_in one.frames other.frames
      ∙ ap (λ (ps : List PacketIn). ps ++ map packet_in other.frames) one.packets_are
      ∙ ap (λ (ps : List PacketIn). packets ++ ps) other.packets_are;
  left = one.left ∙ ap (λ fs. one.frames ++ fs) other.left ∙ sym (append_assoc one.frames other.frames (frames_left c file));
}

pub got_more : (tells : Bool) (file : List ℕ) (a b c : Source) (xs ys zs : List PacketIn) → HasGot tells file a b xs ys → HasGot tells file b c ys zs → HasGot tells file a c xs zs
got_more tells file a b c xs ys zs one other = record {
  times = one.times ++ other.times;
  packets = one.packets ++ other.packets;
  same = same_more a b c one.same other.same;
  heads = other.heads ∙ ap (λ hs. hs ++ other.times) one.heads ∙ append_assoc a.heads.items one.times other.times;
  fetched = record { times = other.fetched.times ∙ one.fetched.times; at = other.fetched.at ∙ one.fetched.at };
  behind = other.behind ∙ ap (λ ps. ps ++ other.packets) one.behind ∙ append_assoc xs one.packets other.packets;
  count = omega (arith, one.count, other.count, length-append one.times other.times, length-append one.packets other.packets);
  written =
      All-append (IsTime (format_of a.reader)) one.times other.times one.written (subst (λ (f : CaptureFormat). All (IsTime f) other.times) one.same.format other.written);
  short = All-append (λ (p : PacketIn). length p.bytes ≤ 262144) one.packets other.packets one.short other.short;
  read = λ told. read_more file a b c one.times other.times one.packets other.packets (one.read told) (other.read told);
}

-- the times that wait
pub times_more : (old new : Source) (times : List FrameHead) → IsSame old new → new.heads.items ≡ old.heads.items ++ times → All (IsTime (format_of old.reader)) old.heads.items
    → All (IsTime (format_of old.reader)) times → All (IsTime (format_of new.reader)) new.heads.items
times_more old new times same heads before more =
    subst (λ (f : CaptureFormat). All (IsTime f) new.heads.items) (sym same.format)
    (subst (λ (hs : List FrameHead). All (IsTime (format_of old.reader)) hs) (sym heads) (All-append (IsTime (format_of old.reader)) old.heads.items times before more))

-- the times of packets that were fetched
pub times_same : (old new : Source) → IsSame old new → new.fetched.items ≡ old.fetched.items → All (IsTime (format_of old.reader)) old.fetched.items
    → All (IsTime (format_of new.reader)) new.fetched.items
times_same old new same fetched before =
    subst (λ (f : CaptureFormat). All (IsTime f) new.fetched.items) (sym same.format)
    (subst (λ (hs : List FrameHead). All (IsTime (format_of old.reader)) hs) (sym fetched) before)

-- ---- the folder

pub only_none : (name : List ℕ) (old : DepotState) → HasOnlyRead None name old old
only_none name old = record { told = refl; kept = λ told other. refl; reads = λ other. refl; creates = λ other. refl; appends = λ other. refl }

-- where the reader has stopped
pub only_stopped : (stop : ReadStop) (behind : Option Behind) (name : List ℕ) (old new : DepotState) → behind ≡ Some (behind_at stop)
    → OnlyReads {T = Option FrameHead} read_stop.ReadFault (Err stop) name old new → HasOnlyRead behind name old new
only_stopped stop behind name old new is only =
    subst (λ (b : Option Behind). HasOnlyRead b name old new) (sym is) (record { told = only.told; kept = only.kept; reads = by_stop stop only; creates = only.creates; appends = only.appends })
  where
    by_stop : (stop : ReadStop) → OnlyReads {T = Option FrameHead} read_stop.ReadFault (Err stop) name old new → ReadsMove (Some (behind_at stop)) name old.reads new.reads
    by_stop (read_stop.Capture fault) only = only.reads.still (λ failed. absurd cc)
    by_stop (read_stop.Ng fault) only = only.reads.still (λ failed. absurd cc)
    by_stop read_stop.ReadFault only = only.reads.cause refl
    by_stop read_stop.OutOfMemory only = only.reads.still (λ failed. absurd cc)

pub reads_more : (behind : Option Behind) (name : List ℕ) (a b c : List ℕ → ℕ) → SameCounts a b → ReadsMove behind name b c → ReadsMove behind name a c
reads_more None name a b c same moved = λ other. moved other ∙ same other
reads_more (Some Whole) name a b c same moved = λ other. moved other ∙ same other
reads_more (Some (Broken fault)) name a b c same moved = λ other. moved other ∙ same other
reads_more (Some TooMany) name a b c same moved = λ other. moved other ∙ same other
reads_more (Some Failed) name a b c same (inl rose) = inl (omega (arith, rose, same name))
reads_more (Some Failed) name a b c same (inr end) = inr end
reads_more (Some NoMemory) name a b c same moved = λ other. moved other ∙ same other

pub only_more : (behind : Option Behind) (name : List ℕ) (a b c : DepotState) → HasOnlyRead None name a b → HasOnlyRead behind name b c → HasOnlyRead behind name a c
only_more behind name a b c one other = record {
  told = other.told ∙ one.told;
  kept = λ told name'. other.kept (one.told ∙ told) name' ∙ one.kept told name';
  reads = reads_more behind name a.reads b.reads c.reads one.reads other.reads;
  creates = λ name'. other.creates name' ∙ one.creates name';
  appends = λ name'. other.appends name' ∙ one.appends name';
}

-- a reader of a file that is still what it was
pub readable_kept : (a b : DepotState) (reader : AnyFrames) → b.tells ≡ a.tells → (IsTrue a.tells → b.held (file_name_of reader) ≡ a.held (file_name_of reader)) → IsReadable a reader → IsReadable b reader
readable_kept a b (Pcap frames) told held ready =
    λ told'.
    let before = subst IsTrue told told' in
    rw (held before) (ready before)
readable_kept a b (Pcapng frames) told held ready =
    λ told'.
    let before = subst IsTrue told told' in
    rw (held before) (ready before)

-- ---- one read behind others

pub same_file : (behind : Option Behind) (a b : DepotState) (s s' : Source) → HasOnlyRead behind (file_name_of s.reader) a b → file_name_of s'.reader ≡ file_name_of s.reader → IsTrue a.tells
    → file_of b s' ≡ file_of a s
same_file behind a b s s' only name told = ap (λ n. octets_of (b.held n)) name ∙ ap octets_of (only.kept told (file_name_of s.reader))

got_at : (tells tells' : Bool) (file file' : List ℕ) (old new : Source) (xs ys : List PacketIn) → tells' ≡ tells → (IsTrue tells → file' ≡ file)
    → HasGot tells' file' old new xs ys → HasGot tells file old new xs ys
got_at tells tells' file file' old new xs ys same files got = record {
  times = got.times;
  packets = got.packets;
  same = got.same;
  heads = got.heads;
  fetched = got.fetched;
  behind = got.behind;
  count = got.count;
  written = got.written;
  short = got.short;
  read = λ told. subst (λ (f : List ℕ). AreRead f old new got.times got.packets) (files told) (got.read (subst IsTrue (sym same) told));
}

module _ (a b : DepotState) (s s' : Source) (xs ys : List PacketIn) (only : HasOnlyRead None (file_name_of s.reader) a b) (got : HasGot a.tells (file_of a s) s s' xs ys) where
  pub next_got : (s'' : Source) (zs : List PacketIn) → HasGot b.tells (file_of b s') s' s'' ys zs → HasGot a.tells (file_of a s) s s'' xs zs
  next_got s'' zs more =
      got_more a.tells (file_of a s) s s' s'' xs ys zs got
      (got_at a.tells b.tells (file_of a s) (file_of b s') s' s'' ys zs only.told (same_file None a b s s' only got.same.name) more)

  pub next_stands : (behind : Option Behind) (s'' : Source) → (IsTrue b.tells → StandsBy behind s'' (file_of b s')) → IsTrue a.tells → StandsBy behind s'' (file_of a s)
  next_stands behind s'' stands told =
      subst (λ (f : List ℕ). StandsBy behind s'' f) (same_file None a b s s' only got.same.name told) (stands (subst IsTrue (sym only.told) told))

  pub next_only : (behind : Option Behind) (c : DepotState) → HasOnlyRead behind (file_name_of s'.reader) b c → HasOnlyRead behind (file_name_of s.reader) a c
  next_only behind c more = only_more behind (file_name_of s.reader) a b c only (subst (λ (n : List ℕ). HasOnlyRead behind n b c) got.same.name more)

  pub next_amid : (s'' : Source) → s''.behind ≡ None → (IsTrue b.tells → StandsBy s''.behind s'' (file_of b s')) → IsTrue a.tells → IsAmid s'' (file_of a s)
  next_amid s'' none stands told = subst (λ (x : Option Behind). StandsBy x s'' (file_of a s)) none (next_stands s''.behind s'' stands told)

  pub next_none : (s'' : Source) (c : DepotState) → s''.behind ≡ None → HasOnlyRead s''.behind (file_name_of s'.reader) b c → HasOnlyRead None (file_name_of s.reader) a c
  next_none s'' c none more = subst (λ (x : Option Behind). HasOnlyRead x (file_name_of s.reader) a c) none (next_only s''.behind c more)

-- a batch behind what a source needs
pub fed_on : (a b : DepotState) (s s' : Source) (xs ys : List PacketIn) → IsFed a s → IsReadable b s'.reader → s'.read ≤ s'.most → HasOnlyRead s'.behind (file_name_of s.reader) a b
    → (IsTrue a.tells → StandsBy s'.behind s' (file_of a s)) → HasGot a.tells (file_of a s) s s' xs ys → IsFed b s'
fed_on a b s s' xs ys fed ready within only stands got = record {
  ready = ready;
  stands = λ told.
      let before = subst IsTrue only.told told in
      subst (λ (f : List ℕ). StandsBy s'.behind s' f) (sym (same_file s'.behind a b s s' only got.same.name before)) (stands before);
  within = within;
  times = times_more s s' got.times got.same got.heads fed.times got.written;
  fetched = times_same s s' got.same got.fetched.times fed.fetched;
}

at_end_same : (behind : Behind) (s s' : Source) (file : List ℕ) → s'.most ≡ s.most → IsAtEnd s file behind → IsAtEnd s' file behind
at_end_same behind s s' file most end = record { capture = end.capture; is = end.is; event = λ number. ap (λ n. capture_event number n end.capture) most ∙ end.event number }

-- a source that stands there too
pub stands_same : (behind : Option Behind) (s s' : Source) (file : List ℕ) → s'.reader ≡ s.reader → s'.most ≡ s.most → s'.read ≡ s.read → StandsBy behind s file → StandsBy behind s' file
stands_same None s s' file reader most read stands = amid_stays s s' file stands (ap format_of reader) (ap (λ r. left_of r file) reader) read
stands_same (Some Whole) s s' file reader most read stands = at_end_same Whole s s' file most stands
stands_same (Some (Broken fault)) s s' file reader most read stands = at_end_same (Broken fault) s s' file most stands
stands_same (Some TooMany) s s' file reader most read stands = at_end_same TooMany s s' file most stands
stands_same (Some Failed) s s' file reader most read stands = amid_stays s s' file stands (ap format_of reader) (ap (λ r. left_of r file) reader) read
stands_same (Some NoMemory) s s' file reader most read stands = amid_stays s s' file stands (ap format_of reader) (ap (λ r. left_of r file) reader) read
