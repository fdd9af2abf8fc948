-- Packets that are read ahead.
use Rattle.std.proofs.Common.{◌≡◌, ℕ, ◌+◌, ◌-◌, ◌≤◌, Bool, true, false, IsTrue, All, List, [], ◌++◌, length, take, drop, map, Option, Some, None, refl, sym, ap, subst, ◌∙◌, append_assoc, arith, inl}
use Rattle.std.proofs.lemmas.List.{map-append}
use Rattle.std.proofs.lemmas.List.Elements.{All-append, All-nil}
use Rattle.net_io.specs.Depot.{DepotState}
use Rattle.pcap_frames.specs.declared.record.FrameHead.{FrameHead}
use Rattle.captures.specs.declared.packet_in.PacketIn.{PacketIn}
use Rattle.captures.specs.Frame.{CapturedFrame, packet_in}
use Rattle.captures.specs.Reader.{file_name_of}
use Rattle.script_run.specs.declared.flow_run.source.Source.{Source}
use Rattle.script_run.specs.flow_run.inside.Source.{packets_left, frames_left, heads_left, left_in, read_into, due_in, file_of, in_front, HasGot, HasOnlyRead, HasStepped, IsAhead}
use Rattle.script_run.proofs.flow_run.Places.{none_read}
use Rattle.script_run.proofs.flow_run.Reading.{same_file}

-- ---- packets are read ahead

-- what is to be fetched is what it was
left_got : (tells : Bool) (file : List ℕ) (old new : Source) (before packets : List PacketIn) → HasGot tells file old new before packets
    → in_front packets (packets_left tells new file) ≡ in_front before (packets_left tells old file)
left_got true file old new before packets got =
    let read = got.read refl in
    let rest = map packet_in (frames_left new file) in
    ap (λ (ps : List PacketIn). Some (ps ++ rest)) got.behind
    ∙ ap (λ (ps : List PacketIn). Some ((before ++ ps) ++ rest)) (sym read.packets_are)
    ∙ ap (λ (ps : List PacketIn). Some ps) (append_assoc before (map packet_in read.frames) rest)
    ∙ ap (λ (ps : List PacketIn). Some (before ++ ps)) (sym (map-append packet_in read.frames (frames_left new file)))
    ∙ ap (λ (fs : List CapturedFrame). Some (before ++ map packet_in fs)) (sym read.left)
left_got false file old new before packets got = refl

-- so are the times of what is to come
times_got : (tells : Bool) (file : List ℕ) (old new : Source) (before packets : List PacketIn) → HasGot tells file old new before packets → IsTrue tells
    → heads_left new file ≡ heads_left old file
times_got tells file old new before packets got told =
    let read = got.read told in
    let head : CapturedFrame → FrameHead = λ frame. frame.head in
    let rest = map head (frames_left new file) in
    let front = drop old.at old.fetched.items in
    ap (λ n. (drop n new.fetched.items ++ new.heads.items) ++ rest) got.fetched.at
    ∙ ap (λ (ts : List FrameHead). (drop old.at ts ++ new.heads.items) ++ rest) got.fetched.times
    ∙ ap (λ (ts : List FrameHead). (front ++ ts) ++ rest) got.heads
    ∙ ap (λ (ts : List FrameHead). ts ++ rest) (sym (append_assoc front old.heads.items got.times))
    ∙ append_assoc (front ++ old.heads.items) got.times rest
    ∙ ap (λ (ts : List FrameHead). (front ++ old.heads.items) ++ (ts ++ rest)) (sym read.times_are)
    ∙ ap (λ (ts : List FrameHead). (front ++ old.heads.items) ++ ts) (sym (map-append head read.frames (frames_left new file)))
    ∙ ap (λ (fs : List CapturedFrame). (front ++ old.heads.items) ++ map head fs) (sym read.left)

-- a folder that still holds the file
packets_kept : (tells tells' : Bool) (source : Source) (file file' : List ℕ) → tells' ≡ tells → (IsTrue tells → file' ≡ file) → packets_left tells' source file' ≡ packets_left tells source file
packets_kept true tells' source file file' told same =
    ap (λ t. packets_left t source file') told ∙ ap (λ (f : List ℕ). Some (map packet_in (frames_left source f))) (same refl)
packets_kept false tells' source file file' told same = ap (λ t. packets_left t source file') told

module _ (a b : DepotState) (s s' : Source) (next next' : List PacketIn) (only : HasOnlyRead s'.behind (file_name_of s.reader) a b)
    (got : HasGot a.tells (file_of a s) s s' (read_into s next) (read_into s' next')) where
  pub left_ahead : left_in b s' next' ≡ left_in a s next
  left_ahead =
      ap (λ (left : Option (List PacketIn)). in_front (read_into s' next') left)
      (packets_kept a.tells b.tells s' (file_of a s) (file_of b s') only.told (same_file s'.behind a b s s' only got.same.name))
      ∙ left_got a.tells (file_of a s) s s' (read_into s next) (read_into s' next') got

  pub stepped_ahead : s.behind ≡ None → length s'.heads.items + s.read ≡ length s.heads.items + s'.read → HasStepped s s' a b
  stepped_ahead none counted = record {
    same = got.same;
    heads = times_got a.tells (file_of a s) s s' (read_into s next) (read_into s' next') got;
    counted =
        let due : due_in s' ≡ due_in s = ap (λ n. length s'.fetched.items - n) got.fetched.at ∙ ap (λ (ts : List FrameHead). length ts - s.at) got.fetched.times in
        omega (arith, due, counted);
    moved = inl (none, only);
  }

  -- what was there before, and what was read behind it, stands in its places
  pub places_ahead : IsAhead s next → length s'.heads.items ≤ length next' → length s'.heads.items ≤ 1024 → IsAhead s' next'
  places_ahead ahead places few = record {
    places = places;
    few = few;
    short = subst (λ (ps : List PacketIn). All (λ (p : PacketIn). length p.bytes ≤ 262144) ps) (sym got.behind)
        (All-append (λ (p : PacketIn). length p.bytes ≤ 262144) (read_into s next) got.packets ahead.short got.short);
  }

-- ---- nothing is read ahead, or as much as before

-- in front of what is left stands nothing
none_in_front : (left : Option (List PacketIn)) → in_front [] left ≡ left
none_in_front None = refl
none_in_front (Some left) = refl

-- so what is to be fetched is what the reader has left
pub left_unread : (folder : DepotState) (source : Source) (next : List PacketIn) → source.heads.items ≡ [] → left_in folder source next ≡ packets_left folder.tells source (file_of folder source)
left_unread folder source next none =
    let left = packets_left folder.tells source (file_of folder source) in
    ap (λ (ps : List PacketIn). in_front ps left) (none_read source.heads.items next none) ∙ none_in_front left

-- and nothing stands in these places yet
pub unread_ahead : (source : Source) (next : List PacketIn) → source.heads.items ≡ [] → IsAhead source next
unread_ahead source next none = record {
  places = omega (arith, ap length none);
  few = omega (arith, ap length none);
  short = subst (λ (ps : List PacketIn). All (λ (p : PacketIn). length p.bytes ≤ 262144) ps) (sym (none_read source.heads.items next none)) (All-nil _);
}

-- a source that has as many times leaves what was read ahead
pub same_ahead : (s s' : Source) (next : List PacketIn) → s'.heads.items ≡ s.heads.items → IsAhead s next → IsAhead s' next
same_ahead s s' next heads ahead = record {
  places = omega (arith, ap length heads, ahead.places);
  few = omega (arith, ap length heads, ahead.few);
  short = subst (λ (hs : List FrameHead). All (λ (p : PacketIn). length p.bytes ≤ 262144) (take (length hs) next)) (sym heads) ahead.short;
}
