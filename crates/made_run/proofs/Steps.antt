-- What a batch adds to a making.
use Rattle.std.proofs.Common.{◌≡◌, ◌<◌, ◌≤◌, ℕ, zero, suc, ◌+◌, true, IsTrue, List, [], ◌∷◌, ◌++◌, length, map, All, Option, None, Result, Ok, Err, refl, sym, ap, subst, ◌∙◌, arith}
use Rattle.std.specs.Prelude.{OnOk}
use Rattle.std.specs.List.{range_with_len}
use Rattle.std.proofs.lemmas.List.Elements.{All-nil, All-cons}
use Rattle.std.proofs.lemmas.List.FromFn.{map-range_with_len_more, length-map-range_with_len}
use Rattle.net_io.specs.Depot.{DepotState}
use Rattle.pcap_frames.specs.Record.{Frame}
use Rattle.pcap_frames.specs.Written.{frame_octets}
use Rattle.captures.specs.declared.packet_in.PacketIn.{PacketIn}
use Rattle.made_run.specs.made_capture.Number.{number_at}
use Rattle.made_run.specs.made_capture.Capture.{frame_made, capture_made}
use Rattle.made_run.specs.made_capture.Maker.{Making}
use Rattle.made_run.proofs.made_capture.Law.{captures_grow_by_a_frame, shorter_captures_begin_longer_ones, made_packets_have_40_octets}
use Rattle.made_run.specs.declared.stop.MadeStop.{MadeStop}
use Rattle.made_run.specs.Ends.{stop_of}
use Rattle.made_run.specs.inside.File.{IsSent, IsBegun, HasSent}
use Rattle.made_run.specs.inside.Source.{packet_in, packets_made, IsSentUpTo, IsBegunUpTo}
use Rattle.made_run.proofs.Sends.{sent_more, begun_more}

-- ---- one packet

pub short_octets : (seed i : ℕ) (frame : Frame) → frame ≡ frame_made seed i → length frame.octets ≤ 262144
short_octets seed i frame is = let forty : length frame.octets ≡ 40 = ap (λ (f : Frame). length f.octets) is ∙ made_packets_have_40_octets (number_at seed i) in omega (arith, forty)

pub next_is : (seed i : ℕ) (frame : Frame) → frame ≡ frame_made seed i → (let packet : PacketIn = record { bytes = frame.octets; is_ip = true } in packet ≡ packet_in seed i)
next_is seed i frame is = ap (λ (f : Frame). let packet : PacketIn = record { bytes = f.octets; is_ip = true } in packet) is

abbrev frame_text : ℕ → ℕ → List ℕ
frame_text seed i = frame_octets (frame_made seed i).head (frame_made seed i).octets

-- its frame waits too
pub sent_next : (maker maker' : Making) (waits waits' name : List ℕ) (folder : DepotState) → (let next : Making = record { seed = maker.seed; made = maker.made + 1 } in maker' ≡ next)
    → waits' ≡ waits ++ frame_text maker.seed (maker.made + 1) → IsSentUpTo maker waits name folder → IsSentUpTo maker' waits' name folder
sent_next maker maker' waits waits' name folder next more was told =
    subst (λ (m : Making). IsSent (capture_made m.seed m.made) waits' (folder.held name)) (sym next)
    (subst (λ text. IsSent text waits' (folder.held name)) (sym (captures_grow_by_a_frame.more maker.seed maker.made))
    (subst (λ ws. IsSent (capture_made maker.seed maker.made ++ frame_text maker.seed (maker.made + 1)) ws (folder.held name)) (sym more)
    (sent_more (capture_made maker.seed maker.made) waits (frame_text maker.seed (maker.made + 1)) (folder.held name) (was told))))

-- what is sent of fewer packets begins the capture of more
pub begun_up_to : (seed few many : ℕ) (name : List ℕ) (folder : DepotState) → few ≤ many → IsBegunUpTo seed few name folder → IsBegunUpTo seed many name folder
begun_up_to seed few many name folder less was told =
    let longer = shorter_captures_begin_longer_ones seed few many less in
    subst (λ text. IsBegun text (folder.held name)) (sym longer.1) (begun_more (capture_made seed few) longer.0 (folder.held name) (was told))

pub sent_begins : (maker : Making) (waits name : List ℕ) (folder : DepotState) → IsSentUpTo maker waits name folder → IsBegunUpTo maker.seed maker.made name folder
sent_begins maker waits name folder was told = (waits, was told)

-- what waits is appended
pub sent_on : (maker : Making) (waits waits' name : List ℕ) (old new : DepotState) → HasSent name None waits waits' old new → IsSentUpTo maker waits name old → IsSentUpTo maker waits' name new
sent_on maker waits waits' name old new sent was told =
    let told_before = subst IsTrue sent.appended.told told in
    let after = sent.text told_before (capture_made maker.seed maker.made) (was told_before) in
    subst (λ ws. IsSent (capture_made maker.seed maker.made) ws (new.held name)) (after.2 refl ∙ sym (sent.sent refl)) after.1

pub begun_on : (stop : Option MadeStop) (maker : Making) (waits waits' name : List ℕ) (old new : DepotState) → HasSent name stop waits waits' old new → IsSentUpTo maker waits name old
    → IsBegunUpTo maker.seed maker.made name new
begun_on stop maker waits waits' name old new sent was told =
    let told_before = subst IsTrue sent.appended.told told in
    let after = sent.text told_before (capture_made maker.seed maker.made) (was told_before) in
    (after.0, after.1)

pub sent_if : (result : Result (Unit {0}) MadeStop) (maker : Making) (waits waits' name : List ℕ) (old new : DepotState) → HasSent name (stop_of result) waits waits' old new → IsSentUpTo maker waits name old
    → OnOk result (IsSentUpTo maker waits' name new)
sent_if (Ok done) maker waits waits' name old new sent was = sent_on maker waits waits' name old new sent was
sent_if (Err stop) maker waits waits' name old new sent was = tt

pub begun_next : (stop : Option MadeStop) (maker maker' : Making) (waits waits' name : List ℕ) (old new : DepotState) → (let next : Making = record { seed = maker.seed; made = maker.made + 1 } in maker' ≡ next)
    → HasSent name stop waits waits' old new → IsSentUpTo maker' waits name old → IsBegunUpTo maker.seed (maker.made + 1) name new
begun_next stop maker maker' waits waits' name old new next sent was = subst (λ (m : Making). IsBegunUpTo m.seed m.made name new) next (begun_on stop maker' waits waits' name old new sent was)

-- ---- packets one behind the other

pub packets_more : (seed first k : ℕ) → packets_made seed first (k + 1) ≡ packets_made seed first k ++ packet_in seed (first + k + 1) ∷ []
packets_more seed first k = map-range_with_len_more (packet_in seed) (first + 1) k (first + k + 1) (omega arith)

abbrev made_on : Making → ℕ → Making
made_on first k = record { seed = first.seed; made = first.made + k }

pub maker_more : (first now next : Making) (k : ℕ) → now ≡ made_on first k → next ≡ made_on now 1 → next ≡ made_on first (k + 1)
maker_more first now next k is goes =
    let on : first.made + k + 1 ≡ first.made + (k + 1) = omega arith in
    goes ∙ ap (λ m. made_on m 1) is ∙ ap (λ n. let m : Making = record { seed = first.seed; made = n } in m) on

pub batch_more : (first now : Making) (k : ℕ) (batch next : List PacketIn) → now ≡ made_on first k → batch ≡ packets_made first.seed first.made k → next ≡ batch ++ packet_in now.seed (now.made + 1) ∷ []
    → next ≡ packets_made first.seed first.made (k + 1)
batch_more first now k batch next is are goes =
    goes ∙ (λ i. are i ++ packet_in (is i).seed ((is i).made + 1) ∷ []) ∙ sym (packets_more first.seed first.made k)

pub begun_within : (first now : Making) (k count : ℕ) (name : List ℕ) (folder : DepotState) → now ≡ made_on first k → k < count → IsBegunUpTo now.seed (now.made + 1) name folder
    → IsBegunUpTo first.seed (first.made + count) name folder
begun_within first now k count name folder is less was =
    begun_up_to first.seed (first.made + k + 1) (first.made + count) name folder (omega arith) (subst (λ (m : Making). IsBegunUpTo m.seed (m.made + 1) name folder) is was)

pub packets_split : (seed first n m : ℕ) → packets_made seed first (n + m) ≡ packets_made seed first n ++ packets_made seed (first + n) m
packets_split seed first zero m =
    let none : 0 + m ≡ m = omega arith in
    let here : first ≡ first + 0 = omega arith in
    ap (packets_made seed first) none ∙ ap (λ a. packets_made seed a m) here
packets_split seed first (suc n) m =
    let more : suc n + m ≡ suc (n + m) = omega arith in
    let on : first + 1 + n ≡ first + suc n = omega arith in
    ap (packets_made seed first) more ∙ ap (λ ps. packet_in seed (first + 1) ∷ ps) (packets_split seed (first + 1) n m ∙ ap (λ a. packets_made seed (first + 1) n ++ packets_made seed a m) on)

pub packets_count : (seed first n : ℕ) → length (packets_made seed first n) ≡ n
packets_count seed first n = length-map-range_with_len (packet_in seed) (first + 1) n

all_short : (seed a n : ℕ) → All (λ (p : PacketIn). length p.bytes ≤ 262144) (map (packet_in seed) (range_with_len a n))
all_short seed a zero = All-nil (λ (p : PacketIn). length p.bytes ≤ 262144)
all_short seed a (suc n) =
    All-cons (λ (p : PacketIn). length p.bytes ≤ 262144) (packet_in seed a) (map (packet_in seed) (range_with_len (a + 1) n))
    (omega (arith, made_packets_have_40_octets (number_at seed a))) (all_short seed (a + 1) n)

pub packets_short : (seed first n : ℕ) → All (λ (p : PacketIn). length p.bytes ≤ 262144) (packets_made seed first n)
packets_short seed first n = all_short seed (first + 1) n
