-- Records one behind another: as many steps as there are octets are enough.
use Rattle.std.proofs.Common.{arith, ◌≡◌, ◌≤◌, ◌+◌, ℕ, zero, suc, List, [], ◌∷◌, length, drop, Result, Ok, Err, Option, Some, None, refl, ap, sym, ◌∙◌}
use Rattle.std.proofs.lemmas.List.{length-drop, nil_from_length}
use Rattle.net_io.specs.declared.file_window.order.OctetOrder.{OctetOrder}
use Rattle.pcap_frames.specs.declared.fault.CaptureFault.{CaptureFault}
use Rattle.pcap_frames.specs.Record.{Frame, head_at, record_at, record_size}
use Rattle.pcap_frames.specs.Capture.{Records, go_on, records_within, records_at}

-- at the file's end there is none
pub none_at_end : (order : OctetOrder) (at : ℕ) → record_at order at [] ≡ Ok None
unfolding head_at
none_at_end order at = refl

nothing : Records
nothing = record { frames = []; fault = None }

ends_at_once : (more : ℕ → List ℕ → Records) (order : OctetOrder) (at : ℕ) (rest : List ℕ) → length rest ≤ 0 → go_on more at rest (record_at order at rest) ≡ record { frames = []; fault = None }
ends_at_once more order at rest le =
    let empty : rest ≡ [] = nil_from_length rest (omega arith) in
    ap (λ s. go_on more at s (record_at order at s)) empty ∙ ap (go_on more at []) (none_at_end order at)

-- two ways to go on that agree behind a record
go_same : (more other : ℕ → List ℕ → Records) (at : ℕ) (rest : List ℕ) (here : Result (Option Frame) CaptureFault)
    → ((frame : Frame) → more (at + record_size frame) (drop (record_size frame) rest) ≡ other (at + record_size frame) (drop (record_size frame) rest))
    → go_on more at rest here ≡ go_on other at rest here
go_same more other at rest (Err fault) same = refl
go_same more other at rest (Ok None) same = refl
go_same more other at rest (Ok (Some frame)) same =
    ap (λ (behind : Records). let all : Records = record { frames = frame ∷ behind.frames; fault = behind.fault } in all) (same frame)

enough : (m n : ℕ) (order : OctetOrder) (at : ℕ) (rest : List ℕ) → length rest ≤ m → length rest ≤ n → records_within m order at rest ≡ records_within n order at rest
unfolding records_within
enough zero zero order at rest le le' = refl
enough zero (suc n) order at rest le le' = sym (ends_at_once (records_within n order) order at rest le)
enough (suc m) zero order at rest le le' = ends_at_once (records_within m order) order at rest le'
enough (suc m) (suc n) order at rest le le' =
    go_same (records_within m order) (records_within n order) at rest (record_at order at rest)
    (λ frame. let count = length-drop (record_size frame) rest in
    enough m n order (at + record_size frame) (drop (record_size frame) rest) (omega arith) (omega arith))

pub one_and_more : (order : OctetOrder) (at : ℕ) (rest : List ℕ) → records_at order at rest ≡ go_on (records_at order) at rest (record_at order at rest)
unfolding records_at records_within
one_and_more order at rest =
    enough (length rest) (suc (length rest)) order at rest (omega arith) (omega arith)
    ∙ go_same (records_within (length rest) order) (records_at order) at rest (record_at order at rest)
    (λ frame. let count = length-drop (record_size frame) rest in
    enough (length rest) (length (drop (record_size frame) rest)) order (at + record_size frame) (drop (record_size frame) rest) (omega arith) (omega arith))
