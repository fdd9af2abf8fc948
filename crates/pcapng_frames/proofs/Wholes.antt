-- Whole blocks and their trailers.
use Rattle.std.proofs.Common.{arith, ◌≡◌, ◌≤◌, ◌+◌, ◌-◌, min, ℕ, Bool, true, false, List, length, take, drop, Result, Ok, Err, ap, sym, subst, ◌∙◌}
use Rattle.std.specs.Prelude.{◌==◌, if◌then◌else◌}
use Rattle.std.proofs.lemmas.Bool.Decides.{nat_tests}
use Rattle.std.proofs.lemmas.List.{length-drop, drop-drop, take_all}
use Rattle.net_io.specs.file_window.Numbers.{ordered_number}
use Rattle.pcapng_frames.specs.declared.head.BlockHead.{BlockHead}
use Rattle.pcapng_frames.specs.declared.fault.NgFault.{NgFault}
use Rattle.pcapng_frames.specs.declared.fault.NgStop.{NgStop}
use Rattle.pcapng_frames.specs.declared.fault.NgStop.TheVariants.{Capture}
use Rattle.pcapng_frames.specs.declared.fault.NgKind.TheVariants.{Trailer}
use Rattle.pcapng_frames.specs.Head.{whole_at}
use Rattle.pcapng_frames.specs.Reader.{IsNgAnswer}
use Rattle.pcapng_frames.specs.inside.Parts.{enough_at, trailer_at}
use Rattle.net_io.proofs.file_window.Law.{a_number_of_a_window_is_the_files}

-- a file that has too few octets hasn't the whole block
pub whole_short : (need at : ℕ) (rest : List ℕ) (head : BlockHead) → need ≤ head.total → (fault : NgFault) → enough_at need at rest ≡ Err fault → whole_at at rest head ≡ Err fault
unfolding whole_at
whole_short need at rest head le fault is = grind (arith, nat_tests)

pub whole_ends : (at : ℕ) (rest : List ℕ) (head : BlockHead) (fault : NgFault) → trailer_at at rest head ≡ Err fault → whole_at at rest head ≡ Err fault
unfolding whole_at
whole_ends at rest head fault is = grind (arith, nat_tests)

by_test : (at : ℕ) (head : BlockHead) (same : Bool) (result : Result (Unit {0}) NgStop) (said : Result BlockHead NgFault)
    → result ≡ (if same then Ok tt else Err (Capture (record { octet = at + (head.total - 4); kind = Trailer })))
    → said ≡ (if same then Ok head else Err (record { octet = at + (head.total - 4); kind = Trailer }))
    → IsNgAnswer (λ _. head) result said
by_test at head true result said is says = subst (λ r. IsNgAnswer (λ _. head) r said) (sym is) says
by_test at head false result said is says = subst (λ r. IsNgAnswer (λ _. head) r said) (sym is) says

whole_by : (at : ℕ) (rest : List ℕ) (head : BlockHead) (last : ℕ) → trailer_at at rest head ≡ Ok last
    → whole_at at rest head ≡ (if last == head.total then Ok head else Err (record { octet = at + (head.total - 4); kind = Trailer }))
unfolding whole_at
whole_by at rest head last is = grind (arith, nat_tests)

-- the trailer tells the rest
pub whole_answer : (at : ℕ) (rest : List ℕ) (head : BlockHead) (last : ℕ) (result : Result (Unit {0}) NgStop) → trailer_at at rest head ≡ Ok last
    → result ≡ (if last == head.total then Ok tt else Err (Capture (record { octet = at + (head.total - 4); kind = Trailer })))
    → IsNgAnswer (λ _. head) result (whole_at at rest head)
whole_answer at rest head last result told is = by_test at head (last == head.total) result (whole_at at rest head) is (whole_by at rest head last told)

pub trailer_there : (at : ℕ) (rest : List ℕ) (head : BlockHead) (last : ℕ) → head.total ≤ length rest → ordered_number head.order 4 (drop (head.total - 4) rest) ≡ last → trailer_at at rest head ≡ Ok last
trailer_there at rest head last le is = rw is (grind (arith, nat_tests))

-- four octets read where the trailer stands
pub trailer_read : (file : List ℕ) (place at count : ℕ) (head : BlockHead) (octets : List ℕ) (last : ℕ) → 4 ≤ head.total → at ≡ place + (head.total - 4) → length octets ≡ 4 → 4 ≤ count
    → count ≡ min 4 (length file - at) → take count octets ≡ take count (drop at file) → ordered_number head.order 4 octets ≡ last → trailer_at place (drop place file) head ≡ Ok last
trailer_read file place at count head octets last some is long whole counted same told =
    let four : count ≡ 4 = omega arith in
    let all : take 4 octets ≡ octets = take_all 4 octets (omega arith) in
    let front : take (length octets) (drop at file) ≡ octets = rw long (sym (ap (λ n. take n (drop at file)) four) ∙ sym same ∙ ap (λ n. take n octets) four ∙ all) in
    let moved : drop (head.total - 4) (drop place file) ≡ drop at file = drop-drop (head.total - 4) place file ∙ ap (λ k. drop k file) (sym is) in
    trailer_there place (drop place file) head last (omega (arith, length-drop place file))
    (ap (ordered_number head.order 4) moved ∙ a_number_of_a_window_is_the_files head.order 4 0 file at octets front (omega arith) ∙ told)

-- a whole block is there
pub whole_there : (at : ℕ) (rest : List ℕ) (head : BlockHead) → whole_at at rest head ≡ Ok head → head.total ≤ length rest
unfolding whole_at
whole_there at rest head is = grind (arith, nat_tests)
