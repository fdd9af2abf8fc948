-- What the octets of a window say of the file that they stand in.
use Rattle.std.proofs.Common.{arith, ◌≡◌, ◌≤◌, ◌<◌, ℕ, List, ◌++◌, length, take, Some, None, Option, refl, ap, ◌∙◌}
use Rattle.std.proofs.lemmas.Bool.Decides.{nat_tests}
use Rattle.std.proofs.lemmas.List.{length-append}
use Rattle.net_io.specs.declared.file_window.order.OctetOrder.{OctetOrder}
use Rattle.net_io.specs.declared.file_window.order.OctetOrder.TheVariants.{Little, Big}
use Rattle.net_io.proofs.file_window.Law.{what_a_window_tells_the_file_tells, a_number_reads_its_own_octets as number_front, a_number_behind_reads_its_own_octets as number_behind}
use Rattle.pcapng_frames.specs.Head.{section_order, block_order, head_by, block_head_at}

order_longer : (order : OctetOrder) (xs ys : List ℕ) → 12 ≤ length xs → block_order order (xs ++ ys) ≡ block_order order xs
unfolding section_order
order_longer order xs ys long =
    let kind = number_front Little 4 xs ys (omega arith) in
    let little = number_behind Little 4 8 xs ys (omega arith) in
    let big = number_behind Big 4 8 xs ys (omega arith) in
    rw (kind, little, big) refl

head_by_longer : (at : ℕ) (xs ys : List ℕ) (order : Option OctetOrder) → 12 ≤ length xs → head_by at (xs ++ ys) order ≡ head_by at xs order
head_by_longer at xs ys None long = refl
head_by_longer at xs ys (Some order) long =
    let kind = number_front order 4 xs ys (omega arith) in
    let total = number_behind order 4 4 xs ys (omega arith) in
    rw (kind, total) refl

pub block_head_longer : (order : OctetOrder) (at : ℕ) (xs ys : List ℕ) → 12 ≤ length xs → block_head_at order at (xs ++ ys) ≡ block_head_at order at xs
unfolding block_head_at
block_head_longer order at xs ys long =
    let same : head_by at (xs ++ ys) (block_order order (xs ++ ys)) ≡ head_by at xs (block_order order xs) =
    ap (head_by at (xs ++ ys)) (order_longer order xs ys long) ∙ head_by_longer at xs ys (block_order order xs) long in
    let count = length-append xs ys in
    rw same (grind (arith, nat_tests))

-- the head in the window is the head in the file
pub block_head_front : (order : OctetOrder) (at : ℕ) (xs ahead : List ℕ) → take (length ahead) xs ≡ ahead → (length ahead < 12 → length ahead ≡ length xs)
    → block_head_at order at xs ≡ block_head_at order at ahead
block_head_front order at xs ahead = what_a_window_tells_the_file_tells (block_head_at order at) 12 xs 0 ahead (block_head_longer order at)
