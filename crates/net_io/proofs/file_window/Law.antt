-- The laws, each under the name of its function.
use Rattle.std.proofs.Common.{arith, ◌≡◌, ◌≤◌, ◌<◌, ◌^◌, ◌+◌, ℕ, List, ◌++◌, length, take, drop, refl, ap, sym, ◌∙◌, inl, inr}
use Rattle.std.proofs.lemmas.Bool.{cases_lt}
use Rattle.std.proofs.lemmas.List.{take-append-drop, take_all, take_at, drop_all, length-take, length-drop, drop-drop, drop-append-le, take-append-le}
use Rattle.byteorder.specs.Endian.{little_bytes}
use Rattle.byteorder.specs.Numbers.{big_from-append, little_from-append, little_number-reads_back}
use Rattle.net_io.specs.declared.file_window.order.OctetOrder.{OctetOrder}
use Rattle.net_io.specs.declared.file_window.order.OctetOrder.TheVariants.{Little, Big}
use Rattle.net_io.specs.file_window.Numbers.{ordered_number}
use Rattle.net_io.specs.file_window.Window.{IsFrom}

pub a_window_is_a_front_of_the_rest : (file : List ℕ) (at : ℕ) (octets : List ℕ) → IsFrom file at octets → drop at file ≡ octets ++ drop (length octets) (drop at file)
a_window_is_a_front_of_the_rest file at octets front =
    sym (take-append-drop (length octets) (drop at file)) ∙ ap (λ a. a ++ drop (length octets) (drop at file)) front

pub a_window_has_no_more_than_the_rest : (file : List ℕ) (at : ℕ) (octets : List ℕ) → IsFrom file at octets → length octets ≤ length (drop at file)
a_window_has_no_more_than_the_rest file at octets front =
    let count : length (take (length octets) (drop at file)) ≡ length octets = ap length front in
    omega (arith, count, length-take (length octets) (drop at file))

passed : (file : List ℕ) (at n : ℕ) (octets : List ℕ) → n ≤ length octets → IsFrom file at octets → IsFrom file (at + n) (drop n octets)
passed file at n octets le front =
    let more = drop (length octets) (drop at file) in
    let behind : drop (at + n) file ≡ drop n octets ++ more =
    sym (drop-drop n at file) ∙ ap (drop n) (a_window_is_a_front_of_the_rest file at octets front) ∙ drop-append-le n octets more le in
    ap (take (length (drop n octets))) behind ∙ take_at (drop n octets) more (length (drop n octets)) refl

pub a_window_goes_on_behind_octets : (file : List ℕ) (at n : ℕ) (octets : List ℕ) → IsFrom file at octets → IsFrom file (at + n) (drop n octets)
a_window_goes_on_behind_octets file at n octets front =
    elim (cases_lt (length octets) n) [
      | inl lt ↦ (let none = drop_all n octets (omega arith) in rw none refl)
      | inr ge ↦ passed file at n octets ge front
    ]

pub octets_of_a_window_are_the_files : (file : List ℕ) (at k n : ℕ) (octets : List ℕ) → IsFrom file at octets → k + n ≤ length octets
    → take n (drop k (drop at file)) ≡ take n (drop k octets)
octets_of_a_window_are_the_files file at k n octets front le =
    let more = drop (length octets) (drop at file) in
    ap (λ l. take n (drop k l)) (a_window_is_a_front_of_the_rest file at octets front)
    ∙ ap (take n) (drop-append-le k octets more (omega arith))
    ∙ take-append-le n (drop k octets) more (omega (arith, length-drop k octets))

pub a_number_reads_its_own_octets : (order : OctetOrder) (n : ℕ) (octets more : List ℕ) → n ≤ length octets → ordered_number order n (octets ++ more) ≡ ordered_number order n octets
unfolding ordered_number
a_number_reads_its_own_octets Little n octets more le = little_from-append n octets more le
a_number_reads_its_own_octets Big n octets more le = big_from-append n octets more le

pub a_number_behind_reads_its_own_octets : (order : OctetOrder) (n k : ℕ) (octets more : List ℕ) → k + n ≤ length octets
    → ordered_number order n (drop k (octets ++ more)) ≡ ordered_number order n (drop k octets)
a_number_behind_reads_its_own_octets order n k octets more le =
    let within : k ≤ length octets = omega arith in
    ap (ordered_number order n) (drop-append-le k octets more within) ∙ a_number_reads_its_own_octets order n (drop k octets) more (omega (arith, length-drop k octets))

pub a_number_of_a_window_is_the_files : (order : OctetOrder) (n k : ℕ) (file : List ℕ) (at : ℕ) (octets : List ℕ) → IsFrom file at octets → k + n ≤ length octets
    → ordered_number order n (drop k (drop at file)) ≡ ordered_number order n (drop k octets)
a_number_of_a_window_is_the_files order n k file at octets front le =
    ap (λ l. ordered_number order n (drop k l)) (a_window_is_a_front_of_the_rest file at octets front)
    ∙ a_number_behind_reads_its_own_octets order n k octets (drop (length octets) (drop at file)) le

pub what_a_window_tells_the_file_tells : {X : Type 0} (tell : List ℕ → X) (n : ℕ) (file : List ℕ) (at : ℕ) (octets : List ℕ)
    → ((front rest : List ℕ) → n ≤ length front → tell (front ++ rest) ≡ tell front)
    → IsFrom file at octets → (length octets < n → length octets ≡ length (drop at file)) → tell (drop at file) ≡ tell octets
what_a_window_tells_the_file_tells tell n file at octets longer front enough =
    elim (cases_lt (length octets) n) [
      | inl lt ↦ ap tell (sym (take_all (length octets) (drop at file) (let all = enough lt in omega arith)) ∙ front)
      | inr ge ↦ ap tell (a_window_is_a_front_of_the_rest file at octets front) ∙ longer octets (drop (length octets) (drop at file)) ge
    ]

pub a_written_number_reads_back : (n x : ℕ) (more : List ℕ) → x < 256 ^ n → ordered_number Little n (little_bytes n x ++ more) ≡ x
unfolding ordered_number
a_written_number_reads_back n x more fits = little_number-reads_back n x more fits
