-- Options one behind another: as many steps as there are octets are enough.
use Rattle.std.proofs.Common.{arith, ◌≡◌, ◌≢◌, ◌≤◌, ◌<◌, ◌+◌, ◌-◌, ℕ, zero, suc, List, [], ◌∷◌, ◌++◌, length, take, drop, Result, Ok, Err, Option, Some, None, refl, ap, sym, ◌∙◌}
use Rattle.std.specs.Prelude.{slice_index, unwrap_or}
use Rattle.std.proofs.lemmas.Bool.Decides.{nat_tests}
use Rattle.std.proofs.lemmas.List.{drop-drop, get_or_append_left}
use Rattle.std.specs.Option.{option_or}
use Rattle.net_io.specs.declared.file_window.order.OctetOrder.{OctetOrder}
use Rattle.net_io.specs.file_window.Numbers.{ordered_number}
use Rattle.net_io.proofs.file_window.Law.{what_a_window_tells_the_file_tells, a_number_reads_its_own_octets as number_front, a_number_behind_reads_its_own_octets as number_behind}
use Rattle.pcapng_frames.specs.declared.options.BlockOption.{BlockOption}
use Rattle.pcapng_frames.specs.declared.head.BlockHead.{BlockHead}
use Rattle.pcapng_frames.specs.declared.fault.NgFault.{NgFault}
use Rattle.pcapng_frames.specs.declared.fault.NgKind.TheVariants.{Version}
use Rattle.pcapng_frames.specs.Options.{option_at, behind_option, resolution_within, resolution_at}
use Rattle.pcapng_frames.specs.Section.{Section}
use Rattle.pcapng_frames.specs.Block.{section_block, interface_by, interface_block}
use Rattle.pcapng_frames.specs.inside.Parts.{enough_at, passed_block}

pub option_longer : (order : OctetOrder) (at left : ℕ) (xs ys : List ℕ) → 5 ≤ length xs → option_at order at left (xs ++ ys) ≡ option_at order at left xs
unfolding option_at
option_longer order at left xs ys long =
    let code = number_front order 2 xs ys (omega arith) in
    let count = number_behind order 2 2 xs ys (omega arith) in
    let value : slice_index (xs ++ ys) 4 ≡ slice_index xs 4 = get_or_append_left xs ys 0 4 (omega arith) in
    rw (code, count, value) refl

-- the option in the window is that in the file
pub option_front : (order : OctetOrder) (at left : ℕ) (xs ahead : List ℕ) → take (length ahead) xs ≡ ahead → 5 ≤ length ahead
    → option_at order at left xs ≡ option_at order at left ahead
option_front order at left xs ahead front long = what_a_window_tells_the_file_tells (option_at order at left) 5 xs 0 ahead (option_longer order at left) front (λ lt. omega arith)

-- at the trailer there is none
pub none_left : (order : OctetOrder) (at left : ℕ) (rest : List ℕ) → left < 4 → option_at order at left rest ≡ Ok None
unfolding option_at
none_left order at left rest lt = grind (arith, nat_tests)

pub option_some : (order : OctetOrder) (at left : ℕ) (rest : List ℕ) (option : BlockOption) → option_at order at left rest ≡ Ok (Some option) → 4 ≤ option.size
unfolding option_at
option_some order at left rest option is = grind (arith, nat_tests)

pub option_within : (order : OctetOrder) (at left : ℕ) (rest : List ℕ) (option : BlockOption) → option_at order at left rest ≡ Ok (Some option) → option.size ≤ left
unfolding option_at
option_within order at left rest option is = grind (arith, nat_tests)

pub behind_same : (more other : Option ℕ → ℕ → Result ℕ NgFault) (told : Option ℕ) (here : Result (Option BlockOption) NgFault)
    → ((option : BlockOption) → here ≡ Ok (Some option) → more (option_or told option.resolution) option.size ≡ other (option_or told option.resolution) option.size)
    → behind_option more told here ≡ behind_option other told here
behind_same more other told (Err fault) same = refl
behind_same more other told (Ok None) same = refl
behind_same more other told (Ok (Some option)) same = same option refl

enough : (m n : ℕ) (order : OctetOrder) (told : Option ℕ) (at left : ℕ) (rest : List ℕ) → left ≤ m → left ≤ n → resolution_within m order told at left rest ≡ resolution_within n order told at left rest
unfolding resolution_within
enough zero zero order told at left rest le le' = refl
enough zero (suc n) order told at left rest le le' = sym (ap (behind_option (λ told size. resolution_within n order told (at + size) (left - size) (drop size rest)) told) (none_left order at left rest (omega arith)))
enough (suc m) zero order told at left rest le le' = ap (behind_option (λ told size. resolution_within m order told (at + size) (left - size) (drop size rest)) told) (none_left order at left rest (omega arith))
enough (suc m) (suc n) order told at left rest le le' =
    behind_same (λ told size. resolution_within m order told (at + size) (left - size) (drop size rest)) (λ told size. resolution_within n order told (at + size) (left - size) (drop size rest))
    told (option_at order at left rest)
    (λ option here. let some = option_some order at left rest option here in
    enough m n order (option_or told option.resolution) (at + option.size) (left - option.size) (drop option.size rest) (omega arith) (omega arith))

-- what a list tells is what its first option tells, and the rest
pub one_option : (order : OctetOrder) (told : Option ℕ) (at left : ℕ) (rest : List ℕ)
    → resolution_at order told at left rest ≡ behind_option (λ told size. resolution_at order told (at + size) (left - size) (drop size rest)) told (option_at order at left rest)
unfolding resolution_at resolution_within
one_option order told at left rest =
    enough left (suc left) order told at left rest (omega arith) (omega arith)
    ∙ behind_same (λ told size. resolution_within left order told (at + size) (left - size) (drop size rest)) (λ told size. resolution_at order told (at + size) (left - size) (drop size rest))
    told (option_at order at left rest)
    (λ option here. let some = option_some order at left rest option here in
    enough left (left - option.size) order (option_or told option.resolution) (at + option.size) (left - option.size) (drop option.size rest) (omega arith) (omega arith))

pub resolution_fault : (order : OctetOrder) (told : Option ℕ) (at left : ℕ) (rest : List ℕ) (fault : NgFault) → option_at order at left rest ≡ Err fault → resolution_at order told at left rest ≡ Err fault
resolution_fault order told at left rest fault is =
    one_option order told at left rest ∙ ap (behind_option (λ told size. resolution_at order told (at + size) (left - size) (drop size rest)) told) is

pub resolution_end : (order : OctetOrder) (told : Option ℕ) (at left : ℕ) (rest : List ℕ) → option_at order at left rest ≡ Ok None → resolution_at order told at left rest ≡ Ok (unwrap_or told 6)
resolution_end order told at left rest is =
    one_option order told at left rest ∙ ap (behind_option (λ told size. resolution_at order told (at + size) (left - size) (drop size rest)) told) is

pub resolution_more : (order : OctetOrder) (told : Option ℕ) (at left : ℕ) (rest : List ℕ) (option : BlockOption) → option_at order at left rest ≡ Ok (Some option)
    → resolution_at order told at left rest ≡ resolution_at order (option_or told option.resolution) (at + option.size) (left - option.size) (drop option.size rest)
resolution_more order told at left rest option is =
    one_option order told at left rest ∙ ap (behind_option (λ told size. resolution_at order told (at + size) (left - size) (drop size rest)) told) is

-- the rest behind one option tells what the list told
pub option_step : (order : OctetOrder) (file : List ℕ) (told later : Option ℕ) (at left to : ℕ) (option : BlockOption) (said : Result ℕ NgFault) → option_at order at left (drop at file) ≡ Ok (Some option)
    → later ≡ option_or told option.resolution → to ≡ at + option.size → resolution_at order told at left (drop at file) ≡ said
    → resolution_at order later to (left - option.size) (drop to file) ≡ said
option_step order file told later at left to option said here first behind was =
    let moved : drop option.size (drop at file) ≡ drop to file = drop-drop option.size at file ∙ ap (λ k. drop k file) (sym behind) in
    ap (λ t. resolution_at order t to (left - option.size) (drop to file)) first
    ∙ ap (λ k. resolution_at order (option_or told option.resolution) k (left - option.size) (drop to file)) behind
    ∙ ap (resolution_at order (option_or told option.resolution) (at + option.size) (left - option.size)) (sym moved)
    ∙ sym (resolution_more order told at left (drop at file) option here)
    ∙ was

-- where octets are there, want of them is no fault
pub no_want : {X : Type 0} (need at : ℕ) (rest : List ℕ) (said : Result X NgFault) → need ≤ length rest → (fault : NgFault) → enough_at need at rest ≡ Err fault → said ≡ Err fault
no_want need at rest said le fault is = grind (arith, nat_tests)

pub section_wrong : (at : ℕ) (rest : List ℕ) (head : BlockHead) (version : ℕ) → ordered_number head.order 2 (drop 12 rest) ≡ version → version ≢ 1
    → section_block at rest head ≡ Err (record { octet = at + 12; kind = Version })
section_wrong at rest head version is not_one = rw is (grind (arith, nat_tests))

pub section_right : (at : ℕ) (rest : List ℕ) (head : BlockHead) (version : ℕ) (section : Section) → ordered_number head.order 2 (drop 12 rest) ≡ version → version ≡ 1
    → section ≡ record { order = head.order; interfaces = [] } → section_block at rest head ≡ Ok (passed_block section head.total)
section_right at rest head version section is one new = rw (is, one, new) (grind (arith, nat_tests))

-- the options of an interface stand behind its first 16 octets
interface_told : (section : Section) (file : List ℕ) (at : ℕ) (head : BlockHead) (said : Result ℕ NgFault) → resolution_at head.order None (at + 16) (head.total - 20) (drop (at + 16) file) ≡ said
    → interface_block section at (drop at file) head ≡ interface_by section (drop at file) head said
interface_told section file at head said is =
    ap (λ rest. interface_by section (drop at file) head (resolution_at head.order None (at + 16) (head.total - 20) rest)) (drop-drop 16 at file) ∙ ap (interface_by section (drop at file) head) is

pub interface_wrong : (section : Section) (file : List ℕ) (at : ℕ) (head : BlockHead) (fault : NgFault) → resolution_at head.order None (at + 16) (head.total - 20) (drop (at + 16) file) ≡ Err fault
    → interface_block section at (drop at file) head ≡ Err fault
interface_wrong section file at head fault is = interface_told section file at head (Err fault) is

pub interface_right : (section after : Section) (file : List ℕ) (at : ℕ) (head : BlockHead) (link resolution : ℕ)
    → resolution_at head.order None (at + 16) (head.total - 20) (drop (at + 16) file) ≡ Ok resolution
    → ordered_number head.order 2 (drop 8 (drop at file)) ≡ link
    → after ≡ record { order = section.order; interfaces = section.interfaces ++ ((record { link = link; resolution = resolution }) ∷ []) }
    → interface_block section at (drop at file) head ≡ Ok (passed_block after head.total)
interface_right section after file at head link resolution is linked new =
    interface_told section file at head (Ok resolution) is
    ∙ ap (λ link. Ok (passed_block (record { order = section.order; interfaces = section.interfaces ++ ((record { link = link; resolution = resolution }) ∷ []) }) head.total)) linked
    ∙ ap (λ section. Ok (passed_block section head.total)) (sym new)
