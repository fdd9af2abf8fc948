-- The options of an interface description block: a code, a length and a value padded to a multiple of 4 each.
use Rattle.std.specs.Prelude.{ℕ, zero, suc, ◌+◌, ◌-◌, not, ◌&&◌, ◌||◌, ◌==◌, nat_lt, if◌then◌else◌, List, drop, slice_index, Option, Some, None, unwrap_or, Result, Ok, Err}
use Rattle.std.specs.Option.{option_or}
use Rattle.net_io.specs.declared.file_window.order.OctetOrder.{OctetOrder}
use Rattle.net_io.specs.file_window.Numbers.{ordered_number}
use Rattle.pcapng_frames.specs.declared.options.BlockOption.{BlockOption}
use Rattle.pcapng_frames.specs.declared.fault.NgFault.{NgFault}
use Rattle.pcapng_frames.specs.declared.fault.NgKind.TheVariants.{Options}
use Rattle.pcapng_frames.specs.Numbers.{padded}

-- The option at the octet `at`, where `left` octets are left up to the trailer; none where the list ends: at the trailer, or by code 0.
-- Code 9 tells the resolution in one octet. A fault: the option passes the trailer, or code 9 has another length.
unfoldable pub option_at : OctetOrder → ℕ → ℕ → List ℕ → Result (Option BlockOption) NgFault
option_at order at left rest =
    let code = ordered_number order 2 rest in
    let count = ordered_number order 2 (drop 2 rest) in
    if nat_lt left 4 || code == 0 then Ok None
    else (if nat_lt left (4 + padded count) || (code == 9 && not (count == 1)) then Err (record { octet = at; kind = Options })
    else Ok (Some (record { size = 4 + padded count; resolution = if code == 9 then Some (slice_index rest 4) else None })))

-- the first that was told counts; where the list ends and none was told, it is microseconds
abbrev pub behind_option : (Option ℕ → ℕ → Result ℕ NgFault) → Option ℕ → Result (Option BlockOption) NgFault → Result ℕ NgFault
behind_option more told (Err fault) = Err fault
behind_option more told (Ok None) = Ok (unwrap_or told 6)
behind_option more told (Ok (Some option)) = more (option_or told option.resolution) option.size

unfoldable pub resolution_within : ℕ → OctetOrder → Option ℕ → ℕ → ℕ → List ℕ → Result ℕ NgFault
resolution_within zero order told at left rest = Ok (unwrap_or told 6)
resolution_within (suc n) order told at left rest =
    behind_option (λ told size. resolution_within n order told (at + size) (left - size) (drop size rest)) told (option_at order at left rest)

-- The resolution that the options from the octet `at` on tell, where `told` is what those before told: no more options than octets.
unfoldable pub resolution_at : OctetOrder → Option ℕ → ℕ → ℕ → List ℕ → Result ℕ NgFault
resolution_at order told at left rest = resolution_within left order told at left rest
