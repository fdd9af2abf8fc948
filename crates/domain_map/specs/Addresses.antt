-- The addresses of an entry of a map, in order of insertion.
use Rattle.std.specs.Prelude.{◌≡◌, List, [], ◌∷◌, ◌++◌, length, Result, Ok, Err, is_some, nat_lt, if◌then◌else◌}
use Rattle.std.specs.Map.{lookup}
use Rattle.domain_map.specs.address_text.Prefix.{AddressBlock, same_block}
use Rattle.domain_map.specs.declared.protocol.Protocol.{Protocol}
use Rattle.domain_map.specs.declared.fault.MapFault.{MapFault}
use Rattle.domain_map.specs.declared.fault.MapFault.TheVariants as Fault

-- prefixes with their protocols, in order of insertion
abbrev pub Addresses : Type 0
Addresses = List (AddressBlock × Protocol)

-- with one more behind the others, if it is new and there is room
abbrev pub with_address : Addresses → AddressBlock → Protocol → Result Addresses MapFault
with_address addresses block protocol =
    if is_some (lookup (same_block block) addresses) then Err Fault.Exists
    else (if nat_lt (length addresses) 256 then Ok (addresses ++ (block, protocol) ∷ []) else Err Fault.Full)

-- the result with f applied to its value
abbrev pub map_ok : {X Y : Type 0} → (X → Y) → Result X MapFault → Result Y MapFault
map_ok f (Ok x) = Ok (f x)
map_ok f (Err fault) = Err fault

-- the refusal is that of the result; want of memory is free
abbrev pub IsRefusedBy : {X : Type 0} → Result X MapFault → MapFault → Type 0
IsRefusedBy made Fault.OutOfMemory = Unit {0}
IsRefusedBy made fault = made ≡ Err fault
