-- Labels of unlabelled traffic (netlabelctl(8), `unlbl add`): entries in order of insertion, each an interface, or the default
-- one, and a prefix, with a low and a high label.
use Rattle.std.specs.Prelude.{◌≡◌, ℕ, ◌&&◌, List, [], ◌∷◌, ◌++◌, length, Option, Some, None, Result, Ok, Err, option_map, is_some, nat_lt, filter, map, zip, remove, if◌then◌else◌}
use Rattle.std.specs.List.{list_any, position, range_with_len}
use Rattle.mls_label.specs.declared.label.Label.{Label}
use Rattle.domain_map.specs.declared.address_text.address.Address.{Address}
use Rattle.domain_map.specs.address_text.Prefix.{AddressBlock, same_block}
use Rattle.domain_map.specs.declared.static_map.StaticEntry.{StaticEntry}
use Rattle.domain_map.specs.declared.fault.StaticFault.{StaticFault}
use Rattle.domain_map.specs.declared.fault.StaticFault.TheVariants as Fault
use Rattle.domain_map.specs.Domains.{Domain, same_domain}
use Rattle.domain_map.specs.Longest.{longest}

-- static labels, in order of insertion
abbrev pub Statics : Type 0
Statics = List StaticEntry

-- where the entry of this interface and prefix stands
abbrev pub static_place : Statics → Domain → AddressBlock → Option ℕ
static_place statics interface block = position (λ entry. same_domain interface entry.interface && same_block block entry.prefix) statics

-- what `unlbl add` makes of the entries, or its first refusal
unfoldable pub static_added : Statics → Domain → AddressBlock → Label → Label → Result Statics StaticFault
static_added statics interface block low high =
    if is_some (static_place statics interface block) then Err Fault.Exists
    else (if nat_lt (length statics) 256 then Ok (statics ++ (record { interface = interface; prefix = block; low = low; high = high }) ∷ []) else Err Fault.Full)

-- what `unlbl del` makes of them, or none where there is no such entry
unfoldable pub static_deleted : Statics → Domain → AddressBlock → Option Statics
static_deleted statics interface block = option_map (remove statics) (static_place statics interface block)

-- the entries of an interface, each with its place among all, counted from 0
abbrev pub entries_of : Statics → Domain → List (ℕ × StaticEntry)
entries_of statics interface = filter (λ e. same_domain interface e.1.interface) (zip (range_with_len 0 (length statics)) statics)

-- the interface whose entries count for one: its own if it has any, else the default one
abbrev pub counting : Statics → List ℕ → Domain
counting statics interface = if list_any (λ entry. same_domain (Some interface) entry.interface) statics then Some interface else None

-- the entries that count for an interface
abbrev pub entries_for : Statics → List ℕ → List (ℕ × StaticEntry)
entries_for statics interface = entries_of statics (counting statics interface)

-- the same without their places
abbrev pub candidates : Statics → List ℕ → Statics
candidates statics interface = map (λ e. e.1) (entries_for statics interface)

-- the low and the high label of the longest prefix among them that holds the address
unfoldable pub find_static_of : Statics → List ℕ → Address → Option (Label × Label)
find_static_of statics interface address = option_map (λ entry. (entry.low, entry.high)) (longest (λ entry. entry.prefix) address (candidates statics interface))

-- the refusal is that of the result; want of memory is free
abbrev pub IsStaticRefusal : {X : Type 0} → Result X StaticFault → StaticFault → Type 0
IsStaticRefusal made Fault.OutOfMemory = Unit {0}
IsStaticRefusal made fault = made ≡ Err fault
