-- The map from domains and addresses to protocols (netlabelctl(8), `map`): entries in order of insertion, each a domain, or
-- the default one, with one protocol or with a protocol for each of its addresses.
use Rattle.std.specs.Prelude.{ℕ, Bool, List, [], ◌∷◌, ◌++◌, length, Option, Some, None, Result, Ok, Err, option_map, option_and_then, nat_lt, map, if◌then◌else◌}
use Rattle.std.specs.List.{flat_map, list_any}
use Rattle.std.specs.Option.{option_eq}
use Rattle.std.specs.Str.{bytes_eq}
use Rattle.std.specs.Map.{lookup, remove_entry}
use Rattle.indexmap.specs.IndexMap.{insert_entry}
use Rattle.mls_label.specs.declared.label.Proto.{Proto}
use Rattle.domain_map.specs.declared.address_text.address.Address.{Address}
use Rattle.domain_map.specs.address_text.Prefix.{AddressBlock, same_block}
use Rattle.domain_map.specs.declared.protocol.Protocol.{Protocol}
use Rattle.domain_map.specs.declared.rule.Rule.{Rule}
use Rattle.domain_map.specs.declared.rule.Rule.TheVariants.{Plain, Addresses}
use Rattle.domain_map.specs.declared.fault.MapFault.{MapFault}
use Rattle.domain_map.specs.declared.fault.MapFault.TheVariants as Fault
use Rattle.domain_map.specs.Protocol.{has_doi}
use Rattle.domain_map.specs.Longest.{longest}
use Rattle.domain_map.specs.Addresses.{with_address, map_ok}

-- none is the default domain
abbrev pub Domain : Type 0
Domain = Option (List ℕ)

-- the entries of a map, in order of insertion
abbrev pub Domains : Type 0
Domains = List (Domain × Rule)

-- one name, or the default domain both times
abbrev pub same_domain : Domain → Domain → Bool
same_domain = option_eq bytes_eq

-- the rule of a domain's own entry
abbrev pub rule_of : Domains → Domain → Option Rule
rule_of domains domain = lookup (same_domain domain) domains

-- adding

-- the rule of a new entry: plain without a prefix, else for this one
abbrev pub first_rule : Option AddressBlock → Protocol → Rule
first_rule None protocol = Plain protocol
first_rule (Some block) protocol = Addresses ((block, protocol) ∷ [])

-- an entry that is there, with one address more
abbrev pub fuller : Rule → Option AddressBlock → Protocol → Result Rule MapFault
fuller (Plain was) None protocol = Err Fault.Exists
fuller (Plain was) (Some block) protocol = Err Fault.Plain
fuller (Addresses addresses) None protocol = Err Fault.HasAddresses
fuller (Addresses addresses) (Some block) protocol = map_ok Addresses (with_address addresses block protocol)

-- what `map add` makes of the map, or its first refusal
unfoldable pub added : Domains → Domain → Option AddressBlock → Protocol → Result Domains MapFault
added domains domain block protocol = elim (rule_of domains domain) [
  | None ↦ if nat_lt (length domains) 256 then Ok (domains ++ (domain, first_rule block protocol) ∷ []) else Err Fault.Full
  | Some rule ↦ map_ok (insert_entry same_domain domains domain) (fuller rule block protocol)
]

-- deleting

-- the entry takes the rule where addresses are left, and goes with the last of them
abbrev pub with_addresses : Domains → Domain → List (AddressBlock × Protocol) → Domains
with_addresses domains domain [] = remove_entry (same_domain domain) domains
with_addresses domains domain (first ∷ others) = insert_entry same_domain domains domain (Addresses (first ∷ others))

-- the addresses of an entry without this one, if it is there
abbrev pub fewer : Rule → AddressBlock → Option (List (AddressBlock × Protocol))
fewer (Plain protocol) block = None
fewer (Addresses addresses) block = option_map (λ protocol. remove_entry (same_block block) addresses) (lookup (same_block block) addresses)

-- what `map del` makes of the map, or none where there is no such entry or address
unfoldable pub deleted : Domains → Domain → Option AddressBlock → Option Domains
deleted domains domain None = option_map (λ rule. remove_entry (same_domain domain) domains) (rule_of domains domain)
deleted domains domain (Some block) = option_map (with_addresses domains domain) (option_and_then (λ rule. fewer rule block) (rule_of domains domain))

-- finding

-- the protocol of a rule towards an address
abbrev pub protocol_of : Rule → Address → Option Protocol
protocol_of (Plain protocol) address = Some protocol
protocol_of (Addresses addresses) address = option_map (λ entry. entry.1) (longest (λ entry. entry.0) address addresses)

-- The domain's entry decides, or else the default one; a domain whose addresses don't hold this one isn't looked up further.
unfoldable pub find_of : Domains → List ℕ → Address → Option Protocol
find_of domains domain address = elim (rule_of domains (Some domain)) [
  | Some rule ↦ protocol_of rule address
  | None ↦ option_and_then (λ rule. protocol_of rule address) (rule_of domains None)
]

-- listing

-- a line of `map list`
abbrev pub Line : Type 0
Line = Domain × Option AddressBlock × Protocol

-- the lines of an entry's rule
abbrev pub rule_lines : Rule → List (Option AddressBlock × Protocol)
rule_lines (Plain protocol) = (None, protocol) ∷ []
rule_lines (Addresses addresses) = map (λ entry. (Some entry.0, entry.1)) addresses

-- one for each protocol, by entries, and within an entry by addresses
unfoldable pub lines_of : Domains → List Line
lines_of domains = flat_map (λ entry. map (λ line. (entry.0, line.0, line.1)) (rule_lines entry.1)) domains

-- a line has this protocol with this DOI
unfoldable pub names_doi_of : Domains → Proto → ℕ → Bool
names_doi_of domains proto doi = list_any (λ entry. list_any (λ line. has_doi proto doi line.1) (rule_lines entry.1)) domains
