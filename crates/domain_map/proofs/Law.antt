-- The laws of src/laws.rt under their names, for the crates above.
use Rattle.std.proofs.Common.{◌≡◌, ◌↔◌, ℕ, List, Contains, Some, IsTrue, slice_get}
use Rattle.mls_label.specs.declared.label.Label.{Label}
use Rattle.domain_map.specs.declared.address_text.address.Address.{Address}
use Rattle.domain_map.specs.address_text.Prefix.{holds}
use Rattle.domain_map.specs.declared.static_map.StaticEntry.{StaticEntry}
use Rattle.domain_map.specs.Domains.{Domain, same_domain}
use Rattle.domain_map.specs.Statics.{Statics, entries_of, entries_for, find_static_of}
use Rattle.domain_map.proofs.Counted.{entry_stands, found_entry}

pub entries_stand_at_their_places : (statics : Statics) (interface : Domain) (place : ℕ) (entry : StaticEntry)
    → (Contains (entries_of statics interface) (place, entry) ↔ ((slice_get statics place ≡ Some entry) × IsTrue (same_domain interface entry.interface)))
entries_stand_at_their_places = entry_stands

pub found_labels_are_those_of_an_entry : (statics : Statics) (interface : List ℕ) (address : Address) (labels : Label × Label) → find_static_of statics interface address ≡ Some labels
    → ((place : ℕ) × (entry : StaticEntry) × Contains (entries_for statics interface) (place, entry) × IsTrue (holds entry.prefix address) × (labels ≡ (entry.low, entry.high)))
found_labels_are_those_of_an_entry = found_entry
