-- The laws of src/laws.rt under their names, for the crates above.
use Rattle.std.proofs.Common.{◌≡◌, ℕ, ◌<◌, ◌^◌, List, Some, IsTrue, decimal, ap}
use Rattle.std.specs.Prelude.{option_map, option_and_then}
use Rattle.mls_label.specs.declared.label.Tag.{Tag}
use Rattle.mls_range.specs.Range.{LabelRange}
use Rattle.mls_range.specs.RangeText.{range_text}
use Rattle.mls_range.specs.Computed.{label_of_text, lone_range}
use Rattle.domain_map.specs.declared.protocol.Protocol.{Protocol}
use Rattle.domain_map.specs.declared.address_text.address.Address.TheVariants.{V4, V6}
use Rattle.domain_map.specs.address_text.Address.{IsOctetsOf, address_text}
use Rattle.domain_map.proofs.address_text.Law.{written_address_reads_back, address_texts_compute}
use Rattle.script_lines.specs.command_values.Doi.{is_doi, doi_of_text}
use Rattle.script_lines.specs.command_values.List.{AreEntries, list_of_text, list_text}
use Rattle.script_lines.specs.command_values.Pairs.{IsPairWithin, pair_of_text, pair_text}
use Rattle.script_lines.specs.command_values.Tags.{AreTags, tag_number_text, tags_of_text}
use Rattle.script_lines.specs.command_values.MapProtocol.{is_map_protocol, map_protocol_of_text, map_protocol_text}
use Rattle.script_lines.specs.command_values.Ranges.{IsMlsRange, in_context, static_range_of_text, range_below, receiver_range_of_text, receiver_range_text}
use Rattle.script_lines.specs.command_values.Addresses.{four_octets, four_of_text, sixteen_octets, sixteen_of_text}
use Rattle.script_lines.proofs.command_values.Back.{doi_back, pairs_back, tags_back, map_protocol_back}
use Rattle.script_lines.proofs.command_values.Colons.{static_stays, receiver_stays, static_back, receiver_back}

pub written_doi_reads_back : (n : ℕ) → IsTrue (is_doi n) → doi_of_text (decimal n) ≡ Some n
written_doi_reads_back = doi_back

pub written_tags_read_back : (tags : List Tag) → AreTags tags → tags_of_text (list_text tag_number_text tags) ≡ Some tags
written_tags_read_back = tags_back

pub written_pairs_read_back : (first second : ℕ) (pairs : List (ℕ × ℕ)) → first < 2 ^ 64 → second < 2 ^ 64 → AreEntries (IsPairWithin first second) pairs → list_of_text (pair_of_text first second) (list_text pair_text pairs) ≡ Some pairs
written_pairs_read_back = pairs_back

pub written_map_protocol_reads_back : (protocol : Protocol) → IsTrue (is_map_protocol protocol) → map_protocol_of_text (map_protocol_text protocol) ≡ Some protocol
written_map_protocol_reads_back = map_protocol_back

pub written_static_range_reads_back : (range : LabelRange) → IsMlsRange range → static_range_of_text (range_text range) ≡ Some range
written_static_range_reads_back = static_back

pub written_receiver_range_reads_back : (range : LabelRange) → IsMlsRange range → receiver_range_of_text (receiver_range_text range) ≡ Some range
written_receiver_range_reads_back = receiver_back

pub written_four_octets_read_back : (octets : List ℕ) → IsOctetsOf 4 octets → four_of_text (address_text (V4 octets)) ≡ Some octets
written_four_octets_read_back octets is =
    ap (option_and_then four_octets) (address_texts_compute (address_text (V4 octets)) (V4 octets) (written_address_reads_back (V4 octets) is))

pub written_sixteen_octets_read_back : (octets : List ℕ) → IsOctetsOf 16 octets → sixteen_of_text (address_text (V6 octets)) ≡ Some octets
written_sixteen_octets_read_back octets is =
    ap (option_and_then sixteen_octets) (address_texts_compute (address_text (V6 octets)) (V6 octets) (written_address_reads_back (V6 octets) is))

pub labels_stay_static_ranges : (text : List ℕ) (range : LabelRange) → in_context (λ t. option_map lone_range (label_of_text t)) text ≡ Some range → static_range_of_text text ≡ Some range
labels_stay_static_ranges = static_stays

pub labels_stay_receiver_ranges : (text : List ℕ) (range : LabelRange) → option_map range_below (label_of_text text) ≡ Some range → receiver_range_of_text text ≡ Some range
labels_stay_receiver_ranges = receiver_stays
