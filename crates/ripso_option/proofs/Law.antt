-- The laws of src/laws.rt under their names, for the crates above.
use Rattle.std.proofs.Common.{◌≡◌, ℕ, ◌≤◌, List, length, sym}
use Rattle.std.specs.Prelude.{slice_index, Ok, MatchResult}
use Rattle.mls_label.specs.octet_grammar.Octets.{IsOctets}
use Rattle.mls_label.specs.octet_grammar.Front.{IsPrefixFree, ReadsFront}
use Rattle.mls_label.specs.octet_grammar.Fault.{FailsFront}
use Rattle.mls_label.specs.declared.label.Label.{Label}
use Rattle.mls_label.specs.Cats.{IsCats}
use Rattle.mls_label.specs.Label.{IsLabel}
use Rattle.ripso_option.specs.Ripso.{IsRipso}
use Rattle.ripso_option.specs.Reading.{ripso_of}
use Rattle.ripso_option.specs.Text.{FitsRipso, ripso_text}
use Rattle.ripso_option.proofs.Written.{text_member}
use Rattle.ripso_option.proofs.Members.{options_free, says_fits, long_is, least, most, shortest}
use Rattle.ripso_option.proofs.Places.{says_label}
use Rattle.ripso_option.proofs.Rules.{rules_told, member_read, octets_whole}

pub one_value_for_each_option : IsPrefixFree IsRipso
one_value_for_each_option = options_free

pub rules_give_the_first_fault : (s : List ℕ) → IsOctets s → MatchResult (ripso_of s) (λ read. ReadsFront IsRipso s read.0 read.1) (λ fault. FailsFront IsRipso s fault)
rules_give_the_first_fault = rules_told

pub written_option_reads_back : (label : Label) → IsCats label.cats → FitsRipso label → IsRipso (ripso_text label) label
written_option_reads_back = text_member

pub each_option_is_read : (bytes : List ℕ) (label : Label) → IsRipso bytes label → ripso_of bytes ≡ Ok (label, length bytes)
each_option_is_read = member_read

pub options_say_labels : (bytes : List ℕ) (label : Label) → IsRipso bytes label → IsLabel label
options_say_labels = says_label

pub what_was_read_can_be_written : (bytes : List ℕ) (label : Label) → IsRipso bytes label → FitsRipso label
what_was_read_can_be_written = says_fits

pub written_form_is_the_shortest : (bytes : List ℕ) (label : Label) → IsRipso bytes label → length (ripso_text label) ≤ length bytes
written_form_is_the_shortest = shortest

pub options_hold_octets : (bytes : List ℕ) (label : Label) → IsRipso bytes label → IsOctets bytes
options_hold_octets = octets_whole

pub options_have_3_to_7_octets : (bytes : List ℕ) (label : Label) → IsRipso bytes label → (3 ≤ length bytes) × (length bytes ≤ 7)
options_have_3_to_7_octets bytes label m = (least bytes label m, most bytes label m)

pub second_octet_is_the_length : (bytes : List ℕ) (label : Label) → IsRipso bytes label → slice_index bytes 1 ≡ length bytes
second_octet_is_the_length bytes label m = sym (long_is bytes label m)
