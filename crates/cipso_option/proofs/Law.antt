-- The laws of src/laws.rt under their names, for the crates above.
use Rattle.std.proofs.Common.{◌≡◌, ℕ, ◌^◌, ◌<◌, ◌≤◌, List, length, refl}
use Rattle.std.specs.Prelude.{slice_index}
use Rattle.mls_label.specs.octet_grammar.Front.{IsPrefixFree}
use Rattle.mls_label.specs.declared.label.Tag.{Tag}
use Rattle.mls_label.specs.declared.label.Label.{Label}
use Rattle.mls_label.specs.Cats.{IsCats}
use Rattle.cipso_tags.specs.Text.{Fits, tag_text}
use Rattle.cipso_tags.proofs.Law.{written_tag_reads_back}
use Rattle.cipso_option.specs.declared.cipso.Cipso.{Cipso}
use Rattle.cipso_option.specs.Cipso.{IsCipso}
use Rattle.cipso_option.specs.Text.{cipso_text}
use Rattle.cipso_option.proofs.Places.{options_free, option_size}

pub one_value_for_each_option : IsPrefixFree IsCipso
one_value_for_each_option = options_free

pub written_option_reads_back : (doi : ℕ) (tag : Tag) (label : Label) → 0 < doi → doi < 2 ^ 32 → label.level < 256 → IsCats label.cats → Fits tag label → IsCipso (cipso_text doi tag label) (record { doi = doi; tag = tag; label = label })
written_option_reads_back doi tag label named fits level cats fit =
    record { rest = tag_text tag label; is = refl; carries = written_tag_reads_back tag label level cats fit; named = named; fits = fits }

pub options_have_10_to_40_octets : (bytes : List ℕ) (value : Cipso) → IsCipso bytes value → (10 ≤ length bytes) × (length bytes ≤ 40)
options_have_10_to_40_octets bytes value m =
    let size = option_size bytes value m in
    (size.low, size.high)

pub second_octet_is_the_length : (bytes : List ℕ) (value : Cipso) → IsCipso bytes value → slice_index bytes 1 ≡ length bytes
second_octet_is_the_length bytes value m = (option_size bytes value m).said
