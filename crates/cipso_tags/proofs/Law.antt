-- The laws of src/laws.rt under their names, for the crates above.
use Rattle.std.proofs.Common.{◌≡◌, ℕ, ◌+◌, ◌-◌, ◌<◌, ◌≤◌, subst, arith}
use Rattle.mls_label.specs.octet_grammar.Front.{IsPrefixFree}
use Rattle.mls_label.specs.declared.label.Tag.{Tag}
use Rattle.mls_label.specs.declared.label.Tag.TheVariants.{One}
use Rattle.mls_label.specs.declared.label.Label.{Label}
use Rattle.mls_label.specs.Cats.{IsCats}
use Rattle.cipso_tags.specs.Tag.{tag_type, IsTag, HasLength}
use Rattle.cipso_tags.specs.Text.{Fits, tag_text}
use Rattle.cipso_tags.proofs.Sizes.{size_there, there_bounds}
use Rattle.cipso_tags.proofs.Headers.{tags_free, same_tag}
use Rattle.cipso_tags.proofs.Members.{tag_member}

pub one_value_for_each_tag : IsPrefixFree IsTag
one_value_for_each_tag = tags_free

pub written_tag_reads_back : (tag : Tag) (label : Label) → label.level < 256 → IsCats label.cats → Fits tag label → IsTag (tag_text tag label) (tag, label)
written_tag_reads_back = tag_member

pub tags_have_4_to_34_octets : (tag : Tag) (n : ℕ) → HasLength tag n → (4 ≤ n) × (n ≤ 34)
tags_have_4_to_34_octets = there_bounds

pub bitmaps_have_each_length : (n : ℕ) → 4 ≤ n → n ≤ 34 → HasLength One n
bitmaps_have_each_length n low high =
    let whole : 4 + (n - 4) ≡ n = omega arith in
    subst (HasLength One) whole (size_there One (n - 4) (omega arith))

pub each_tag_has_its_type : (a b : Tag) → tag_type a ≡ tag_type b → a ≡ b
each_tag_has_its_type = same_tag
