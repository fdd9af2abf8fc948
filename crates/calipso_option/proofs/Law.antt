-- The laws of src/laws.rt under their names, for the crates above.
use Rattle.std.proofs.Common.{◌≡◌, ℕ, ◌+◌, ◌^◌, ◌<◌, ◌≤◌, List, length, arith}
use Rattle.std.specs.Prelude.{slice_index}
use Rattle.mls_label.specs.octet_grammar.Front.{IsPrefixFree}
use Rattle.mls_label.specs.declared.label.Label.{Label}
use Rattle.mls_label.specs.Cats.{IsCats}
use Rattle.calipso_option.specs.declared.calipso.Calipso.{Calipso}
use Rattle.calipso_option.specs.Calipso.{IsCalipso, IsCalipsoShape}
use Rattle.calipso_option.specs.Text.{IsExpressible, calipso_text}
use Rattle.calipso_option.proofs.Shapes.{laid_out, shapes_free, options_free}
use Rattle.calipso_option.proofs.Written.{option_member}

pub one_value_for_each_option : IsPrefixFree IsCalipso
one_value_for_each_option = options_free

pub one_value_for_each_shape : IsPrefixFree IsCalipsoShape
one_value_for_each_shape = shapes_free

pub written_option_reads_back : (doi : ℕ) (label : Label) → 0 < doi → doi < 2 ^ 32 → label.level < 256 → IsCats label.cats → IsExpressible label → IsCalipso (calipso_text doi label) (record { doi = doi; label = label })
written_option_reads_back = option_member

pub shapes_have_10_to_254_octets : (bytes : List ℕ) (value : Calipso × ℕ) → IsCalipsoShape bytes value → (10 ≤ length bytes) × (length bytes ≤ 254)
shapes_have_10_to_254_octets bytes value m =
    let laid = laid_out bytes value m in
    (omega (arith, laid.octets, laid.size.low), omega (arith, laid.octets, laid.size.high))

pub second_octet_counts_those_behind_it : (bytes : List ℕ) (value : Calipso × ℕ) → IsCalipsoShape bytes value → length bytes ≡ 2 + slice_index bytes 1
second_octet_counts_those_behind_it bytes value m = (laid_out bytes value m).octets
