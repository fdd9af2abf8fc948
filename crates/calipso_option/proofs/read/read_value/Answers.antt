use Rattle.std.proofs.Common.{◌≡◌, ◌-◌, length, take, drop, sym, subst, ap, ◌∙◌, arith, length-drop}
use Rattle.std.specs.Prelude.{slice_index}
use Rattle.std.proofs.lemmas.List.{take_all}
use Rattle.mls_label.proofs.octet_grammar.Octets.{octets_of}
use Rattle.mls_label.specs.category_bitmap.Bitmap.{bitmap_cats}
use Rattle.calipso_option.specs.Calipso.{IsCalipsoShape}
use Rattle.calipso_option.specs.inside.Layout.{checksum_at}
use Rattle.calipso_option.proofs.Shapes.{shape_of}
use Rattle.calipso_option.proofs.read.read_value.Goals as goal

pub returns : goal.returns
returns c =
    let s = c.args.option.now in
    let whole : take (length s - 10) (drop 10 s) ≡ drop 10 s = take_all (length s - 10) (drop 10 s) (omega (arith, length-drop 10 s)) in
    let cats : c.read_bitmap.new.cats ≡ bitmap_cats (drop 10 s) = c.read_bitmap.ensures ∙ ap bitmap_cats whole in
    subst (IsCalipsoShape s)
    (λ i. (record { doi = sym c.u32_at.ensures i; label = record { level = slice_index s 7; cats = sym cats i } }, checksum_at s))
    (shape_of s (octets_of s c.type_inv.option) c.requires)
