use Rattle.std.proofs.Common.{◌≡◌, ◌-◌, [], ◌∷◌, length, get_or, take, drop, w32, sym, ◌∙◌, arith}
use Rattle.std.specs.Int.{from_be_bytes}
use Rattle.std.proofs.lemmas.List.{take_rest, get_or_past}
use Rattle.mls_label.proofs.octet_grammar.Octets.{octets_of}
use Rattle.mls_label.proofs.category_bitmap.Words.{word_has}
use Rattle.mls_label.proofs.category_bitmap.read.word_at.Goals as goal

pub returns-in-len4-up : goal.returns-in-len4-up
returns-in-len4-up c =
    let bitmap = c.args.bitmap.now in
    word_has bitmap _ c.args.at c.from_be_bytes.result (octets_of bitmap c.type_inv.bitmap) (take_rest bitmap c.args.at) c.from_be_bytes.ensures

pub returns-in-len3-up : goal.returns-in-len3-up
returns-in-len3-up c =
    let bitmap = c.args.bitmap.now in
    let s = take (length bitmap - c.args.at) (drop c.args.at bitmap) in
    let d : 0 ≡ get_or s 3 0 = sym (get_or_past s 3 0 (omega arith)) in
    word_has bitmap s c.args.at c.from_be_bytes-in-len3-up.result (octets_of bitmap c.type_inv.bitmap) (take_rest bitmap c.args.at)
    (c.from_be_bytes-in-len3-up.ensures ∙ (λ i. from_be_bytes w32 (get_or s 0 0 ∷ get_or s 1 0 ∷ get_or s 2 0 ∷ d i ∷ [])))

pub returns-in-len2 : goal.returns-in-len2
returns-in-len2 c =
    let bitmap = c.args.bitmap.now in
    let s = take (length bitmap - c.args.at) (drop c.args.at bitmap) in
    let third : 0 ≡ get_or s 2 0 = sym (get_or_past s 2 0 (omega arith)) in
    let fourth : 0 ≡ get_or s 3 0 = sym (get_or_past s 3 0 (omega arith)) in
    word_has bitmap s c.args.at c.from_be_bytes-in-len2.result (octets_of bitmap c.type_inv.bitmap) (take_rest bitmap c.args.at)
    (c.from_be_bytes-in-len2.ensures ∙ (λ i. from_be_bytes w32 (get_or s 0 0 ∷ get_or s 1 0 ∷ third i ∷ fourth i ∷ [])))

pub returns-in-len1 : goal.returns-in-len1
returns-in-len1 c =
    let bitmap = c.args.bitmap.now in
    let s = take (length bitmap - c.args.at) (drop c.args.at bitmap) in
    let second : 0 ≡ get_or s 1 0 = sym (get_or_past s 1 0 (omega arith)) in
    let third : 0 ≡ get_or s 2 0 = sym (get_or_past s 2 0 (omega arith)) in
    let fourth : 0 ≡ get_or s 3 0 = sym (get_or_past s 3 0 (omega arith)) in
    word_has bitmap s c.args.at c.from_be_bytes-in-len1.result (octets_of bitmap c.type_inv.bitmap) (take_rest bitmap c.args.at)
    (c.from_be_bytes-in-len1.ensures ∙ (λ i. from_be_bytes w32 (get_or s 0 0 ∷ second i ∷ third i ∷ fourth i ∷ [])))
