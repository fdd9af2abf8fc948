use Rattle.std.proofs.Common.{◌≡◌, ℕ, ◌+◌, ◌-◌, length, take, drop, sym, subst, arith, length-drop}
use Rattle.std.proofs.lemmas.List.{take_all}
use Rattle.std.proofs.lemmas.Result.{err_from_is_err_and}
use Rattle.mls_label.specs.octet_grammar.Front.{ReadsFront}
use Rattle.mls_label.specs.octet_grammar.Fault.{FailsFront}
use Rattle.mls_label.proofs.octet_grammar.Octets.{octets_of}
use Rattle.mls_label.proofs.octet_grammar.Places.{moved_value, moved_error}
use Rattle.mls_label.specs.declared.label.Tag.{Tag}
use Rattle.cipso_tags.specs.Tag.{IsTag}
use Rattle.cipso_option.specs.Cipso.{IsCipso}
use Rattle.cipso_option.proofs.Options.{IsHeaded, option_reads, option_fails}
use Rattle.cipso_option.proofs.read.read_cipso_into.Goals as goal

pub returns-in_err-tag-clause-err : goal.returns-in_err-tag-clause-err
returns-in_err-tag-clause-err c =
    let s = c.args.bytes.now in
    let rest = drop 6 s in
    let whole : take (length s - 6) rest ≡ rest = take_all (length s - 6) rest (omega (arith, length-drop 6 s)) in
    let h : IsHeaded s = record { octets = octets_of s c.type_inv.bytes; start = c.in_ok-read_start.ensures.ok; named = c.in_ok-doi.ensures.ok; tag = c.in_ok-read_tag_head.ensures.ok } in
    let p = err_from_is_err_and c.from_residual-in_err-tag.result c.from_residual-in_err-tag.ensures.1 in
    rw (p.1, p.2)
    (moved_error c.read_tag_into.result c.moved.result 6 (FailsFront IsTag (take (length s - 6) rest)) (FailsFront IsCipso s) c.in_err-tag.field-0.0 c.moved.ensures c.read_tag_into.ensures.err (c.in_err-tag.was {u = tt})
    (λ e fails. option_fails s e h (subst (λ x. FailsFront IsTag x e) whole fails)))

pub returns-clause-ok : goal.returns-clause-ok
returns-clause-ok c =
    let s = c.args.bytes.now in
    let rest = drop 6 s in
    let whole : take (length s - 6) rest ≡ rest = take_all (length s - 6) rest (omega (arith, length-drop 6 s)) in
    let h : IsHeaded s = record { octets = octets_of s c.type_inv.bytes; start = c.in_ok-read_start.ensures.ok; named = c.in_ok-doi.ensures.ok; tag = c.in_ok-read_tag_head.ensures.ok } in
    let label = c.read_tag_into.new.label in
    let reads = moved_value c.read_tag_into.result c.moved.result 6 (λ (read : Tag × ℕ). ReadsFront IsTag (take (length s - 6) rest) (read.0, label) read.1) (c.in_ok-tag.tag, c.in_ok-tag.length) c.moved.ensures c.read_tag_into.ensures.ok (c.in_ok-tag.was {u = tt}) in
    let read = option_reads s c.in_ok-tag.length c.in_ok-tag.tag label h (subst (λ x. ReadsFront IsTag x (c.in_ok-tag.tag, label) c.in_ok-tag.length) whole reads) in
    subst (λ doi. ReadsFront IsCipso s (record { doi = doi; tag = c.in_ok-tag.tag; label = label }) (6 + c.in_ok-tag.length)) (sym c.in_ok-doi.ensures.doi) read
