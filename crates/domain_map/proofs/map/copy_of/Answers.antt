use Rattle.std.proofs.Common.{◌≡◌, sym, ap, ◌∙◌, take, add-one}
use Rattle.indexmap.specs.IndexMap.{insert_entry}
use Rattle.domain_map.specs.Domains.{same_domain}
use Rattle.domain_map.proofs.Rules.{copied_on}
use Rattle.domain_map.proofs.map.copy_of.Goals as goal

pub loop-place-preserved : goal.loop-place-preserved
loop-place-preserved c =
    let entries = c.args.rules.now.entries in
    let i = c.loop-place.place in
    let d = c.entry_at.result.0.now in
    let key : c.key_of.result ≡ d = c.key_of.ensures ∙ c.as_ref.ensures.value in
    c.in_ok-insert.ensures.entries
    ∙ (λ j. insert_entry same_domain (c.loop-place.invariant j) (key j) (c.in_ok-copy.ensures j))
    ∙ copied_on entries i d c.entry_at.result.1.now c.len-place-end.ensures.unique c.entry_at.ensures ∙ ap (λ n. take n entries) (sym (add-one i))
