use Rattle.std.proofs.Common.{Some, refl, sym, ap, ◌∙◌}
use Rattle.std.specs.Option.{option_copied}
use Rattle.domain_map.specs.Domains.{Domain, same_domain}
use Rattle.domain_map.proofs.Rules.{same_domain-sym}
use Rattle.domain_map.proofs.Defaults.{named_here, named_past, default_here, default_past}
use Rattle.domain_map.proofs.named.first_or_default.Goals.{in-Some+else-eq, in-None}
use Rattle.domain_map.proofs.named.first_or_default.Goals as goal

pub returns-in-Some : goal.returns-in-Some
returns-in-Some g c =
    let own = c.in-Some.own in
    let name = c.args.name.now in
    let is = c.entry_at.ensures ∙ ap (λ (key : Domain). Some (key, c.entry_at.result.1.now)) c.in-Some.is in
    named_here c.args.entries.now.entries c.loop-place.place _ _ is (same_domain (Some name)) (same_domain-sym (Some name) (Some own) ∙ sym c.eq.ensures ∙ c.if-eq.true) c.loop-place.invariant.named

pub loop-place-preserved : goal.loop-place-preserved
loop-place-preserved g c =
    let entries = c.args.entries.now.entries in
    let place = c.loop-place.place in
    elim c.match-key.branch [
      | in-Some+else-eq w ↦
          let own = w.in-Some.own in
          let name = c.args.name.now in
          let is = c.entry_at.ensures ∙ ap (λ (key : Domain). Some (key, c.entry_at.result.1.now)) w.in-Some.is in
          record {
            named = named_past entries place _ _ is (same_domain (Some name)) (same_domain-sym (Some name) (Some own) ∙ sym w.eq.ensures ∙ w.if-eq.false) c.loop-place.invariant.named;
            default = ap option_copied w.default-is ∙ c.loop-place.invariant.default ∙ default_past entries place _ _ is;
          }
      | in-None w ↦
          let name = c.args.name.now in
          let is = c.entry_at.ensures ∙ ap (λ (key : Domain). Some (key, c.entry_at.result.1.now)) w.in-None.is in
          record {
            named = named_past entries place _ _ is (same_domain (Some name)) refl c.loop-place.invariant.named;
            default = ap option_copied w.default-is ∙ default_here entries place _ c.len-place-end.ensures.unique is;
          }
    ]
