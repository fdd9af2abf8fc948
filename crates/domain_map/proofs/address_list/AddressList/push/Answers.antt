use Rattle.std.proofs.Common.{◌≡◌, sym, subst, arith, true, false, length, Result, Ok, Err}
use Rattle.std.specs.Prelude.{is_err, OnOk}
use Rattle.std.proofs.lemmas.Bool.{both_ways, true≢false}
use Rattle.domain_map.specs.address_text.Prefix.{same_block}
use Rattle.domain_map.proofs.Longests.{more_ranked, none_passes, same_block-refl}
use Rattle.domain_map.proofs.address_list.AddressList.push.Goals as goal

when_ok : {T E : Type 0} (r : Result T E) (P : Type 0) → false ≡ is_err r → OnOk r P → P
when_ok (Ok x) P e p = p
when_ok (Err x) P e p = absurd (true≢false (sym e))

pub invariant_of-self-else-is_err : goal.invariant_of-self-else-is_err
invariant_of-self-else-is_err c =
    let entries = c.self.inside.entries.items in
    let absent = rw (← c.self.view_is) at c.requires.absent in
    let few = rw (← c.self.view_is) at c.requires.few in
    let ok = when_ok c.rank_in.result _ c.if-is_err.ensures.value c.rank_in.ensures.ok in
    let more = more_ranked (λ e. e.0) (λ e. e.0.bits) entries c.self.inside.order.items (c.args.prefix, c.args.protocol) (omega (arith, c.bits.ensures.bits)) few
    (λ x h same. both_ways _ (none_passes (λ e. same_block c.args.prefix e.0) entries x absent h) (subst (λ n. same_block c.args.prefix n ≡ true) (sym same) (same_block-refl c.args.prefix))) c.self.invariant in
    let long : c.len.result ≡ length entries = omega (arith, c.len.ensures, c.self.inside.entries.ok) in
    rw (c.in_ok-push.ensures.items, ok, c.bits.ensures.bits, long) more
