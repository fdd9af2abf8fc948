use Rattle.std.proofs.Common.{◌≡◌, sym, arith, true, false, length, Result, Ok, Err}
use Rattle.std.specs.Prelude.{is_err, OnOk}
use Rattle.std.proofs.lemmas.Bool.{true≢false}
use Rattle.domain_map.proofs.Interfaces.{more_statics}
use Rattle.domain_map.proofs.static_map.StaticMap.push.Goals as goal

when_ok : {T E : Type 0} (r : Result T E) (P : Type 0) → false ≡ is_err r → OnOk r P → P
when_ok (Ok x) P e p = p
when_ok (Err x) P e p = absurd (true≢false (sym e))

pub invariant_of-self-else-is_err : goal.invariant_of-self-else-is_err
invariant_of-self-else-is_err c =
    let entries = c.self.inside.entries.items in
    let absent = rw (← c.self.view_is) at c.requires.absent in
    let few = rw (← c.self.view_is) at c.requires.few in
    let ok = when_ok c.rank_in.result _ c.if-is_err.ensures.value c.rank_in.ensures.ok in
    let more = more_statics entries c.self.inside.order.items c.args.entry (omega (arith, c.bits.ensures.bits)) few absent c.requires.ordered c.self.invariant in
    let long : c.len.result ≡ length entries = omega (arith, c.len.ensures, c.self.inside.entries.ok) in
    rw (c.in_ok-push.ensures.items, ok, c.bits.ensures.bits, long) more
