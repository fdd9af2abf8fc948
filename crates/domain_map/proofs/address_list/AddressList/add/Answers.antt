use Rattle.std.proofs.Common.{sym, ap, ◌∙◌, arith, Ok}
use Rattle.domain_map.proofs.Lookups.{address_exists, addresses_full, address_added, none_is, some_is}
use Rattle.domain_map.proofs.address_list.AddressList.add.Goals as goal

pub returns-then-is_some-clause-refused : goal.returns-then-is_some-clause-refused
returns-then-is_some-clause-refused c =
    let there = some_is c.place_of.result (sym c.if-is_some.ensures) in
    address_exists c.args.self.now c.args.prefix c.args.protocol there.0 (sym c.place_of.ensures ∙ there.1)

pub returns-then-len-eq-MOST_ADDRESSES-clause-refused : goal.returns-then-len-eq-MOST_ADDRESSES-clause-refused
returns-then-len-eq-MOST_ADDRESSES-clause-refused c =
    let absent = none_is c.place_of.result (sym c.if-is_some.ensures) in
    addresses_full c.args.self.now c.args.prefix c.args.protocol (sym c.place_of.ensures ∙ absent) (omega (arith, c.len.ensures.len, c.if-len-eq-MOST_ADDRESSES.true))

pub returns-clause-ok : goal.returns-clause-ok
returns-clause-ok c =
    let absent = none_is c.place_of.result (sym c.if-is_some.ensures) in
    address_added c.args.self.now c.args.prefix c.args.protocol (sym c.place_of.ensures ∙ absent) (omega (arith, c.len.ensures, c.if-len-eq-MOST_ADDRESSES.false)) ∙ ap Ok (sym c.in_ok-push.ensures.ok)
