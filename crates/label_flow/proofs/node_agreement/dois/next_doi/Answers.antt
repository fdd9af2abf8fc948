use Rattle.std.proofs.Common.{length, arith}
use Rattle.std.proofs.lemmas.List.Elements.{AllWithin-upto}
use Rattle.label_flow.proofs.node_agreement.Floors.{IsPassed, lowest_is, none_is}
use Rattle.label_flow.proofs.node_agreement.dois.next_doi.Goals as goal

pub returns-clause-lowest : goal.returns-clause-lowest
returns-clause-lowest c =
    let passed = IsPassed c.args.proto c.args.from c.loop-i.lowest in
    let n = length c.args.dois.now in
    lowest_is c.args.proto c.args.from c.loop-i.lowest c.args.dois.now (AllWithin-upto passed c.args.dois.now 0 c.loop-i.i n (omega (arith, c.count-i-end.ensures.count)) c.loop-i.invariant.passed)

pub returns-clause-none : goal.returns-clause-none
returns-clause-none c =
    let passed = IsPassed c.args.proto c.args.from c.loop-i.lowest in
    let n = length c.args.dois.now in
    none_is c.args.proto c.args.from c.loop-i.lowest c.args.dois.now (AllWithin-upto passed c.args.dois.now 0 c.loop-i.i n (omega (arith, c.count-i-end.ensures.count)) c.loop-i.invariant.passed)
