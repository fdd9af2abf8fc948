use Rattle.std.proofs.Common.{arith}
use Rattle.cipso_tags.proofs.Sizes.{two_size, five_size}
use Rattle.cipso_tags.proofs.body.read_body.Goals as goal

pub read_enumeration-requires : goal.read_enumeration-requires
read_enumeration-requires c = omega (arith, (two_size c.args.tag c.args.size c.requires c.in-Two.is).0)

pub read_ranges-requires : goal.read_ranges-requires
read_ranges-requires c = omega (arith, (five_size c.args.tag c.args.size c.requires c.in-Five.is).0)

pub returns-in-Two-clause-ok : goal.returns-in-Two-clause-ok
returns-in-Two-clause-ok c =
    rw c.in-Two.is (rw (two_size c.args.tag c.args.size c.requires c.in-Two.is).1 at c.read_enumeration.ensures.ok)

pub returns-in-Two-clause-err : goal.returns-in-Two-clause-err
returns-in-Two-clause-err c =
    rw c.in-Two.is (rw (two_size c.args.tag c.args.size c.requires c.in-Two.is).1 at c.read_enumeration.ensures.err)

pub returns-in-Five-clause-ok : goal.returns-in-Five-clause-ok
returns-in-Five-clause-ok c =
    rw c.in-Five.is (rw (five_size c.args.tag c.args.size c.requires c.in-Five.is).1 at c.read_ranges.ensures.ok)

pub returns-in-Five-clause-err : goal.returns-in-Five-clause-err
returns-in-Five-clause-err c =
    rw c.in-Five.is (rw (five_size c.args.tag c.args.size c.requires c.in-Five.is).1 at c.read_ranges.ensures.err)
