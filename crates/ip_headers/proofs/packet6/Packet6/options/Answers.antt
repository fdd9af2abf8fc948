use Rattle.std.proofs.Common.{arith, ap, length, length-drop}
use Rattle.ip_headers.specs.declared.version.Version.TheVariants.{V6}
use Rattle.ip_headers.proofs.Same.{none_whole, none_others}
use Rattle.ip_headers.proofs.packet6.Packet6.options.Goals as goal

pub returns-clause-short : goal.returns-clause-short
returns-clause-short c = omega (arith, c.self.invariant.small, ap length c.option_octets.ensures, length-drop 42 c.self.inside.parts.head.now)

pub returns-then-not-self-clause-whole : goal.returns-then-not-self-clause-whole
returns-then-not-self-clause-whole c = none_whole V6

pub returns-then-not-self-clause-others : goal.returns-then-not-self-clause-others
returns-then-not-self-clause-others c = none_others V6 c.self.inside.parts c.args.self.now c.self.view_is c.self.invariant c.if-not-self.true
