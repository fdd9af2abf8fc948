use Rattle.std.proofs.Common.{arith, length-take, length-drop, drop, ◌-◌, length}
use Rattle.ip_headers.specs.declared.version.Version.TheVariants.{V4}
use Rattle.ip_headers.proofs.Same.{none_whole, none_others}
use Rattle.ip_headers.proofs.packet4.Packet4.options.Goals as goal

pub returns-clause-short : goal.returns-clause-short
returns-clause-short c = let head = c.self.inside.parts.head.now in omega (arith, c.self.invariant.small, length-take (length head - 20) (drop 20 head), length-drop 20 head)

pub returns-then-not-self-clause-whole : goal.returns-then-not-self-clause-whole
returns-then-not-self-clause-whole c = none_whole V4

pub returns-then-not-self-clause-others : goal.returns-then-not-self-clause-others
returns-then-not-self-clause-others c = none_others V4 c.self.inside.parts c.args.self.now c.self.view_is c.self.invariant c.if-not-self.true
