use Rattle.std.proofs.Common.{◌≡◌, length}
use Rattle.std.specs.Str.{bytes_eq}
use Rattle.domain_map.proofs.address_text.name.same_few.Given as goal

-- the texts are the same where the rests are
abbrev pub invariant-loop-a : goal.invariant-loop-a
invariant-loop-a l = record {
  same : bytes_eq l.fn.a l.fn.b ≡ bytes_eq l.a l.b;
  long : length l.a ≡ length l.b;
}

abbrev pub decreases-loop-a : goal.decreases-loop-a
decreases-loop-a l = length l.a
