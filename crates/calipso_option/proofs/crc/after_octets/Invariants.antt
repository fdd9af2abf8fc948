use Rattle.std.proofs.Common.{◌≡◌, take}
use Rattle.calipso_option.specs.Crc.{register_after}
use Rattle.calipso_option.proofs.crc.after_octets.Given as goal

abbrev pub invariant-loop-octet : goal.invariant-loop-octet
invariant-loop-octet l = l.now ≡ register_after l.register (take l.octet-index l.bytes)
