use Rattle.std.proofs.Common.{◌/◌, ap, ◌∙◌}
use Rattle.std.specs.Prelude.{bit_xor}
use Rattle.calipso_option.specs.Crc.{shifted_times, with_octet}
use Rattle.calipso_option.proofs.Shifts.{eight_shifts}
use Rattle.calipso_option.proofs.crc.after_octet.Goals as goal

pub returns : goal.returns
unfolding with_octet
returns c =
    let mixed = bit_xor c.args.register c.from.result in
    ap (bit_xor (mixed / 256)) c.shifted_out.ensures ∙ eight_shifts mixed ∙ ap (λ octet. shifted_times 8 (bit_xor c.args.register octet)) c.from.ensures
