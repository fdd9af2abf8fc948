use Rattle.std.proofs.Common.{[], ◌∷◌, take, get_or, sym, ap, ◌∙◌, arith}
use Rattle.std.proofs.lemmas.List.{take_more}
use Rattle.calipso_option.specs.Crc.{with_octet, register_after}
use Rattle.calipso_option.proofs.Checks.{register-append}
use Rattle.calipso_option.proofs.crc.after_octets.Goals as goal

pub loop-octet-preserved : goal.loop-octet-preserved
loop-octet-preserved c =
    let bytes = c.args.bytes.now in
    let i = c.loop-octet.octet-index in
    let register = c.args.register in
    c.after_octet-now.ensures
    ∙ ap (λ r. with_octet r (get_or bytes i 0)) c.loop-octet.invariant
    ∙ sym (register-append register (take i bytes) (get_or bytes i 0 ∷ []))
    ∙ ap (register_after register) (sym (take_more bytes i 0 (omega arith)))
