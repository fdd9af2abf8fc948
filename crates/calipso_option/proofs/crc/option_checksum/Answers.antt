use Rattle.std.proofs.Common.{◌≡◌, ◌-◌, [], ◌∷◌, length, take, drop, ap, ◌∙◌, arith, length-drop}
use Rattle.std.proofs.lemmas.List.{take_all}
use Rattle.calipso_option.specs.Crc.{register_after}
use Rattle.calipso_option.proofs.Checks.{crc_parts}
use Rattle.calipso_option.proofs.crc.option_checksum.Goals as goal

pub returns : goal.returns
returns c =
    let s = c.args.option.now in
    let place = c.after_octets-place.result in
    let rest : take (length s - 10) (drop 10 s) ≡ drop 10 s = take_all (length s - 10) (drop 10 s) (omega (arith, length-drop 10 s)) in
    crc_parts (take 8 s) (0 ∷ 0 ∷ []) (drop 10 s) c.after_octets-head.result place c.after_octets.result c.after_octets-head.ensures c.after_octets-place.ensures
    (c.after_octets.ensures ∙ ap (register_after place) rest)
