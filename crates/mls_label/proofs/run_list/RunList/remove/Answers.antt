use Rattle.std.proofs.Common.{◌≡◌, ◌-◌, ◌≤◌, ◌++◌, length, take, drop, ap, ◌∙◌, arith}
use Rattle.std.proofs.lemmas.List.{length-take-le}
use Rattle.mls_label.proofs.Places.{removed_in_front}
use Rattle.mls_label.proofs.run_list.RunList.remove.Goals as goal

pub returns : goal.returns
returns g c =
    let places = c.self.inside.places in
    let count = c.self.inside.count in
    let start = c.args.start in
    let end = c.args.end in
    let seen : take count places ≡ c.args.self.now = c.self.view_is in
    let within : count ≤ length places = omega (arith, c.self.invariant, c.self.told) in
    let size : length (take count places) ≡ count = length-take-le count places within in
    ap (λ xs. take (count - (end - start)) xs) c.copy_within.ensures.after ∙ removed_in_front count start end places within c.requires.order (omega (arith, c.requires.within, size, ap length seen)) ∙ ap (λ xs. take start xs ++ drop end xs) seen
