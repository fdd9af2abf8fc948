use Rattle.std.proofs.Common.{◌≡◌, ◌+◌, ◌≤◌, ◌∷◌, ◌++◌, length, take, drop, ap, ◌∙◌, arith}
use Rattle.std.proofs.lemmas.List.{length-take-le}
use Rattle.mls_label.proofs.Places.{set_in_front}
use Rattle.mls_label.proofs.run_list.RunList.set.Goals as goal

pub returns : goal.returns
returns g c =
    let places = c.self.inside.places in
    let count = c.self.inside.count in
    let i = c.args.place in
    let seen : take count places ≡ c.args.self.now = c.self.view_is in
    let within : count ≤ length places = omega (arith, c.self.invariant, c.self.told) in
    let size : length (take count places) ≡ count = length-take-le count places within in
    set_in_front count i places c.args.run within (omega (arith, c.requires, size, ap length seen)) ∙ ap (λ xs. take i xs ++ c.args.run ∷ drop (i + 1) xs) seen
