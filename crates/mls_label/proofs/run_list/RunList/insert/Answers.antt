use Rattle.std.proofs.Common.{◌≡◌, ◌+◌, ◌<◌, ◌≤◌, ◌∷◌, ◌++◌, length, take, drop, set, ap, ◌∙◌, arith}
use Rattle.std.proofs.lemmas.List.{length-take-le}
use Rattle.mls_label.proofs.Places.{inserted_in_front}
use Rattle.mls_label.proofs.run_list.RunList.insert.Goals as goal

pub returns : goal.returns
returns g c =
    let places = c.self.inside.places in
    let count = c.self.inside.count in
    let i = c.args.place in
    let seen : take count places ≡ c.args.self.now = c.self.view_is in
    let size : length (take count places) ≡ count = length-take-le count places (omega (arith, c.self.invariant, c.self.told)) in
    let room : count < length places = omega (arith, c.requires.room, size, ap length seen, c.self.told) in
    let within : i ≤ count = omega (arith, c.requires.within, size, ap length seen) in
    ap (λ xs. take (count + 1) (set xs i c.args.run)) c.copy_within.ensures.after ∙ inserted_in_front count i places c.args.run room within ∙ ap (λ xs. take i xs ++ c.args.run ∷ drop i xs) seen
