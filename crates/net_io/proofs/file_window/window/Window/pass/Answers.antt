use Rattle.std.proofs.Common.{arith, ◌≡◌, ◌≤◌, ◌∙◌, sym, ap, ◌+◌, ◌-◌, length, take, drop}
use Rattle.std.proofs.lemmas.List.{drop-drop, drop-take, length-take}
use Rattle.net_io.proofs.file_window.window.Window.pass.Goals as goal

pub returns : goal.returns
returns c =
    let w = c.self.inside in
    let octets = w.octets.items in
    let n = c.args.n in
    let left = w.end - (w.start + n) in
    let kept = take (w.end - w.start) (drop w.start octets) in
    let few : length kept ≤ w.end - w.start = omega (arith, length-take (w.end - w.start) (drop w.start octets)) in
    let seen : length kept ≡ length c.args.self.now = ap length c.self.view_is in
    let split : n + left ≡ w.end - w.start = omega (arith, c.self.invariant.0, c.requires) in
    ap (take left) (sym (drop-drop n w.start octets))
    ∙ sym (drop-take n left (drop w.start octets))
    ∙ ap (λ k. drop n (take k (drop w.start octets))) split
    ∙ ap (drop n) c.self.view_is
