use Rattle.std.proofs.Common.{ℕ, ◌≡◌, ◌<◌, false, sym, ◌∙◌, length, arith}
use Rattle.std.specs.Prelude.{◌==◌}
use Rattle.std.proofs.lemmas.Bool.Decides.{nat_tests}
use Rattle.label_commands.proofs.flow_lines.Routes.{hops_are_route}
use Rattle.label_commands.proofs.flow_lines.flow.read_route.Goals as goal

some_of : (n : ℕ) → (n == 0) ≡ false → 0 < n
some_of n e = grind (arith, nat_tests)

pub of-requires : goal.of-requires
of-requires c =
    let words = c.args.words.now in
    let some = some_of (length words) (sym c.is_empty.ensures ∙ c.if-is_empty.false) in
    hops_are_route c.args.nodes.now words c.in_ok-hops.hops.items some c.in_ok-hops.ensures.ok
