use Rattle.std.proofs.Common.{◌≡◌, sym, ap, ◌∙◌}
use Rattle.std.specs.List.{each_same}
use Rattle.node_tables.specs.Tables.{swapped}
use Rattle.node_tables.proofs.Entries.{same_from_clones}
use Rattle.node_tables.proofs.pairs.AddressPairs.copy.Goals as goal

pub invariant_of-result : goal.invariant_of-result
invariant_of-result c =
    let sixes : c.in_ok-sixes.sixes.entries ≡ c.self.inside.sixes.entries = same_from_clones c.self.inside.sixes.entries c.in_ok-sixes.sixes.entries c.in_ok-sixes.ensures.cases (λ p q same. λ i. (each_same p.0 q.0 same.0.whole i, each_same p.1 q.1 same.1.whole i)) in
    let fours : c.in_ok-fours.fours.entries ≡ c.self.inside.fours.entries = same_from_clones c.self.inside.fours.entries c.in_ok-fours.fours.entries c.in_ok-fours.ensures.cases (λ p q same. λ i. (each_same p.0 q.0 same.0.whole i, each_same p.1 q.1 same.1.whole i)) in
    fours ∙ c.self.invariant ∙ ap swapped (sym sixes)

pub returns : goal.returns
returns c =
    same_from_clones c.self.inside.sixes.entries c.in_ok-sixes.sixes.entries c.in_ok-sixes.ensures.cases (λ p q same. λ i. (each_same p.0 q.0 same.0.whole i, each_same p.1 q.1 same.1.whole i)) ∙ c.self.view_is
