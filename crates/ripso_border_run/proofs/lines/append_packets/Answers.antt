use Rattle.std.proofs.Common.{◌≡◌, ◌++◌, ap, ◌∙◌, append_assoc}
use Rattle.std.specs.Prelude.{codes}
use Rattle.std.specs.Fmt.{decimal}
use Rattle.ripso_border_run.specs.Lines.{counts_text}
use Rattle.ripso_border_run.proofs.lines.append_packets.Goals as goal

pub returns : goal.returns
unfolding counts_text
returns c =
    let name : c.extend_from_slice.new.self.items ≡ c.args.line.now.items ++ codes "end packets " = c.in_ok-extend_from_slice.ensures.items in
    let count : c.write_decimal.new.out.items ≡ c.extend_from_slice.new.self.items ++ decimal c.args.packets = c.in_ok-write_decimal.ensures.ok in
    count ∙ ap (λ x. x ++ decimal c.args.packets) name ∙ append_assoc c.args.line.now.items (codes "end packets ") (decimal c.args.packets)
