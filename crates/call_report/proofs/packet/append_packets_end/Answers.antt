use Rattle.std.proofs.Common.{◌≡◌, ◌++◌, ◌∷◌, [], ap, ◌∙◌, append_assoc}
use Rattle.std.specs.Prelude.{codes}
use Rattle.std.specs.Fmt.{decimal}
use Rattle.call_report.specs.Lines.Packet.{shown_end_line}
use Rattle.call_report.proofs.packet.append_packets_end.Goals as goal

pub returns-clause-ok : goal.returns-clause-ok
unfolding shown_end_line
returns-clause-ok c =
    let name : c.extend_from_slice.new.self.items ≡ c.args.line.now.items ++ codes "end packets " = c.in_ok-extend_from_slice.ensures.items in
    let count : c.write_decimal.new.out.items ≡ c.extend_from_slice.new.self.items ++ decimal c.args.count = c.in_ok-write_decimal.ensures.ok in
    let end : c.push.new.self.items ≡ c.write_decimal.new.out.items ++ 10 ∷ [] = c.in_ok-push.ensures.items in
    end ∙ ap (λ x. x ++ 10 ∷ []) (count ∙ ap (λ x. x ++ decimal c.args.count) name) ∙ simp append_assoc
