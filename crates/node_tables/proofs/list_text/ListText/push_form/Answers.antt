use Rattle.std.proofs.Common.{arith, subst, List, ℕ, [], ◌∷◌, ◌++◌, ◌≡◌}
use Rattle.std.specs.Prelude.{OnOk}
use Rattle.script_lines.specs.Command.{command_text}
use Rattle.node_tables.specs.inside.Pieces.{pieces}
use Rattle.node_tables.proofs.Lines.{line_kept, line_added}
use Rattle.node_tables.proofs.list_text.ListText.push_form.Goals as goal

pub invariant_of-self-2 : goal.invariant_of-self-2
invariant_of-self-2 c = line_kept c.self.inside.text.items c.self.inside.ends.items (command_text c.args.command.now) c.write_step.new.out.items c.end_line.new.text.items c.end_line.new.ends.items c.len-before.result c.self.invariant c.in_ok-write_step.ensures.ok (omega (arith, c.len-before.ensures, c.self.inside.text.ok.0)) c.end_line.result c.end_line.ensures.ok c.end_line.ensures.err

pub returns-clause-ok : goal.returns-clause-ok
returns-clause-ok c =
    subst (λ (old : List (List ℕ)). OnOk c.end_line.result (pieces 0 c.end_line.new.ends.items c.end_line.new.text.items ≡ old ++ (command_text c.args.command.now) ∷ [])) c.self.view_is (line_added c.self.inside.text.items c.self.inside.ends.items (command_text c.args.command.now) c.write_step.new.out.items c.end_line.new.text.items c.end_line.new.ends.items c.len-before.result c.self.invariant c.in_ok-write_step.ensures.ok (omega (arith, c.len-before.ensures, c.self.inside.text.ok.0)) c.end_line.result c.end_line.ensures.ok)
