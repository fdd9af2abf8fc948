use Rattle.std.proofs.Common.{◌≡◌, ◌++◌, ◌∷◌, [], ap, ◌∙◌, append_assoc}
use Rattle.std.specs.Prelude.{codes}
use Rattle.std.specs.Fmt.{decimal}
use Rattle.std.proofs.lemmas.Result.{on_ok_weaker}
use Rattle.call_report.specs.Lines.Parts.{octet_detail}
use Rattle.call_report.specs.Lines.Script.{script_line}
use Rattle.call_report.proofs.script.append_script_fault.Goals as goal

pub returns-clause-ok : goal.returns-clause-ok
unfolding script_line
returns-clause-ok c =
    let start = c.args.line.now.items in
    let place = octet_detail c.args.fault.octet in
    let front : c.extend_from_slice.new.self.items ≡ start ++ codes "script line " = c.in_ok-extend_from_slice.ensures.items in
    let number : c.write_decimal.new.out.items ≡ c.extend_from_slice.new.self.items ++ decimal c.from.result = c.in_ok-write_decimal.ensures.ok in
    let octet : c.append_octet.new.line.items ≡ c.write_decimal.new.out.items ++ place = c.in_ok-append_octet.ensures.ok in
    on_ok_weaker c.append_last.result (λ end.
    end
    ∙ ap (λ x. x ++ (codes " " ++ c.script_kind_name.result.now ++ 10 ∷ [])) (octet ∙ ap (λ x. x ++ place) (number ∙ ap (λ x. x ++ decimal c.from.result) front))
    ∙ ap (λ k. (((start ++ codes "script line ") ++ decimal c.from.result) ++ place) ++ (codes " " ++ k ++ 10 ∷ [])) c.script_kind_name.ensures
    ∙ rw (c.from.ensures) (simp append_assoc)) c.append_last.ensures.ok
