use Rattle.std.proofs.Common.{◌≡◌, length}
use Rattle.std.specs.List.{list_any}
use Rattle.script_lines.specs.Form.{with_translations, form_of}
use Rattle.script_lines.specs.Said.{first_is}
use Rattle.script_lines.proofs.said.begins_one.Given as goal

-- the rest of the rows decides
abbrev pub invariant-loop-rest : goal.invariant-loop-rest
invariant-loop-rest l = list_any (λ row. first_is (form_of with_translations row).fixed l.text) l.rows ≡ list_any (λ row. first_is (form_of with_translations row).fixed l.text) l.rest

abbrev pub decreases-loop-rest : goal.decreases-loop-rest
decreases-loop-rest l = length l.rest
