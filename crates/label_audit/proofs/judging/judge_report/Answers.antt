use Rattle.std.proofs.Common.{◌≡◌, ℕ, List, length, ap, ◌∙◌}
use Rattle.std.specs.Prelude.{nat_lt}
use Rattle.label_audit.specs.inside.Reading.{file_of}
use Rattle.label_audit.proofs.Frames.{read_file, read_told}
use Rattle.label_audit.proofs.Places.{differ_one}
use Rattle.label_audit.proofs.WholeReport.{audited_bad, audited_longer, audited_yes}
use Rattle.label_audit.proofs.judging.judge_report.Goals as goal

pub returns-then-not-branch-clause-audited : goal.returns-then-not-branch-clause-audited
returns-then-not-branch-clause-audited g c = λ tells.
    let s0 = g.D.Depot.state c.args.depot.now in
    let at = c.judge_lines.new.at in
    let judged = rw (c.front-at.ensures, c.if-not-branch.true) at (c.in_ok-judge_lines.ensures.judged tells) in
    audited_bad c.args.script.now c.args.workers s0.held c.requires.workers.0 c.requires.sound.0 c.requires.sound.1 (c.requires.whole tells) (file_of s0 c.args.report.now) at judged

pub returns-then-branch-clause-audited : goal.returns-then-branch-clause-audited
returns-then-branch-clause-audited g c = λ tells.
    let s0 = g.D.Depot.state c.args.depot.now in
    let file = file_of s0 c.args.report.now in
    let at = c.judge_lines.new.at in
    let first_read = c.in_ok-judge_lines.ensures.read in
    let judged = rw (c.front-at.ensures, c.if-not-branch.false) at (c.in_ok-judge_lines.ensures.judged tells) in
    let longer_is : c.in_ok-is_longer.field-0 ≡ nat_lt at.at (length file) = c.in_ok-is_longer.ensures.longer (read_told first_read tells) ∙ ap (λ (f : List ℕ). nat_lt at.at (length f)) (read_file first_read tells) in
    audited_longer c.args.script.now c.args.workers s0.held c.requires.workers.0 c.requires.sound.0 c.requires.sound.1 (c.requires.whole tells) file at c.in_ok-is_longer.field-0 c.differ.new.place.lines judged longer_is c.if-branch.true (differ_one at c.differ.new.place file judged.1 c.differ.ensures)

pub returns-clause-audited : goal.returns-clause-audited
returns-clause-audited g c = λ tells.
    let s0 = g.D.Depot.state c.args.depot.now in
    let file = file_of s0 c.args.report.now in
    let at = c.judge_lines.new.at in
    let first_read = c.in_ok-judge_lines.ensures.read in
    let judged = rw (c.front-at.ensures, c.if-not-branch.false) at (c.in_ok-judge_lines.ensures.judged tells) in
    let longer_is : c.in_ok-is_longer.field-0 ≡ nat_lt at.at (length file) = c.in_ok-is_longer.ensures.longer (read_told first_read tells) ∙ ap (λ (f : List ℕ). nat_lt at.at (length f)) (read_file first_read tells) in
    audited_yes c.args.script.now c.args.workers s0.held c.requires.workers.0 c.requires.sound.0 c.requires.sound.1 (c.requires.whole tells) file at c.in_ok-is_longer.field-0 judged longer_is c.if-branch.false
