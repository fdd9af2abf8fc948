use Rattle.std.proofs.Common.{◌+◌, ◌∷◌, sym, ap₂, ◌∙◌}
use Rattle.std.specs.Str.Lines.{lines}
use Rattle.std.proofs.lemmas.List.{take_rest}
use Rattle.script_lines.proofs.Splits.{cut_at, none_passes}
use Rattle.script_lines.proofs.TextLines.{is_feed, lines_cut, lines_alone, some_octets}
use Rattle.script_lines.proofs.line.next_line.Goals as goal

pub returns-in-Some-clause-line : goal.returns-in-Some-clause-line
returns-in-Some-clause-line c =
    let text = c.args.text.now in
    let i = c.in-Some.end in
    lines_cut text i (cut_at is_feed text i (sym c.in-Some.ensures))
    ∙ ap₂ (λ line rest. line ∷ lines rest) (sym c.without_cr.ensures) (sym (take_rest text (i + 1)))

pub returns-in-None-clause-line : goal.returns-in-None-clause-line
returns-in-None-clause-line c =
    let text = c.args.text.now in
    lines_alone text (some_octets text (sym c.is_empty.ensures ∙ c.if-is_empty.false)) (none_passes is_feed text (sym c.in-None.ensures))
