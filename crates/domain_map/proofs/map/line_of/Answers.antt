use Rattle.std.proofs.Common.{◌-◌, ◌≤◌, suc, Some, sym, ap, ◌∙◌, length, drop, slice_get, arith, add-one}
use Rattle.domain_map.specs.Domains.{Domain, lines_of, rule_lines}
use Rattle.domain_map.specs.declared.rule.Rule.{Rule}
use Rattle.domain_map.proofs.Rules.{line_here, line_behind, lines_left}
use Rattle.domain_map.proofs.map.line_of.Goals as goal

pub returns-then-left-lines : goal.returns-then-left-lines
returns-then-left-lines c =
    let entries = c.args.rules.now.entries in
    let line = c.line-prefix.result in
    c.loop-place.invariant.same
    ∙ line_here entries c.loop-place.place c.loop-place.left (c.entry_at.result.0.now, c.entry_at.result.1.now) line c.entry_at.ensures c.line-prefix.ensures
    ∙ ap (λ d. Some (d, line.0, line.1)) (sym c.as_ref.ensures.value)

pub loop-place-preserved : goal.loop-place-preserved
loop-place-preserved c =
    let entries = c.args.rules.now.entries in
    let i = c.loop-place.place in
    let left = c.loop-place.left in
    let entry : Domain × Rule = (c.entry_at.result.0.now, c.entry_at.result.1.now) in
    let lines = c.lines-lines.ensures.lines in
    let behind : length (rule_lines c.entry_at.result.1.now) ≤ left = omega (arith, lines, c.if-left-lines.false) in
    record {
      same = c.loop-place.invariant.same ∙ line_behind entries i left entry c.entry_at.ensures behind
          ∙ ap (λ n. slice_get (lines_of (drop (suc i) entries)) (left - n)) (sym lines) ∙ ap (λ n. slice_get (lines_of (drop n entries)) (left - c.lines-lines.result)) (sym (add-one i));
      within = omega (arith, c.loop-place.invariant.within, lines, behind, lines_left entries i entry c.entry_at.ensures, ap (λ n. length (lines_of (drop n entries))) (add-one i));
    }
