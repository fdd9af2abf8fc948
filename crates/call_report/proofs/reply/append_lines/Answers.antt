use Rattle.std.proofs.Common.{◌+◌, ◌++◌, drop, sym, ap, ◌∙◌, append_assoc, arith}
use Rattle.std.specs.Prelude.{codes}
use Rattle.call_report.specs.Lines.Parts.{line_of}
use Rattle.call_report.specs.Lines.Reply.{listed_lines}
use Rattle.call_report.proofs.Listing.{lines_from}
use Rattle.call_report.proofs.reply.append_lines.Goals as goal

pub loop-written-preserved : goal.loop-written-preserved
loop-written-preserved c =
    let old = c.loop-written.out.items in
    let lines = c.args.lines.now in
    let line = c.line.result.now in
    let rest = listed_lines (drop (c.loop-written.written + 1) lines) in
    record {
      extends = record {
        more = c.loop-written.invariant.extends.more ++ line_of (codes "  " ++ line);
        is =
            c.in_ok-append_line.ensures.ok ∙ ap (λ t. t ++ line_of (codes "  " ++ line)) c.loop-written.invariant.extends.is
            ∙ append_assoc c.args.out.now.items c.loop-written.invariant.extends.more (line_of (codes "  " ++ line));
      };
      within = omega (arith, c.loop-written-test.true, c.count.ensures);
      whole =
          ap (λ t. t ++ rest) c.in_ok-append_line.ensures.ok
          ∙ append_assoc old (line_of (codes "  " ++ line)) rest
          ∙ ap (λ t. old ++ t) (sym (lines_from lines c.loop-written.written line c.line.ensures))
          ∙ c.loop-written.invariant.whole;
    }
