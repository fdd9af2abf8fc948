use Rattle.std.proofs.Common.{arith, ◌∙◌, sym, ap, drop}
use Rattle.net_io.specs.file_window.Numbers.{ordered_number}
use Rattle.net_io.proofs.file_window.Law.{a_number_of_a_window_is_the_files}
use Rattle.pcapng_frames.proofs.OptionLists.{section_wrong, section_right}
use Rattle.pcapng_frames.proofs.describing.take_section.Goals as goal

pub returns-then-u16_at-ne1-clause-answer : goal.returns-then-u16_at-ne1-clause-answer
returns-then-u16_at-ne1-clause-answer c = λ rest front.
    let order = c.args.head.order in
    let same = a_number_of_a_window_is_the_files order 2 12 rest 0 c.args.window.now front (omega (arith, c.requires.long)) ∙ ap (λ l. ordered_number order 2 (drop 12 l)) (sym c.ahead.ensures.value) ∙ sym c.u16_at.ensures in
    section_wrong c.args.place rest c.args.head c.u16_at.result same c.if-u16_at-ne1.true

pub returns-clause-answer : goal.returns-clause-answer
returns-clause-answer c = λ rest front.
    let order = c.args.head.order in
    let same = a_number_of_a_window_is_the_files order 2 12 rest 0 c.args.window.now front (omega (arith, c.requires.long)) ∙ ap (λ l. ordered_number order 2 (drop 12 l)) (sym c.ahead.ensures.value) ∙ sym c.u16_at.ensures in
    section_right c.args.place rest c.args.head c.u16_at.result c.begin.new.self.section same c.if-u16_at-ne1.false c.begin.ensures.section
