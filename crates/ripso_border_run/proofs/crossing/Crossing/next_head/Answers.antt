use Rattle.std.proofs.Common.{rules, refl, arith}
use Rattle.ripso_border_run.proofs.Proceeding.{whole_next, broken_next, unread_next, short_next, frame_next, full_next}
use Rattle.ripso_border_run.proofs.crossing.Crossing.next_head.Goals as goal

pub returns-in-Ok-None-clause-crossing : goal.returns-in-Ok-None-clause-crossing
returns-in-Ok-None-clause-crossing g c task plan before stream standing crossing =
    let said = rw c.in-Ok-None.field-0-is at c.in-Ok-None.ensures in
    whole_next task plan before _ _ stream _ _ _ _ standing crossing _ said.frame refl said.answer

pub returns-in-Err-Capture-clause-crossing : goal.returns-in-Err-Capture-clause-crossing
returns-in-Err-Capture-clause-crossing g c task plan before stream standing crossing =
    let said = rw c.in-Err-Capture.field-0-is at c.in-Err-Capture.ensures in
    broken_next task plan before _ _ stream _ _ _ _ standing crossing _ said.frame c.in-Err-Capture.fault refl said.answer

pub returns-in-Err-ReadFault-clause-crossing : goal.returns-in-Err-ReadFault-clause-crossing
returns-in-Err-ReadFault-clause-crossing g c task plan before stream standing crossing =
    let said = rw c.in-Err-ReadFault.field-0-is at c.in-Err-ReadFault.ensures in
    unread_next task plan before _ _ stream _ _ _ _ standing crossing said.frame

pub returns-in-Err-OutOfMemory-clause-crossing : goal.returns-in-Err-OutOfMemory-clause-crossing
returns-in-Err-OutOfMemory-clause-crossing g c task plan before stream standing crossing =
    let said = rw c.in-Err-OutOfMemory.field-0-is at c.in-Err-OutOfMemory.ensures in
    short_next task plan before _ _ stream _ _ _ _ standing crossing _ said.frame (λ failed. absurd cc)

pub returns-then-self-eq-PACKETS_LIMIT-clause-crossing : goal.returns-then-self-eq-PACKETS_LIMIT-clause-crossing
returns-then-self-eq-PACKETS_LIMIT-clause-crossing g c task plan before stream standing crossing =
    let said = rw c.in-Ok-Some.field-0-is at c.in-Ok-Some.ensures in
    full_next task plan before _ _ stream _ _ _ _ standing crossing c.in-Ok-Some.head c.next.new.into.items c.next.new.self said.frame said.header (search (rules, said.moved)) said.answer
    (omega (arith, c.if-self-eq-PACKETS_LIMIT.true))

pub returns-clause-crossing : goal.returns-clause-crossing
returns-clause-crossing g c task plan before stream standing crossing =
    let said = rw c.in-Ok-Some.field-0-is at c.in-Ok-Some.ensures in
    frame_next task plan before _ _ stream _ _ _ _ standing crossing c.in-Ok-Some.head c.next.new.into.items c.next.new.self said.frame said.header (search (rules, said.moved)) said.answer
