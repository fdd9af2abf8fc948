use Rattle.std.proofs.Common.{refl, ap, ◌∙◌, ◌++◌, ◌∷◌, [], arith, Some}
use Rattle.script_run.proofs.flow_run.Reading.{got_unready, got_full, got_one, got_end, got_stop, taken_stands, full_stands, whole_stands, stopped_stands}
use Rattle.script_run.proofs.flow_run.Places.{kept, kept_before, kept_and_one}
use Rattle.script_run.proofs.flow_run.source.read_one.Goals as goal

pub returns-then-not-has_place-clause-got : goal.returns-then-not-has_place-clause-got
returns-then-not-has_place-clause-got g c =
    let room = c.has_place.ensures in
    got_unready _ _ _ _ _ _ (record { name = refl; format = refl; most = refl }) (record { times = refl; at = refl }) room.heads
    (kept c.args.source.now.heads.items c.has_place.new.heads.items c.args.batch.now.items c.has_place.new.batch.items room.heads room.batch) c.requires.begins refl refl refl

pub returns-then-source-clause-got : goal.returns-then-source-clause-got
returns-then-source-clause-got g c =
    let room = c.has_place.ensures in
    let clauses = rw c.in-Ok-Some.field-0-is at c.in-Ok-Some.ensures in
    got_full _ _ _ _ _ _ (record { name = clauses.name; format = clauses.format; most = refl }) (record { times = refl; at = refl }) room.heads
    (kept_before c.args.source.now.heads.items c.has_place.new.heads.items c.args.batch.now.items c.has_place.new.batch.items room.heads room.batch
    c.len-place.result c.next.new.into (omega (arith, c.len-place.ensures, c.has_place.new.heads.ok))) c.if-source.true refl

pub returns-else-source-clause-stands : goal.returns-else-source-clause-stands
returns-else-source-clause-stands g c told =
    let clauses = rw c.in-Ok-Some.field-0-is at c.in-Ok-Some.ensures in
    taken_stands c.args.source.now _ _ (c.requires.amid told) c.in-Ok-Some.head c.next.new.into clauses.format refl c.requires.begins (clauses.answer told)

pub returns-else-source-clause-got : goal.returns-else-source-clause-got
returns-else-source-clause-got g c =
    let room = c.has_place.ensures in
    let clauses = rw c.in-Ok-Some.field-0-is at c.in-Ok-Some.ensures in
    got_one _ _ _ _ _ _ (record { name = clauses.name; format = clauses.format; most = refl }) (record { times = refl; at = refl }) c.in-Ok-Some.head c.next.new.into
    (c.push_reserved.ensures.items ∙ ap (λ hs. hs ++ c.in-Ok-Some.head ∷ []) room.heads)
    (kept_and_one c.args.source.now.heads.items c.has_place.new.heads.items c.args.batch.now.items c.has_place.new.batch.items room.heads room.batch
    c.len-place.result c.next.new.into (omega (arith, c.len-place.ensures, c.has_place.new.heads.ok))
    c.in-Ok-Some.head c.push_reserved.new.self.items c.push_reserved.ensures.items (room.place c.if-not-has_place.false).0)
    clauses.time clauses.short c.requires.begins c.requires.begins refl (omega (arith, c.requires.within, c.if-source.false)) clauses.answer

pub returns-in-Ok-None-clause-got : goal.returns-in-Ok-None-clause-got
returns-in-Ok-None-clause-got g c =
    let room = c.has_place.ensures in
    let clauses = rw c.in-Ok-None.field-0-is at c.in-Ok-None.ensures in
    got_end _ _ _ _ _ _ (record { name = clauses.name; format = clauses.format; most = refl }) (record { times = refl; at = refl }) room.heads
    (kept_before c.args.source.now.heads.items c.has_place.new.heads.items c.args.batch.now.items c.has_place.new.batch.items room.heads room.batch
    c.len-place.result c.next.new.into (omega (arith, c.len-place.ensures, c.has_place.new.heads.ok))) c.requires.begins refl (λ told. (clauses.answer told).0)

pub returns-in-Err-clause-got : goal.returns-in-Err-clause-got
returns-in-Err-clause-got g c =
    let room = c.has_place.ensures in
    let clauses = c.in-Err.ensures in
    got_stop _ _ _ _ _ _ (record { name = clauses.name; format = clauses.format; most = refl }) (record { times = refl; at = refl }) c.in-Err.stop c.next.new.into room.heads
    (kept_before c.args.source.now.heads.items c.has_place.new.heads.items c.args.batch.now.items c.has_place.new.batch.items room.heads room.batch
    c.len-place.result c.next.new.into (omega (arith, c.len-place.ensures, c.has_place.new.heads.ok))) c.requires.begins
    (ap Some c.behind_at.ensures) (clauses.stands _) refl clauses.answer

pub returns-then-source-clause-stands : goal.returns-then-source-clause-stands
returns-then-source-clause-stands g c told =
    let clauses = rw c.in-Ok-Some.field-0-is at c.in-Ok-Some.ensures in
    full_stands c.args.source.now _ _ (c.requires.amid told) c.in-Ok-Some.head c.next.new.into _ refl c.if-source.true refl (clauses.answer told)

pub returns-in-Ok-None-clause-stands : goal.returns-in-Ok-None-clause-stands
returns-in-Ok-None-clause-stands g c told =
    let clauses = rw c.in-Ok-None.field-0-is at c.in-Ok-None.ensures in
    whole_stands c.args.source.now _ _ (c.requires.amid told) refl c.requires.within refl (clauses.answer told).0

pub returns-in-Err-clause-stands : goal.returns-in-Err-clause-stands
returns-in-Err-clause-stands g c told =
    let clauses = c.in-Err.ensures in
    stopped_stands c.args.source.now _ _ (c.requires.amid told) c.in-Err.stop c.next.new.into _ (ap Some c.behind_at.ensures) clauses.format (clauses.stands _) refl refl c.requires.within
    (clauses.answer told)
