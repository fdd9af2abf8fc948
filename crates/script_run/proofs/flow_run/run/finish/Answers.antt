use Rattle.std.proofs.Common.{refl, ap, ◌∙◌}
use Rattle.script_run.specs.flow_run.inside.Taken.{stop_in}
use Rattle.script_run.proofs.flow_run.Steps.{taken_at, taken_ends, taken_appended}
use Rattle.script_run.proofs.flow_run.run.finish.Goals as goal

pub returns-in-Ok-append_rest-clause-taken : goal.returns-in-Ok-append_rest-clause-taken
returns-in-Ok-append_rest-clause-taken g c was pairs h =
    taken_ends _ _ _ _ _ _ _ c.conclude.ensures.stop refl
    (taken_appended _ _ _ _ _ _ _ _ _ h (c.requires.stop ∙ ap stop_in c.in-Ok.is) c.in-Ok-append_rest.ensures.appended)

pub returns-in-Err-append_rest-clause-taken : goal.returns-in-Err-append_rest-clause-taken
returns-in-Err-append_rest-clause-taken g c was pairs h =
    taken_appended _ _ _ _ _ _ _ _ _ h (c.requires.stop ∙ ap stop_in c.in-Ok.is) c.in-Err-append_rest.ensures.appended

pub returns-in-Err-clause-taken : goal.returns-in-Err-clause-taken
returns-in-Err-clause-taken g c was pairs h = taken_at _ _ _ _ _ _ _ (c.requires.stop ∙ ap stop_in c.in-Err.is) h
