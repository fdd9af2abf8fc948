use Rattle.std.proofs.Common.{refl, ap, subst, ◌∙◌, [], Some, IsTrue}
use Rattle.script_run.proofs.flow_run.Ending.{start_of, ends_run, ends_uncreated}
use Rattle.script_run.proofs.flow_run.Steps.{fed_kept}
use Rattle.script_run.proofs.flow_run.run.run_read.Goals as goal

pub run_made-requires-clause-prepared : goal.run_made-requires-clause-prepared
run_made-requires-clause-prepared g c κs within =
    let created = c.in-Ok.ensures.created in
    let stands = c.requires.stands in
    let new = c.requires.new in
    record {
      new = record {
        fresh = new.fresh;
        fed = fed_kept _ _ _ _ created.told (λ told. created.others told _ (λ is. stands.apart (is ∙ ap Some new.fresh.name))) refl refl refl refl refl refl new.fed;
        seen = new.seen;
        passed = new.passed;
        denied = new.denied;
        stop = new.stop;
      };
      there = λ told name is. ([], created.here refl (subst IsTrue created.told told) name is);
    }

pub returns-in-Ok-clause-ends : goal.returns-in-Ok-clause-ends
returns-in-Ok-clause-ends g c before waits read stream lines =
    let new = c.requires.new in
    let apart = c.requires.stands.apart in
    ends_run _ _ _ _ _ _ _ before _ _ waits _ _ _ (start_of _ _ _ _ _ _ _ apart read c.in-Ok.ensures.created (rw c.format-format.ensures at c.in-Ok.ensures.head)) stream lines new.seen new.passed new.denied
    apart c.run_made.ensures.flown

pub returns-in-Err-clause-ends : goal.returns-in-Err-clause-ends
returns-in-Err-clause-ends g c before waits read stream lines =
    rw c.requires.new.seen (ends_uncreated _ _ _ _ _ _ _ before _ waits _ _ _ _ c.requires.stands.beside.0 lines stream read c.in-Err.ensures.created)
