use Rattle.mls_range.proofs.Law.{a_refused_text_is_no_label}
use Rattle.netlabel_run.proofs.words.read_level.Goals as goal

pub returns-in-Ok-clause-yes : goal.returns-in-Ok-clause-yes
returns-in-Ok-clause-yes c = λ yes. rw (← c.as_bytes.ensures.value) (record { reads = c.in-Ok.ensures.ok; roomy = c.in-Ok.ensures.roomy })

pub returns-in-Err-clause-no : goal.returns-in-Err-clause-no
returns-in-Err-clause-no c = λ level is. absurd (a_refused_text_is_no_label c.args.text.now c.in-Err._fault level (rw c.as_bytes.ensures.value at c.in-Err.ensures.err) is.reads is.roomy)
