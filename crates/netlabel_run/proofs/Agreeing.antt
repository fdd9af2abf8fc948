-- What `agree` answers is an answer to a script.
use Rattle.std.proofs.Common.{ℕ, List, Option}
use Rattle.call_report.specs.script_input.Answer.{HopsAnswer}
use Rattle.call_report.proofs.script_input.Law.{IsAnswering, hops_are_answered, ReadsScript, answers_read}
use Rattle.netlabel_run.specs.Agree.{IsFound, agree_text, agree_says}

pub agreement_answers : (number : ℕ) (named : Option (List ℕ)) → IsAnswering (HopsAnswer IsFound agree_text number named)
agreement_answers number named = hops_are_answered IsFound agree_text number named

pub agree_reads : (file : List ℕ) (number : ℕ) (named : Option (List ℕ)) → ReadsScript (agree_says file number named) file
agree_reads file number named = answers_read (HopsAnswer IsFound agree_text number named) file (agreement_answers number named)
