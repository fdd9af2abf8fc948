-- A script's text that is too long, and a file that can't be read.
use Rattle.std.proofs.Common.{◌≡◌, ◌<◌, ℕ, Bool, true, false, replicate, List, [], length, Option, Some, None, Err, refl, arith}
use Rattle.std.specs.Prelude.{IsTrue}
use Rattle.std.proofs.lemmas.Bool.{lt-ltb}
use Rattle.std.proofs.lemmas.List.{length-replicate}
use Rattle.net_io.specs.Depot.{octets_of}
use Rattle.net_io.specs.Faults.{SameCounts}
use Rattle.script_lines.specs.declared.stop.LimitName.TheVariants.{Octets}
use Rattle.script_lines.specs.Form.{with_translations}
use Rattle.label_commands.specs.declared.stop.ScriptStop.TheVariants as stop
use Rattle.label_commands.specs.declared.stop.ScriptStop.{ScriptStop}
use Rattle.label_commands.specs.Script.{read_text, IsScriptStop}
use Rattle.call_report.specs.declared.status.Status.{Status}
use Rattle.call_report.specs.declared.status.Status.TheVariants.{Limit}
use Rattle.call_report.specs.Lines.Script.{limit_line, script_stop_line}
use Rattle.call_report.specs.Outside.{Outside}
use Rattle.call_report.specs.Printing.{Printed}
use Rattle.call_report.specs.script_input.ScriptFile.{script_read}
use Rattle.call_report.specs.script_input.Ends.{HasNoScript, refused, without_memory, script_due}

too_long_by : (text : List ℕ) (file : List ℕ) → 1048576 < length text → script_read file text ≡ Err (stop.Limit Octets 1048576)
unfolding read_text
too_long_by text file long = rw (lt-ltb 1048576 (length text) long) refl

zeros : ℕ → List ℕ
zeros n = replicate n 0

length-zeros : (n : ℕ) → length (zeros n) ≡ n
unfolding zeros
length-zeros n = length-replicate {A = ℕ} n 0

-- a longer text than a script may be: the file's own where the folder tells it, else some
record IsLong (tells : Bool) (held : Option (List ℕ)) : Type 0 where
  text : List ℕ
  holds : IsTrue tells → held ≡ Some text
  long : 1048576 < length text

long_text : (tells : Bool) (held : Option (List ℕ)) → (IsTrue tells → 1048576 < length (octets_of held)) → IsLong tells held
long_text false held long = record { text = zeros 1048577; holds = λ told. absurd (let no : false ≡ true = told in cc); long = omega (arith, length-zeros 1048577) }
long_text true None long = absurd (omega (arith, long refl))
long_text true (Some text) long = record { text = text; holds = λ told. refl; long = long refl }

pub too_long : (file : List ℕ) (before after : Outside) (status : Status) → (IsTrue before.folder.tells → 1048576 < length (octets_of (before.folder.held file)))
    → SameCounts before.folder.reads after.folder.reads → Printed [] (limit_line Octets 1048576) Limit status before.stream after.stream → HasNoScript file before after status
too_long file before after status long counts printed =
    let t = long_text before.folder.tells (before.folder.held file) long in
    refused t.text (stop.Limit Octets 1048576) t.holds (too_long_by t.text file t.long) counts printed

-- a text is no script, or there was no memory for it
pub stopped : (file text : List ℕ) (why : ScriptStop) (before after : Outside) (status : Status) → (IsTrue before.folder.tells → before.folder.held file ≡ Some text) → IsScriptStop with_translations file text why
    → SameCounts before.folder.reads after.folder.reads → Printed [] (script_stop_line why) (script_due why) status before.stream after.stream → HasNoScript file before after status
stopped file text (stop.Fault fault) before after status holds is counts printed = refused text (stop.Fault fault) holds is counts printed
stopped file text (stop.Limit what number) before after status holds is counts printed = refused text (stop.Limit what number) holds is counts printed
stopped file text stop.OutOfMemory before after status holds is counts printed = without_memory counts printed
