-- A whole text and its lines.
use Rattle.std.proofs.Common.{◌≡◌, ℕ, Bool, true, false, cond, List, length, Result, Ok, Err, refl, ap, ltb}
use Rattle.std.specs.Str.Lines.{lines}
use Rattle.script_lines.specs.declared.stop.LimitName.TheVariants.{Octets}
use Rattle.script_lines.specs.Form.{Edition}
use Rattle.label_commands.specs.declared.script.Script.{Script}
use Rattle.label_commands.specs.declared.stop.ScriptFault.{ScriptFault}
use Rattle.label_commands.specs.declared.stop.ScriptStop.{ScriptStop}
use Rattle.label_commands.specs.declared.stop.ScriptStop.TheVariants as Stop
use Rattle.label_commands.specs.Above.{Above, nothing_above}
use Rattle.label_commands.specs.Script.{passed, read_lines, script_of, read_text}
use Rattle.label_commands.proofs.Results.{same_ok, same_err, not_ok, not_err}

-- the text is within its limit, and its lines say the script
pub record IsSaid (edition : Edition) (own text : List ℕ) (script : Script) : Type 0 where
  pub few : ltb 1048576 (length text) ≡ false
  pub last : Above
  pub said : read_lines edition own nothing_above 1 (lines text) ≡ Ok last
  pub is : script_of last ≡ script

abbrev whole : Result Above ScriptStop → Result Script ScriptStop
whole (Ok above) = Ok (script_of above)
whole (Err stop) = Err stop

whole_went : (read : Result Above ScriptStop) (script : Script) → whole read ≡ Ok script → (last : Above) × (read ≡ Ok last) × (script_of last ≡ script)
whole_went (Ok above) script e = (above, refl, same_ok (script_of above) script e)
whole_went (Err stop) script e = absurd (not_ok script stop e)

whole_fell : (read : Result Above ScriptStop) (stop : ScriptStop) → whole read ≡ Err stop → read ≡ Err stop
whole_fell (Ok above) stop e = absurd (not_err (script_of above) stop e)
whole_fell (Err found) stop e = ap Err (same_err {X = Script} found stop e)

no_limit : (fault : ScriptFault) → ◌≡◌ {A = Result Script ScriptStop} (Err (passed Octets)) (Err (Stop.Fault fault)) → ⊥
no_limit fault e = differ (same_err {X = Script} (passed Octets) (Stop.Fault fault) e) where
  differ : passed Octets ≡ Stop.Fault fault → ⊥
  differ e = cc

pub text_went : (edition : Edition) (own text : List ℕ) (script : Script) → read_text edition own text ≡ Ok script → IsSaid edition own text script
unfolding read_text
text_went edition own text script e = by_test (ltb 1048576 (length text)) refl e where
  by_test : (b : Bool) → ltb 1048576 (length text) ≡ b → ◌≡◌ {A = Result Script ScriptStop} (cond b (Err (passed Octets)) (whole (read_lines edition own nothing_above 1 (lines text)))) (Ok script)
      → IsSaid edition own text script
  by_test true is e = absurd (not_ok script _ e)
  by_test false is e =
      let w = whole_went (read_lines edition own nothing_above 1 (lines text)) script e in record { few = is; last = w.0; said = w.1; is = w.2 }

pub text_says : (edition : Edition) (own text : List ℕ) (script : Script) → IsSaid edition own text script → read_text edition own text ≡ Ok script
unfolding read_text
text_says edition own text script said = rw (said.few, said.said) (ap Ok said.is)

pub text_fell : (edition : Edition) (own text : List ℕ) (fault : ScriptFault) → read_text edition own text ≡ Err (Stop.Fault fault)
    → read_lines edition own nothing_above 1 (lines text) ≡ Err (Stop.Fault fault)
unfolding read_text
text_fell edition own text fault e = by_test (ltb 1048576 (length text)) e where
  by_test : (b : Bool) → ◌≡◌ {A = Result Script ScriptStop} (cond b (Err (passed Octets)) (whole (read_lines edition own nothing_above 1 (lines text)))) (Err (Stop.Fault fault))
      → read_lines edition own nothing_above 1 (lines text) ≡ Err (Stop.Fault fault)
  by_test true e = absurd (no_limit fault e)
  by_test false e = whole_fell (read_lines edition own nothing_above 1 (lines text)) (Stop.Fault fault) e
