-- `make`: a capture that is made from a number, and what becomes of its packets.
use Rattle.std.specs.Prelude.{ℕ, ◌≡◌, List, [], ◌∷◌, Some}
use Rattle.made_run.specs.made_capture.Capture.{capture_made}
use Rattle.made_run.specs.Verdict.{delivered_made, denied_made}
use Rattle.call_report.specs.Lines.Made.{made_line}
use Rattle.call_report.specs.Report.{late_report}
use Rattle.call_report.specs.Stages.{making_stage}
use Rattle.call_report.specs.Says.{Says}

-- It reads no file and makes one, and then prints its line; no command comes beside it, so it prints no versions.
abbrev pub make_says : ℕ → ℕ → List ℕ → Says
make_says seed count file = record {
  report = λ held seen report. report ≡ late_report (made_line count (delivered_made seed count) (denied_made seed count)) [];
  reads = ⊥;
  status = λ held status. status ≡ 0;
  possible = λ status. status ≡ 0;
  stages = λ held seen stages. (seen ≡ []) × (stages ≡ making_stage file ∷ []);
  outputs = λ held seen outputs. outputs ≡ record { name = file; octets = Some (capture_made seed count) } ∷ [];
  lawful = λ held seen. seen ≡ [];
  whole = λ held seen. seen ≡ [];
  access = λ held seen. Unit {0};
  withheld = λ held seen. Unit {0};
  preceded = λ seen stages call. ⊥;
}
