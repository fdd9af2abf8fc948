-- The laws of src/laws.rt under their names, for the crates above, that an input is whole of which status 0 is due, and reads of several files.
pub use Rattle.label_audit.proofs.WholeInputs.{WholeInput, whole_input}
pub use Rattle.label_audit.proofs.Among.{is_first, is_behind, one_among, more_among, among_on, among_as, among_err, among_answer}
use Rattle.std.proofs.Common.{◌≡◌, ◌≤◌, ℕ, List, ◌∷◌, [], ◌++◌, ap, ◌∙◌, arith, append_assoc, inl, inr}
use Rattle.std.specs.Prelude.{All}
use Rattle.std.proofs.lemmas.Bool.{cases_lt}
use Rattle.domain_map.specs.address_text.Name.{IsNameText}
use Rattle.label_commands.specs.declared.flow_lines.hop.Hop.{Hop}
use Rattle.label_commands.specs.declared.script.Script.{Script}
use Rattle.label_flow.specs.declared.packet_walk.walked.Walked.{Walked}
use Rattle.call_report.specs.Report.{Folder}
use Rattle.call_report.specs.Lines.Flow.{versions_text, walked_line}
use Rattle.call_report.specs.report_file.Meeting.{lines_in}
use Rattle.call_report.specs.report_file.Versions.{EndsWithVersions}
use Rattle.label_audit.specs.Good.{IsReport, IsGood, IsFirstBad}
use Rattle.label_audit.proofs.Fronts.{cut}
use Rattle.label_audit.proofs.PacketLines.{in_line}

pub a_report_has_one_first_bad_line : (script : Script) (workers : ℕ) (held : Folder) (report : List ℕ) (l l' : ℕ) → IsFirstBad script workers held report l → IsFirstBad script workers held report l' → l ≡ l'
a_report_has_one_first_bad_line script workers held report l l' a b = elim (cases_lt l l') [
  | inl less ↦ absurd (a.bad (b.before l less))
  | inr more ↦ elim (cases_lt l' l) [
    | inl less ↦ absurd (b.bad (a.before l' less))
    | inr least ↦ omega (arith, more, least)
  ]
]

pub lines_of_a_whole_report_are_good : (script : Script) (workers : ℕ) (held : Folder) (report : List ℕ) → IsReport script workers held report → (l : ℕ) → l ≤ lines_in report → IsGood script workers held report l
lines_of_a_whole_report_are_good script workers held report r l few =
    let c = cut l report few in
    record {
      front = c.front;
      first = record { rest = c.rest; is = c.is; count = c.count; ends = c.whole };
      more = c.rest;
      printed = record { seen = r.seen; runs = r.runs; are = r.are; lawful = r.lawful; prints = r.prints ∙ c.is };
    }

pub lines_of_packets_name_their_versions : (flow number : ℕ) (names : List (List ℕ)) (hops : List Hop) (walked : Walked) (behind : List ℕ) → All IsNameText names
    → EndsWithVersions (walked_line flow number names hops walked ++ behind) walked.versions
lines_of_packets_name_their_versions flow number names hops walked behind all =
    let line = in_line flow number names hops walked all in
    record {
      front = line.front;
      behind = behind;
      one = line.none.none;
      is = ap (λ t. t ++ behind) line.is ∙ append_assoc line.front (32 ∷ (versions_text walked.versions ++ 10 ∷ [])) behind
          ∙ ap (λ t. line.front ++ 32 ∷ t) (append_assoc (versions_text walked.versions) (10 ∷ []) behind);
    }
