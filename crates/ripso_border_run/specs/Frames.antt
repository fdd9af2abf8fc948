-- What is made of the frames of a capture, one by one: the lines, and the capture that is written.
use Rattle.std.specs.Prelude.{◌≡◌, ℕ, ◌+◌, List, [], ◌∷◌, ◌++◌, length, map, take, Option, Some, None, Ok, Err}
use Rattle.std.specs.List.{concat, range_with_len}
use Rattle.pcap_frames.specs.Ip.{ip_part_of}
use Rattle.pcap_frames.specs.Record.{Frame}
use Rattle.captures.specs.Frame.{CapturedFrame}
use Rattle.doi_table.specs.declared.plan.DoiPlan.{DoiPlan}
use Rattle.ripso_border.specs.declared.border.Way.{Way}
use Rattle.ripso_border.specs.Crossing.{Crossed, Crosses}
use Rattle.ripso_border.specs.Written.{border_octets}
use Rattle.call_report.specs.Event.{Event}
use Rattle.call_report.specs.Report.{Report}
use Rattle.ripso_border_run.specs.Lines.{Made, made_packet_line, crossed_end_line}

-- what is made of a frame of this link type
pub record IsMadeOf (way : Way) (plan : DoiPlan) (doi link : ℕ) (octets : List ℕ) (made : Made) : Type 0 where
  pub verdict : Crossed
  pub crosses : Crosses way plan doi (ip_part_of link octets) verdict
  pub is : made ≡ border_octets verdict

-- and of each
abbrev pub AreMadeOf : Way → DoiPlan → ℕ → List CapturedFrame → List Made → Type 0
AreMadeOf way plan doi [] [] = Unit {0}
AreMadeOf way plan doi (frame ∷ frames) (made ∷ rest) = IsMadeOf way plan doi frame.link frame.octets made × AreMadeOf way plan doi frames rest
AreMadeOf way plan doi frames made = ⊥

-- the frames that are written, each with the time of the one that it was made of
abbrev pub written_frames : List CapturedFrame → List Made → List Frame
written_frames (frame ∷ frames) (Ok octets ∷ made) = record { head = frame.head; octets = octets } ∷ written_frames frames made
written_frames (frame ∷ frames) (Err why ∷ made) = written_frames frames made
written_frames frames made = []

-- the lines, numbered from here on
abbrev pub made_lines : ℕ → List Made → List (List ℕ)
made_lines number [] = []
made_lines number (made ∷ rest) = made_packet_line number made ∷ made_lines (number + 1) rest

-- how many were written, and how many denied
abbrev pub count_passed : List Made → ℕ
count_passed [] = 0
count_passed (Ok octets ∷ made) = 1 + count_passed made
count_passed (Err why ∷ made) = count_passed made

abbrev pub count_denied : List Made → ℕ
count_denied [] = 0
count_denied (Ok octets ∷ made) = count_denied made
count_denied (Err why ∷ made) = 1 + count_denied made

-- all that may stand in front of a next line: nothing, the first line, the first two, and so on
abbrev pub starts_of_lines : List (List ℕ) → List (List ℕ)
starts_of_lines lines = map (λ n. concat (take n lines)) (range_with_len 0 (length lines + 1))

-- the lines of all packets, and behind them their numbers, or the event that ends the capture before its end
abbrev pub border_report : List Made → Option Event → Report
border_report made None = record {
  body = concat (made_lines 1 made) ++ crossed_end_line (length made) (count_passed made) (count_denied made);
  last = [];
  pauses = starts_of_lines (made_lines 1 made);
}
border_report made (Some event) = record { body = concat (made_lines 1 made); last = event.line; pauses = starts_of_lines (made_lines 1 made) }
