-- What is made of frames: it is there, it is one thing, and what is made of more frames comes behind it.
use Rattle.std.proofs.Common.{◌≡◌, ℕ, suc, ◌+◌, ◌<◌, List, [], ◌∷◌, ◌++◌, length, map, take, Option, Some, None, Result, Ok, Err, refl, sym, ap, subst, ◌∙◌, append_assoc, length-append, arith}
use Rattle.std.specs.Prelude.{Contains}
use Rattle.std.specs.List.{concat, range_with_len}
use Rattle.std.proofs.lemmas.List.{take_at}
use Rattle.std.proofs.lemmas.List.FromFn.{get_or-map-range_with_len, length-map-range_with_len}
use Rattle.pcap_frames.specs.Ip.{ip_part_of}
use Rattle.pcap_frames.specs.Record.{Frame}
use Rattle.packet_label.specs.declared.denial.Denial.{Denial}
use Rattle.packet_label.specs.declared.denial.Denial.TheVariants.{NotIp}
use Rattle.call_report.specs.Lines.Packet.{shown_line}
use Rattle.ripso_border_run.specs.inside.Course.{shown_of}
use Rattle.packet_label.proofs.Law.{octets_are_a_packet_or_have_one_fault}
use Rattle.doi_table.specs.declared.plan.DoiPlan.{DoiPlan}
use Rattle.label_receive.specs.Judged.{judged_by}
use Rattle.captures.specs.Frame.{CapturedFrame}
use Rattle.ripso_border.specs.declared.border.Way.{Way}
use Rattle.ripso_border.specs.declared.border.Way.TheVariants as way
use Rattle.ripso_border.specs.In.{border_in}
use Rattle.ripso_border.specs.Out.{border_out}
use Rattle.ripso_border.specs.Crossing.{Crossed, Crosses}
use Rattle.ripso_border.specs.Written.{border_octets}
use Rattle.ripso_border.proofs.Law.{packets_have_one_verdict}
use Rattle.ripso_border_run.specs.Lines.{Made, made_packet_line}
use Rattle.ripso_border_run.specs.Frames.{IsMadeOf, AreMadeOf, written_frames, made_lines, count_passed, count_denied, starts_of_lines}

-- a packet has a verdict
out_verdict : (plan : DoiPlan) (doi : ℕ) (part : Option (List ℕ)) → (verdict : Crossed) × Crosses way.Out plan doi part verdict
out_verdict plan doi None = (Err NotIp, refl)
out_verdict plan doi (Some octets) =
    let read = (octets_are_a_packet_or_have_one_fault octets).some in
    (judged_by (border_out plan doi) read.0, record { read = read.0; reads = read.1; is = refl })

some_verdict : (way : Way) (plan : DoiPlan) (doi : ℕ) (part : Option (List ℕ)) → (verdict : Crossed) × Crosses way plan doi part verdict
some_verdict way.In plan doi part = (border_in plan doi part, refl)
some_verdict way.Out plan doi part = out_verdict plan doi part

module _ (way : Way) (plan : DoiPlan) (doi : ℕ) where
  some_made : (frame : CapturedFrame) → (made : Made) × IsMadeOf way plan doi frame.link frame.octets made
  some_made frame =
      let one = some_verdict way plan doi (ip_part_of frame.link frame.octets) in
      (border_octets one.0, record { verdict = one.0; crosses = one.1; is = refl })

  pub all_made : (frames : List CapturedFrame) → (made : List Made) × AreMadeOf way plan doi frames made
  all_made [] = ([], tt)
  all_made (frame ∷ frames) =
      let one = some_made frame in
      let rest = all_made frames in
      (one.0 ∷ rest.0, (one.1, rest.1))

  made_once : (link : ℕ) (octets : List ℕ) (a b : Made) → IsMadeOf way plan doi link octets a → IsMadeOf way plan doi link octets b → a ≡ b
  made_once link octets a b x y = x.is ∙ ap border_octets (packets_have_one_verdict way plan doi (ip_part_of link octets) x.verdict y.verdict x.crosses y.crosses) ∙ sym y.is

  pub are_once : (frames : List CapturedFrame) (xs ys : List Made) → AreMadeOf way plan doi frames xs → AreMadeOf way plan doi frames ys → xs ≡ ys
  are_once [] [] [] a b = refl
  are_once [] [] (y ∷ ys) a b = absurd b
  are_once [] (x ∷ xs) ys a b = absurd a
  are_once (frame ∷ frames) [] ys a b = absurd a
  are_once (frame ∷ frames) (x ∷ xs) [] a b = absurd b
  are_once (frame ∷ frames) (x ∷ xs) (y ∷ ys) a b =
      let first : x ≡ y = made_once frame.link frame.octets x y a.0 b.0 in
      λ i. first i ∷ are_once frames xs ys a.1 b.1 i

  pub are_counted : (frames : List CapturedFrame) (made : List Made) → AreMadeOf way plan doi frames made → length made ≡ length frames
  are_counted [] [] are = refl
  are_counted [] (m ∷ made) are = absurd are
  are_counted (frame ∷ frames) [] are = absurd are
  are_counted (frame ∷ frames) (m ∷ made) are = ap suc (are_counted frames made are.1)

  pub are_joined : (fs gs : List CapturedFrame) (ms ns : List Made) → AreMadeOf way plan doi fs ms → AreMadeOf way plan doi gs ns → AreMadeOf way plan doi (fs ++ gs) (ms ++ ns)
  are_joined [] gs [] ns a b = b
  are_joined [] gs (m ∷ ms) ns a b = absurd a
  are_joined (f ∷ fs) gs [] ns a b = absurd a
  are_joined (f ∷ fs) gs (m ∷ ms) ns a b = (a.0, are_joined fs gs ms ns a.1 b)

  pub written_joined : (fs gs : List CapturedFrame) (ms ns : List Made) → AreMadeOf way plan doi fs ms → written_frames (fs ++ gs) (ms ++ ns) ≡ written_frames fs ms ++ written_frames gs ns
  written_joined [] gs [] ns a = refl
  written_joined [] gs (m ∷ ms) ns a = absurd a
  written_joined (f ∷ fs) gs [] ns a = absurd a
  written_joined (f ∷ fs) gs (Ok octets ∷ ms) ns a =
      ap (λ (rest : List Frame). (let frame : Frame = record { head = f.head; octets = octets } in frame ∷ rest)) (written_joined fs gs ms ns a.1)
  written_joined (f ∷ fs) gs (Err why ∷ ms) ns a = written_joined fs gs ms ns a.1

pub lines_joined : (number : ℕ) (ms ns : List Made) → made_lines number (ms ++ ns) ≡ made_lines number ms ++ made_lines (number + length ms) ns
lines_joined number [] ns = let same : number ≡ number + 0 = omega arith in ap (λ k. made_lines k ns) same
lines_joined number (m ∷ ms) ns =
    let same : number + 1 + length ms ≡ number + suc (length ms) = omega arith in
    ap (λ rest. made_packet_line number m ∷ rest) (lines_joined (number + 1) ms ns ∙ ap (λ k. made_lines (number + 1) ms ++ made_lines k ns) same)

pub lines_counted : (number : ℕ) (ms : List Made) → length (made_lines number ms) ≡ length ms
lines_counted number [] = refl
lines_counted number (m ∷ ms) = ap suc (lines_counted (number + 1) ms)

concat-append : (xs ys : List (List ℕ)) → concat (xs ++ ys) ≡ concat xs ++ concat ys
concat-append [] ys = refl
concat-append (x ∷ xs) ys = ap (λ t. x ++ t) (concat-append xs ys) ∙ sym (append_assoc x (concat xs) (concat ys))

-- the text of lines, and of those behind them
pub text_joined : (ms ns : List Made) → concat (made_lines 1 (ms ++ ns)) ≡ concat (made_lines 1 ms) ++ concat (made_lines (1 + length ms) ns)
text_joined ms ns = ap concat (lines_joined 1 ms ns) ∙ concat-append (made_lines 1 ms) (made_lines (1 + length ms) ns)

pub passed_joined : (ms ns : List Made) → count_passed (ms ++ ns) ≡ count_passed ms + count_passed ns
passed_joined [] ns = omega arith
passed_joined (Ok octets ∷ ms) ns = omega (arith, passed_joined ms ns)
passed_joined (Err why ∷ ms) ns = passed_joined ms ns

pub denied_joined : (ms ns : List Made) → count_denied (ms ++ ns) ≡ count_denied ms + count_denied ns
denied_joined [] ns = omega arith
denied_joined (Ok octets ∷ ms) ns = denied_joined ms ns
denied_joined (Err why ∷ ms) ns = omega (arith, denied_joined ms ns)

-- the text of some first lines may stand in front of the next
pub starts_contain : (ms ns : List Made) → Contains (starts_of_lines (made_lines 1 (ms ++ ns))) (concat (made_lines 1 ms))
starts_contain ms ns =
    let first = made_lines 1 ms in
    let behind = made_lines (1 + length ms) ns in
    subst (λ (lines : List (List ℕ)). Contains (starts_of_lines lines) (concat first)) (sym (lines_joined 1 ms ns)) (of_lines first behind)
  where
    of_lines : (first behind : List (List ℕ)) → Contains (starts_of_lines (first ++ behind)) (concat first)
    of_lines first behind =
        let lines = first ++ behind in
        let f = λ (k : ℕ). concat (take k lines) in
        let size : length (map f (range_with_len 0 (length lines + 1))) ≡ length lines + 1 = length-map-range_with_len f 0 (length lines + 1) in
        let within : length first < length lines + 1 = omega (arith, length-append first behind) in (
          length first,
          omega (arith, size, within),
          get_or-map-range_with_len f 0 (length lines + 1) (length first) (length first) (concat first) within (omega arith)
              ∙ ap concat (take_at first behind (length first) refl),
        )

-- a line has some octets
pub shown_some : (number : ℕ) (verdict : Result (Unit {0}) Denial) → 0 < length (shown_of number verdict)
unfolding shown_line
shown_some number (Ok x) = omega arith
shown_some number (Err why) = omega arith
