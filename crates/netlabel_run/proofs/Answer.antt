-- What is read of octets, and so a verdict and the lines of frames, are there and one alone.
use Rattle.std.proofs.Common.{◌≡◌, ℕ, suc, ◌+◌, Bool, true, false, List, [], ◌∷◌, ◌++◌, length, Result, refl, sym, ap, subst, ◌∙◌, append_assoc, arith, ◌<◌}
use Rattle.std.specs.Prelude.{MatchBool, codes}
use Rattle.std.specs.List.{concat}
use Rattle.mls_label.specs.declared.label.Label.{Label}
use Rattle.ip_headers.specs.Packet.{ParsedPacket}
use Rattle.packet_label.specs.declared.fault.CarryFault.{CarryFault}
use Rattle.packet_label.specs.declared.packet.Wire.{Wire}
use Rattle.packet_label.specs.Written.{IsReadAs}
use Rattle.packet_label.proofs.Law.{octets_are_a_packet_or_have_one_fault}
use Rattle.captures.specs.declared.packet_in.PacketIn.{PacketIn}
use Rattle.captures.specs.Frame.{CapturedFrame, packet_in}
use Rattle.label_receive.proofs.Law.{verdicts_are_determined}
use Rattle.netlabel_run.specs.Judge.{judge_rule, IsVerdict}
use Rattle.call_report.specs.Lines.Denial.{Verdict}
use Rattle.call_report.specs.Lines.Packet.{packet_text, shown_line, IsShown}
use Rattle.netlabel_run.specs.Show.{AreShown}

-- ---- verdicts

pub verdict_once : (doi : ℕ) (level : Label) (octets : List ℕ) (v w : Verdict) → IsVerdict doi level octets v → IsVerdict doi level octets w → v ≡ w
verdict_once doi level octets v w a b = verdicts_are_determined octets (judge_rule doi level) v w a b

-- ---- lines of frames

abbrev IsShownBy : Bool → List ℕ → List ℕ → Type 0
IsShownBy is_ip bytes text = MatchBool is_ip ((answer : Result (ParsedPacket Wire) CarryFault) × IsReadAs bytes answer × (text ≡ packet_text answer)) (text ≡ codes "NotIp")

some_text : (is_ip : Bool) (bytes : List ℕ) → (text : List ℕ) × IsShownBy is_ip bytes text
some_text true bytes = let a = (octets_are_a_packet_or_have_one_fault bytes).some in (packet_text a.0, (a.0, a.1, refl))
some_text false bytes = (codes "NotIp", refl)

text_once : (is_ip : Bool) (bytes s t : List ℕ) → IsShownBy is_ip bytes s → IsShownBy is_ip bytes t → s ≡ t
text_once true bytes s t a b = a.2 ∙ ap packet_text ((octets_are_a_packet_or_have_one_fault bytes).one a.0 b.0 a.1 b.1) ∙ sym b.2
text_once false bytes s t a b = a ∙ sym b

pub shown_text : (packet : PacketIn) → (text : List ℕ) × IsShown packet text
shown_text packet = some_text packet.is_ip packet.bytes

pub line_some : (number : ℕ) (text : List ℕ) → 0 < length (shown_line number text)
unfolding shown_line
line_some number text = omega arith

pub some_lines : (number : ℕ) (frames : List CapturedFrame) → (lines : List (List ℕ)) × AreShown number frames lines
some_lines number [] = ([], tt)
some_lines number (frame ∷ frames) =
    let text = shown_text (packet_in frame) in
    let rest = some_lines (number + 1) frames in
    (shown_line number text.0 ∷ rest.0, (text.0, text.1, refl, rest.1))

pub lines_once : (number : ℕ) (frames : List CapturedFrame) (xs ys : List (List ℕ)) → AreShown number frames xs → AreShown number frames ys → xs ≡ ys
lines_once number [] [] [] a b = refl
lines_once number [] [] (y ∷ ys) a b = absurd b
lines_once number [] (x ∷ xs) ys a b = absurd a
lines_once number (frame ∷ frames) [] ys a b = absurd a
lines_once number (frame ∷ frames) (x ∷ xs) [] a b = absurd b
lines_once number (frame ∷ frames) (x ∷ xs) (y ∷ ys) a b =
    let packet = packet_in frame in
    let text : a.0 ≡ b.0 = text_once packet.is_ip packet.bytes a.0 b.0 a.1 b.1 in
    let first : x ≡ y = a.2 ∙ ap (shown_line number) text ∙ sym b.2 in
    λ i. first i ∷ lines_once (number + 1) frames xs ys a.3 b.3 i

pub lines_count : (number : ℕ) (frames : List CapturedFrame) (lines : List (List ℕ)) → AreShown number frames lines → length lines ≡ length frames
lines_count number [] [] are = refl
lines_count number [] (line ∷ lines) are = absurd are
lines_count number (frame ∷ frames) [] are = absurd are
lines_count number (frame ∷ frames) (line ∷ lines) are = ap suc (lines_count (number + 1) frames lines are.3)

pub lines_join : (number : ℕ) (xs ys : List CapturedFrame) (ls ms : List (List ℕ)) → AreShown number xs ls → AreShown (number + length xs) ys ms → AreShown number (xs ++ ys) (ls ++ ms)
lines_join number [] ys [] ms first second = let same : number + 0 ≡ number = omega arith in subst (λ (n : ℕ). AreShown n ys ms) same second
lines_join number [] ys (l ∷ ls) ms first second = absurd first
lines_join number (x ∷ xs) ys [] ms first second = absurd first
lines_join number (x ∷ xs) ys (l ∷ ls) ms first second =
    let same : number + suc (length xs) ≡ number + 1 + length xs = omega arith in
    (first.0, first.1, first.2, lines_join (number + 1) xs ys ls ms first.3 (subst (λ (n : ℕ). AreShown n ys ms) same second))

pub concat-append : (xs ys : List (List ℕ)) → concat (xs ++ ys) ≡ concat xs ++ concat ys
concat-append [] ys = refl
concat-append (x ∷ xs) ys = ap (λ t. x ++ t) (concat-append xs ys) ∙ sym (append_assoc x (concat xs) (concat ys))
