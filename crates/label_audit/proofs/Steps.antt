-- The pieces of a report, one after the other.
use Rattle.std.proofs.Common.{◌≡◌, ◌<◌, ◌⊎◌, inl, inr, ℕ, ◌+◌, ◌%◌, Bool, true, false, cond, nat_eq, List, [], ◌∷◌, ◌++◌, refl, sym, ap, ◌∙◌, subst, arith}
use Rattle.label_commands.specs.declared.flow_lines.flow.FlowLine.{FlowLine}
use Rattle.label_commands.specs.declared.script.Script.{Script}
use Rattle.captures.specs.declared.packet_in.PacketIn.{PacketIn}
use Rattle.label_flow.specs.declared.packet_walk.walked.Walked.{Walked}
use Rattle.label_flow.specs.packet_walk.Walk.{IsWalkOf, Rises}
use Rattle.label_flow.specs.Pair.{PairState}
use Rattle.call_report.specs.Report.{Folder}
use Rattle.call_report.specs.Lines.Flow.{walked_line}
use Rattle.call_report.specs.Lines.Fixed.{done_line}
use Rattle.call_report.specs.report_file.Meeting.{DiffersBehind, lines_in}
use Rattle.label_audit.specs.inside.Awaited.{Awaited, BadBehind, ComesTo}
use Rattle.label_audit.specs.inside.Grammar.{FlowsFrom, PacketsFrom, Site, Then, counted_more, last_met, meets_now}
use Rattle.label_audit.specs.declared.flow.Counted.{Counted}
use Rattle.label_audit.proofs.Fronts.{Whole}
use Rattle.label_audit.proofs.Reading.{Inhabits, OneLine, Opens, OpensWith, differs, rest_of, same_line, stands, stands_none}

-- ---- texts

no_octets : (o : ℕ) (xs : List ℕ) → o ∷ xs ≡ [] → ⊥
no_octets o xs is = absurd cc

not_nothing : (text more : List ℕ) → 0 < lines_in text → text ++ more ≡ [] → ⊥
not_nothing [] more some is = absurd (omega (arith, some))
not_nothing (o ∷ text) more some is = no_octets o (text ++ more) is

module _ (text : List ℕ) (Behind : Awaited) (whole : Whole text) where
  then_up : (all : Bool) (more : List ℕ) → Behind all more → Then text Behind all (text ++ more)
  then_up all more b = (more, refl, b)

  then_down : (all : Bool) (more : List ℕ) → Then text Behind all (text ++ more) → Behind all more
  then_down all more h = subst (Behind all) (sym (rest_of text more h.0 h.1)) h.2

  pub then_stands : (left left' : List ℕ) (lines : ℕ) → left ≡ text ++ left' → ComesTo (Then text Behind) left lines Behind left' (lines + lines_in text)
  then_stands left left' lines is = stands (Then text Behind) Behind left left' text is whole then_up then_down lines

  pub then_some : Inhabits Behind → Inhabits (Then text Behind)
  then_some some = (text ++ some.0, then_up false some.0 some.1)

  pub then_differs : (left : List ℕ) (lines before : ℕ) → DiffersBehind lines left text → Inhabits Behind → BadBehind (Then text Behind) left before (before + lines + 1)
  then_differs left lines before d some =
      let opens : Opens (Then text Behind) text = λ all all_of h. inr (h.0, h.1) in
      differs (Then text Behind) left text lines d (some.0, then_up false some.0 some.1) opens before

  -- the same where nothing may stand in its place
  abbrev pub OrNothing : Bool → List ℕ → Type 0
  OrNothing all text' = ((all ≡ false) × (text' ≡ [])) ⊎ Then text Behind all text'

  pub or_stands : 0 < lines_in text → (left left' : List ℕ) (lines : ℕ) → left ≡ text ++ left' → ComesTo OrNothing left lines Behind left' (lines + lines_in text)
  or_stands some left left' lines is = stands OrNothing Behind left left' text is whole (λ all more b. inr (then_up all more b)) down lines where
    down : (all : Bool) (more : List ℕ) → OrNothing all (text ++ more) → Behind all more
    down all more (inl none) = absurd (not_nothing text more some none.1)
    down all more (inr h) = then_down all more h

  pub or_differs : (left : List ℕ) (lines before : ℕ) → DiffersBehind lines left text → Inhabits Behind → BadBehind OrNothing left before (before + lines + 1)
  or_differs left lines before d some = differs OrNothing left text lines d (some.0, inr (then_up false some.0 some.1)) opens before where
    opens : Opens OrNothing text
    opens all all_of (inl none) = inl none
    opens all all_of (inr h) = inr (h.0, h.1)

-- ---- packets

-- what is met, place by place
pub packets_same : (site : Site) (Behind : Counted → Awaited) (count : Counted) (met met' : ℕ → ℕ) (packets : List PacketIn) (all : Bool) (text : List ℕ) → ((k : ℕ) → met k ≡ met' k) → PacketsFrom site Behind count met packets all text
    → PacketsFrom site Behind count met' packets all text
packets_same site Behind count met met' [] all text same from = from
packets_same site Behind count met met' (packet ∷ packets) all text same (inl stop) = inl stop
packets_same site Behind count met met' (packet ∷ packets) all text same (inr one) =
    let worker = count.packets % site.workers in
    let pair = one.0 in
    let versions = pair.walked.versions in
    let last : last_met (met worker) versions ≡ last_met (met' worker) versions = ap (λ (m : ℕ). last_met m versions) (same worker) in
    let behind : (k : ℕ) → meets_now met worker (last_met (met worker) versions) k ≡ meets_now met' worker (last_met (met' worker) versions) k = λ k.
    elim (nat_eq worker k) as (λ mine. cond mine (last_met (met worker) versions) (met k) ≡ cond mine (last_met (met' worker) versions) (met' k)) [ true ↦ last | false ↦ same k ] in
    inr (
      pair,
      one.1,
      one.2,
      subst (λ (m : ℕ). Rises m site.after versions) (same worker) one.3,
      one.4,
      packets_same site Behind (counted_more count pair) (meets_now met worker (last_met (met worker) versions)) (meets_now met' worker (last_met (met' worker) versions)) packets all one.1 behind one.5,
    )

module _ (site : Site) (Behind : Counted → Awaited) (count : Counted) (met : ℕ → ℕ) (packet : PacketIn) (packets : List PacketIn) (one_line : (walked : Walked) → OneLine (walked_line site.number (count.packets + 1) site.names site.hops walked)) where
  abbrev worker : ℕ
  worker = count.packets % site.workers

  abbrev line : PairState → List ℕ
  line pair = walked_line site.number (count.packets + 1) site.names site.hops pair.walked

  -- what may become of the packet
  pub record May (pair : PairState) : Type 0 where
    pub walk : IsWalkOf site.plan site.hops packet pair.walked.versions pair.walked.end pair.octets
    pub rises : Rises (met worker) site.after pair.walked.versions

  abbrev pub Here : Bool → List ℕ → Type 0
  Here = PacketsFrom site Behind count met (packet ∷ packets)

  abbrev pub Next : PairState → Bool → List ℕ → Type 0
  Next pair = PacketsFrom site Behind (counted_more count pair) (meets_now met worker (last_met (met worker) pair.walked.versions)) packets

  pub packet_stands : (pair : PairState) (left left' : List ℕ) (lines : ℕ) → May pair → ((other : PairState) → May other → (more : List ℕ) → left ≡ line other ++ more → other ≡ pair) → left ≡ line pair ++ left'
      → ComesTo Here left lines (Next pair) left' (lines + 1)
  packet_stands pair left left' lines may only is =
      let one = one_line pair.walked in
      subst (λ (n : ℕ). ComesTo Here left lines (Next pair) left' n) (ap (λ (n : ℕ). lines + n) one.one)
      (stands Here (Next pair) left left' (line pair) is one.whole (λ all more from. inr (pair, more, may.walk, may.rises, refl, from)) down lines)
    where
      by_other : (all : Bool) (more : List ℕ) (other : PairState) (rest : List ℕ) → IsWalkOf site.plan site.hops packet other.walked.versions other.walked.end other.octets → Rises (met worker) site.after other.walked.versions
          → line pair ++ more ≡ line other ++ rest → Next other all rest → Next pair all more
      by_other all more other rest walk rises same from =
          let both = same_line (line pair) (line other) more rest (one_line pair.walked) (one_line other.walked) same in
          let is_other = only other (record { walk = walk; rises = rises }) left' (is ∙ ap (λ t. t ++ left') both.0) in
          subst (Next pair all) (sym both.1) (subst (λ (p : PairState). Next p all rest) is_other from)

      down : (all : Bool) (more : List ℕ) → Here all (line pair ++ more) → Next pair all more
      down all more (inl none) = absurd (not_nothing (line pair) more (let one = one_line pair.walked in omega (arith, one.one)) none.1)
      down all more (inr h) = by_other all more h.0 h.1 h.2 h.3 h.4 h.5

  -- a line of the packet
  abbrev MayBeLine : List ℕ → Type 0
  MayBeLine text = (pair : PairState) × May pair × (text ≡ line pair)

  opens_with : OpensWith Here MayBeLine
  opens_with all whole (inl stop) = inl stop
  opens_with all whole (inr h) = inr (line h.0, h.1, one_line h.0.walked, (h.0, record { walk = h.2; rises = h.3 }, refl), h.4)

  pub packet_fails : (left : List ℕ) (lines : ℕ) → ((other : PairState) → May other → (more : List ℕ) → left ≡ line other ++ more → ⊥) → BadBehind Here left lines (lines + 1)
  packet_fails left lines none =
      stands_none Here left MayBeLine (inl (refl, refl)) opens_with (λ one more is_one may is. none may.0 may.1 more (is ∙ ap (λ t. t ++ more) may.2)) lines

-- ---- something may always be printed

pub flows_some : (script : Script) (w : ℕ) (held : Folder) (number most : ℕ) (flows : List FlowLine) → Inhabits (FlowsFrom script w held number most flows)
flows_some script w held number most [] = (done_line, refl)
flows_some script w held number most (flow ∷ flows) = ([], inl (refl, refl))

pub packets_some : (site : Site) (Behind : Counted → Awaited) (count : Counted) (met : ℕ → ℕ) (packets : List PacketIn) → Inhabits (Behind count) → Inhabits (PacketsFrom site Behind count met packets)
packets_some site Behind count met [] some = some
packets_some site Behind count met (packet ∷ packets) some = ([], inl (refl, refl))
