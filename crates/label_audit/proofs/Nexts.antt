-- One packet more of a flow.
use Rattle.std.proofs.Common.{◌≡◌, ◌≢◌, ◌<◌, ◌≤◌, ℕ, zero, suc, ◌+◌, ◌%◌, Bool, true, false, cond, nat_eq, List, [], ◌∷◌, ◌++◌, length, drop, Option, Some, refl, sym, ap, ◌∙◌, subst, arith, max}
use Rattle.std.specs.Prelude.{All, slice_get, slice_set, if◌then◌else◌}
use Rattle.std.specs.Option.{option_map_or}
use Rattle.std.proofs.lemmas.Bool.Decides.{nat_tests}
use Rattle.domain_map.specs.address_text.Name.{IsNameText}
use Rattle.label_commands.specs.declared.flow_lines.flow.FlowLine.{FlowLine}
use Rattle.label_commands.specs.declared.script.Script.{Script}
use Rattle.label_commands.specs.Script.{before}
use Rattle.shared_tables.specs.Plan.{PlanState}
use Rattle.captures.specs.declared.packet_in.PacketIn.{PacketIn}
use Rattle.label_flow.specs.declared.packet_walk.walked.Walked.{Walked}
use Rattle.label_flow.specs.packet_walk.Stepping.{TablesAt}
use Rattle.label_flow.specs.packet_walk.Walk.{IsWalkOf, Rises}
use Rattle.label_flow.specs.Pair.{PairState}
use Rattle.call_report.specs.Report.{Folder}
use Rattle.call_report.specs.Lines.Flow.{walked_line}
use Rattle.label_flow.specs.flow_access.Valid.{plan_of}
use Rattle.label_audit.specs.declared.flow.Counted.{Counted}
use Rattle.label_audit.specs.declared.place.Place.{Place}
use Rattle.label_audit.specs.declared.walker.PacketPlace.{PacketPlace}
use Rattle.label_audit.specs.inside.Awaited.{Awaited, GoodFrom, BadBehind, ComesTo}
use Rattle.label_audit.specs.inside.Grammar.{last_met, meets_now, counted_more, PacketsFrom, site_of}
use Rattle.label_audit.specs.inside.Reading.{IsJudgedTo}
use Rattle.label_audit.specs.inside.Packet.{line_at, Fits, PacketRead}
use Rattle.label_audit.specs.inside.Flow.{met_by, behind_flow, packets_awaited}
use Rattle.label_audit.proofs.Reading.{OneLine, comes_on}
use Rattle.label_audit.proofs.Steps.{May, packet_stands, packet_fails, packets_same}
use Rattle.label_audit.proofs.Wholes.{packet_line}

-- ---- the same awaited in other words

good_same : (may may' : Awaited) (left : List ℕ) (k : ℕ) → ((text : List ℕ) → may false text → may' false text) → GoodFrom may left k → GoodFrom may' left k
good_same may may' left k same g = record { front = g.front; first = g.first; more = g.more; printed = same (g.front ++ g.more) g.printed }

pub same_awaited : (may may' : Awaited) (left : List ℕ) (lines : ℕ) → ((all : Bool) (text : List ℕ) → may' all text → may all text) → ((all : Bool) (text : List ℕ) → may all text → may' all text) → ComesTo may left lines may' left lines
same_awaited may may' left lines up down = record {
  yes = λ all. up true left all;
  no = λ l b. record {
    here = b.here;
    is = b.is;
    bad = record {
      some = b.bad.some;
      before = λ k less. good_same may' may left k (up false) (b.bad.before k less);
      bad = λ g. b.bad.bad (good_same may may' left b.here (down false) g);
      other = λ all. b.bad.other (down true left all);
    };
  };
}

-- ---- what the workers have met

last_later : (v : ℕ) (vs : List ℕ) (high : ℕ) → Rises v high vs → v ≤ last_met v vs
last_later v [] high h = omega arith
last_later v (w ∷ vs) high h = omega (arith, h.0, last_later w vs high h.1)

max_met : (low seen high : ℕ) (versions : List ℕ) → Rises (max low seen) high versions → max low (last_met seen versions) ≡ last_met (max low seen) versions
max_met low seen high [] h = refl
max_met low seen high (v ∷ versions) h = let later = last_later v versions high h.1 in omega (arith, h.0, later)

met_at : (low : ℕ) (tables : List TablesAt) (k : ℕ) (t : TablesAt) → slice_get tables k ≡ Some t → met_by low tables k ≡ max low t.version
met_at low tables k t at = ap (λ (o : Option TablesAt). option_map_or (λ (t : TablesAt). max low t.version) o low) at

module _ (low : ℕ) (tables tables' : List TablesAt) (worker high : ℕ) (t t' : TablesAt) (versions : List ℕ) (at : slice_get tables worker ≡ Some t) (at' : slice_get tables' worker ≡ Some t')
    (others : (k : ℕ) → worker ≢ k → slice_get tables' k ≡ slice_get tables k) (rises : Rises (max low t.version) high versions) (last : t'.version ≡ last_met t.version versions) where
  met_by_case : (k : ℕ) (mine : Bool) → nat_eq worker k ≡ mine → cond mine (last_met (met_by low tables worker) versions) (met_by low tables k) ≡ met_by low tables' k
  met_by_case k true is =
      let same : worker ≡ k = grind (arith, nat_tests) in
      ap (λ (m : ℕ). last_met m versions) (met_at low tables worker t at) ∙ sym (max_met low t.version high versions rises) ∙ ap (max low) (sym last)
      ∙ sym (met_at low tables' worker t' at') ∙ ap (met_by low tables') same
  met_by_case k false is =
      let other : worker ≢ k = λ (e : worker ≡ k). absurd (let no : nat_eq worker k ≡ true = grind (arith, nat_tests) in let clash : false ≡ true = sym is ∙ no in cc) in
      ap (λ (o : Option TablesAt). option_map_or (λ (t : TablesAt). max low t.version) o low) (sym (others k other))

  pub met_then : (k : ℕ) → meets_now (met_by low tables) worker (last_met (met_by low tables worker) versions) k ≡ met_by low tables' k
  met_then k = met_by_case k (nat_eq worker k) refl

-- ---- one place of a list

pub set_here : {X : Type 0} (xs : List X) (i : ℕ) (x : X) → i < length xs → slice_get (slice_set xs i x) i ≡ Some x
set_here [] i x within = absurd (omega (arith, within))
set_here (y ∷ xs) zero x within = refl
set_here (y ∷ xs) (suc i) x within = set_here xs i x (omega (arith, within))

pub set_there : {X : Type 0} (xs : List X) (i k : ℕ) (x : X) → i ≢ k → slice_get (slice_set xs i x) k ≡ slice_get xs k
set_there [] i k x other = refl
set_there (y ∷ xs) zero zero x other = absurd (other refl)
set_there (y ∷ xs) zero (suc k) x other = refl
set_there (y ∷ xs) (suc i) zero x other = refl
set_there (y ∷ xs) (suc i) (suc k) x other = set_there xs i k x (λ same. other (ap suc same))

-- ---- one packet

module _ (script : Script) (w : ℕ) (held : Folder) (flow most : ℕ) (line : FlowLine) (flows : List FlowLine) (count : Counted) (tables : List TablesAt) (packet : PacketIn) (packets : List PacketIn) (names : All IsNameText script.nodes)
    (place : PacketPlace) (t : TablesAt) (at : slice_get tables (count.packets % w) ≡ Some t) (plan : t.plan ≡ plan_of script) (named : place.names.now ≡ script.nodes) (of_flow : place.flow.now ≡ line)
    (numbered : place.flow_number ≡ flow + 1) (number : place.number ≡ count.packets + 1) (low : place.low ≡ max line.before t.version) (high : place.high ≡ before script (flow + 1)) where
  abbrev Behind : Counted → Awaited
  Behind = behind_flow script w held flow most line flows

  abbrev met : ℕ → ℕ
  met = met_by line.before tables

  abbrev Awaits : List PacketIn → Bool → List ℕ → Type 0
  Awaits = packets_awaited script w held flow most line flows count tables

  one_line : (walked : Walked) → OneLine (walked_line (flow + 1) (count.packets + 1) script.nodes line.hops walked)
  one_line walked = packet_line (flow + 1) (count.packets + 1) script.nodes line.hops walked names

  line_same : (walked : Walked) → line_at place walked ≡ walked_line (flow + 1) (count.packets + 1) script.nodes line.hops walked
  line_same walked = rw (named, of_flow, numbered, number) refl

  met_low : met (count.packets % w) ≡ place.low
  met_low = met_at line.before tables (count.packets % w) t at ∙ sym low

  abbrev MayBe : PairState → Type 0
  MayBe = May (site_of script w (flow + 1) line) Behind count met packet packets one_line

  fits_of : (left : List ℕ) (pair : PairState) → MayBe pair → (more : List ℕ) → left ≡ walked_line (flow + 1) (count.packets + 1) script.nodes line.hops pair.walked ++ more → Fits t.plan place packet left pair
  fits_of left pair may more is = record {
    walk = subst (λ (f : FlowLine). IsWalkOf t.plan f.hops packet pair.walked.versions pair.walked.end pair.octets) (sym of_flow)
        (subst (λ (p : PlanState). IsWalkOf p line.hops packet pair.walked.versions pair.walked.end pair.octets) (sym plan) may.walk);
    rises = subst (λ (h : ℕ). Rises place.low h pair.walked.versions) (sym high) (subst (λ (l : ℕ). Rises l (before script (flow + 1)) pair.walked.versions) met_low may.rises);
    more = more;
    is = is ∙ ap (λ s. s ++ more) (sym (line_same pair.walked));
  }

  pub next_fails : (file : List ℕ) (old new new' : Place) → (new ≡ old) → ((other : PairState) → Fits t.plan place packet (drop old.at file) other → ⊥) → new'.lines ≡ new.lines + 1
      → BadBehind (Awaits (packet ∷ packets)) (drop old.at file) old.lines new'.lines
  next_fails file old new new' same none lines =
      let fails = packet_fails (site_of script w (flow + 1) line) Behind count met packet packets one_line (drop old.at file) old.lines (λ other may more is. none other (fits_of (drop old.at file) other may more is)) in
      let is : old.lines + 1 ≡ new'.lines = ap (λ (p : Place). p.lines + 1) (sym same) ∙ sym lines in
      subst (λ (n : ℕ). BadBehind (Awaits (packet ∷ packets)) (drop old.at file) old.lines n) is fails

  pub next_stands : (file : List ℕ) (old new : Place) (t' : TablesAt) (denied : Bool) (tables' : List TablesAt) (count' : Counted) → PacketRead t.plan place packet file old new t.version t'.version denied
      → slice_get tables' (count.packets % w) ≡ Some t' → ((k : ℕ) → (count.packets % w) ≢ k → slice_get tables' k ≡ slice_get tables k)
      → count'.packets ≡ count.packets + 1 → count'.passed ≡ count.passed + (if denied then 0 else 1) → count'.denied ≡ count.denied + (if denied then 1 else 0)
      → IsJudgedTo (Awaits (packet ∷ packets)) (packets_awaited script w held flow most line flows count' tables' packets) file old new true
  next_stands file old new t' denied tables' count' r at' others a b c =
      let site = site_of script w (flow + 1) line in
      let left = drop old.at file in
      let left' = drop new.at file in
      let pair = r.pair in
      let versions = pair.walked.versions in
      let met' = meets_now met (count.packets % w) (last_met (met (count.packets % w)) versions) in
      let may : MayBe pair = record {
        walk = subst (λ (p : PlanState). IsWalkOf p line.hops packet versions pair.walked.end pair.octets) plan (subst (λ (f : FlowLine). IsWalkOf t.plan f.hops packet versions pair.walked.end pair.octets) of_flow r.walk);
        rises = subst (λ (l : ℕ). Rises l (before script (flow + 1)) versions) (sym met_low) (subst (λ (h : ℕ). Rises place.low h versions) high r.rises);
      } in
      let stands = packet_stands site Behind count met packet packets one_line pair left left' old.lines may (λ other m more is. r.only other (fits_of left other m more is)) (r.is ∙ ap (λ s. s ++ left') (line_same pair.walked)) in
      let counts : counted_more count pair ≡ count' = counts_same (counted_more count pair) count' (sym a)
      (ap (λ (d : Bool). count.passed + (if d then 0 else 1)) (sym r.denied_is) ∙ sym b) (ap (λ (d : Bool). count.denied + (if d then 1 else 0)) (sym r.denied_is) ∙ sym c) in
      let rises_low : Rises (max line.before t.version) place.high versions = subst (λ (l : ℕ). Rises l place.high versions) low r.rises in
      let same = met_then line.before tables tables' (count.packets % w) place.high t t' versions at at' others rises_low r.met_is in
      let Mid : ℕ → Counted → Bool → List ℕ → Type 0 = λ n k. PacketsFrom site Behind k met' packets in
      let turn = same_awaited (PacketsFrom site Behind (counted_more count pair) met' packets) (packets_awaited script w held flow most line flows count' tables' packets) left' (old.lines + 1)
      (λ all text from. subst (λ (k : Counted). PacketsFrom site Behind k met' packets all text) (sym counts) (packets_same site Behind count' (met_by line.before tables') met' packets all text (λ k. sym (same k)) from))
      (λ all text from. packets_same site Behind count' met' (met_by line.before tables') packets all text same (subst (λ (k : Counted). PacketsFrom site Behind k met' packets all text) counts from)) in
      let all = comes_on (Awaits (packet ∷ packets)) (PacketsFrom site Behind (counted_more count pair) met' packets) (packets_awaited script w held flow most line flows count' tables' packets) left left' left' old.lines (old.lines + 1) (old.lines + 1) stands turn in
      (subst (λ (n : ℕ). ComesTo (Awaits (packet ∷ packets)) left old.lines (packets_awaited script w held flow most line flows count' tables' packets) left' n) (sym r.lines) all, r.stands)
    where
      counts_same : (x y : Counted) → x.packets ≡ y.packets → x.passed ≡ y.passed → x.denied ≡ y.denied → x ≡ y
      counts_same x y a b c = by x.packets y.packets x.passed y.passed x.denied y.denied a b c
        where
          by : (p p' q q' r r' : ℕ) → p ≡ p' → q ≡ q' → r ≡ r' → (let c : Counted = record { packets = p; passed = q; denied = r } in c) ≡ record { packets = p'; passed = q'; denied = r' }
          by p p' q q' r r' x y z = rw (x, y, z) refl
