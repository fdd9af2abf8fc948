-- A packet's line, by the versions that it names.
use Rattle.std.proofs.Common.{◌≡◌, ◌<◌, ◌≤◌, ℕ, zero, suc, ◌+◌, Bool, true, false, List, [], ◌∷◌, ◌++◌, length, take, drop, refl, sym, ap, ◌∙◌, subst, arith, le_trans, le_refl}
use Rattle.std.specs.Prelude.{All, ◌^◌, MatchBool, slice_get}
use Rattle.std.proofs.lemmas.Bool.{false≢true}
use Rattle.std.proofs.lemmas.List.{append-nil, take_all}
use Rattle.std.proofs.lemmas.List.Elements.{All-nil, All-cons}
use Rattle.domain_map.specs.address_text.Name.{IsNameText}
use Rattle.label_commands.specs.declared.flow_lines.hop.Hop.{Hop}
use Rattle.shared_tables.specs.Plan.{PlanState}
use Rattle.captures.specs.declared.packet_in.PacketIn.{PacketIn}
use Rattle.label_flow.specs.declared.packet_walk.walked.End.{End}
use Rattle.label_flow.specs.packet_walk.Walk.{Coming, HopVerdict, denied, goes_on, arrives, from_hop, Follows, IsWalk, IsWalkOf, Rises}
use Rattle.label_flow.proofs.packet_walk.Law.{walks_end_in_one_way, walks_are_cut_in_one_way, versions_rise_between_wider_bounds}
use Rattle.label_flow.specs.Pair.{PairState}
use Rattle.call_report.specs.report_file.Versions.{EndsWithVersions, AreVersions}
use Rattle.call_report.specs.report_file.Meeting.{DiffersBehind}
use Rattle.label_audit.specs.declared.walker.PacketPlace.{PacketPlace}
use Rattle.label_audit.specs.inside.Grammar.{last_met}
use Rattle.label_audit.specs.inside.Packet.{line_at, WrittenWalk, IsNoWalk, Fits}
use Rattle.label_audit.proofs.Rows.{last_within, rises_end}
use Rattle.label_audit.proofs.Reading.{rest_of}
use Rattle.label_audit.proofs.Law.{lines_of_packets_name_their_versions}

-- ---- how many versions a walk has

follows_few : (k : ℕ) (octets versions : List ℕ) (end : End) (out : List ℕ) (n : ℕ) (walk : Coming → Type 0) → ((next : Coming) → walk next → length versions ≤ n) → (verdict : HopVerdict) → Follows k octets walk versions end out verdict → length versions ≤ n
follows_few k octets versions end out n walk few (denied why) h = omega (arith, ap length h.0)
follows_few k octets versions end out n walk few (goes_on carrier packet) h = few (from_hop carrier packet) h
follows_few k octets versions end out n walk few (arrives delivered) h = omega (arith, ap length h.0)

walk_few : (plan : PlanState) (k : ℕ) (hops : List Hop) (coming : Coming) (versions : List ℕ) (end : End) (out : List ℕ) → IsWalk plan k hops coming versions end out → length versions ≤ length hops
walk_few plan k [] coming versions end out h = omega (arith, ap length h.0)
walk_few plan k (hop ∷ hops) coming [] end out h = absurd h
walk_few plan k (hop ∷ hops) coming (version ∷ versions) end out h =
    let few = follows_few k _ versions end out (length hops) (λ next. IsWalk plan (k + 1) hops next versions end out) (λ next walk. walk_few plan (k + 1) hops next versions end out walk) _ h.2 in
    omega (arith, few)

few_by : (ip : Bool) (plan : PlanState) (hops : List Hop) (coming : Coming) (versions : List ℕ) (end end' : End) (out out' : List ℕ) → MatchBool ip (IsWalk plan 1 hops coming versions end out) ((versions ≡ []) × (end ≡ end') × (out ≡ out')) → length versions ≤ length hops
few_by true plan hops coming versions end end' out out' h = walk_few plan 1 hops coming versions end out h
few_by false plan hops coming versions end end' out out' h = omega (arith, ap length h.0)

few_versions : (plan : PlanState) (hops : List Hop) (packet : PacketIn) (versions : List ℕ) (end : End) (out : List ℕ) → IsWalkOf plan hops packet versions end out → length versions ≤ length hops
few_versions plan hops packet versions end out h = few_by packet.is_ip plan hops _ versions end _ out _ h

all_within : (low high : ℕ) (versions : List ℕ) → high < 2 ^ 32 → Rises low high versions → All (λ v. v < 2 ^ 32) versions
all_within low high [] few h = All-nil (λ (v : ℕ). v < 2 ^ 32)
all_within low high (v ∷ versions) few h = All-cons (λ (v : ℕ). v < 2 ^ 32) v versions (omega (arith, few, rises_end v high versions h.1)) (all_within v high versions few h.1)

-- ---- a walk under named versions

pub rises_all : (low high seen most : ℕ) (versions : List ℕ) → seen ≤ low → high ≤ most → Rises low high versions → Rises seen most versions
rises_all low high seen most versions a b h = versions_rise_between_wider_bounds low high seen most versions a b h

-- the version behind a walk is the last that was met
pub met_last : (seen now : ℕ) (versions : List ℕ) → Rises seen now versions → ((high : ℕ) → Rises seen high versions → now ≤ high) → now ≡ last_met seen versions
met_last seen now versions rises no_later =
    let up = no_later (last_met seen versions) (rises_exactly seen now versions rises) in
    let down = last_within seen now versions rises in
    omega (arith, up, down)
  where
    rises_exactly : (low high : ℕ) (vs : List ℕ) → Rises low high vs → Rises low (last_met low vs) vs
    rises_exactly low high [] h = le_refl low
    rises_exactly low high (v ∷ vs) h = (h.0, rises_exactly v high vs h.1)

pub too_few : (plan : PlanState) (place : PacketPlace) (packet : PacketIn) (named : List ℕ) → ((count : ℕ) (end : End) (left : List ℕ) → IsWalkOf plan place.flow.now.hops packet (take count named) end left → ⊥) → IsNoWalk plan place packet named
too_few plan place packet named none end octets rises walk =
    none (length named) end octets (subst (λ (vs : List ℕ). IsWalkOf plan place.flow.now.hops packet vs end octets) (sym (take_all (length named) named (le_refl (length named)))) walk)

pub too_many : (plan : PlanState) (place : PacketPlace) (packet : PacketIn) (named : List ℕ) → (count : ℕ) (end' : End) (left : List ℕ) → count < length named → IsWalkOf plan place.flow.now.hops packet (take count named) end' left → IsNoWalk plan place packet named
too_many plan place packet named count end' left less shorter end octets rises walk =
    let same = walks_are_cut_in_one_way plan place.flow.now.hops packet (take count named) named (drop count named) [] end' end left octets (take_drop count named ∙ sym (append-nil named)) shorter walk in
    absurd (omega (arith, less, ap length same, shorter_by count named))
  where
    take_drop : (n : ℕ) (xs : List ℕ) → take n xs ++ drop n xs ≡ xs
    take_drop zero xs = refl
    take_drop (suc n) [] = refl
    take_drop (suc n) (x ∷ xs) = ap (λ t. x ∷ t) (take_drop n xs)

    shorter_by : (n : ℕ) (xs : List ℕ) → length (take n xs) ≤ n
    shorter_by zero xs = omega arith
    shorter_by (suc n) [] = omega arith
    shorter_by (suc n) (x ∷ xs) = omega (arith, shorter_by n xs)

-- ---- what stands first in what is left

module _ (plan : PlanState) (place : PacketPlace) (packet : PacketIn) (left : List ℕ) (hops : length place.flow.now.hops ≤ 16) (names : All IsNameText place.names.now) (few : place.high < 2 ^ 32) where
  fit_ends : (pair : PairState) → Fits plan place packet left pair → EndsWithVersions left pair.walked.versions
  fit_ends pair fits = subst (λ (t : List ℕ). EndsWithVersions t pair.walked.versions) (sym fits.is) (lines_of_packets_name_their_versions place.flow_number place.number place.names.now place.flow.now.hops pair.walked fits.more names)

  fit_versions : (pair : PairState) → Fits plan place packet left pair → AreVersions pair.walked.versions
  fit_versions pair fits = (
    le_trans (few_versions plan place.flow.now.hops packet pair.walked.versions pair.walked.end pair.octets fits.walk) hops,
    all_within place.low place.high pair.walked.versions few fits.rises,
  )

  abbrev pub Each : Bool → List ℕ → Type 0
  Each named versions = (others : List ℕ) → AreVersions others → EndsWithVersions left others → (named ≡ true) × (versions ≡ others)

  pub none_named : (named : Bool) (versions : List ℕ) → named ≡ false → Each named versions → (other : PairState) → Fits plan place packet left other → ⊥
  none_named named versions is each other fits = false≢true (sym is ∙ (each other.walked.versions (fit_versions other fits) (fit_ends other fits)).0)

  pub no_walk_named : (named : Bool) (versions : List ℕ) → Each named versions → IsNoWalk plan place packet versions → (other : PairState) → Fits plan place packet left other → ⊥
  no_walk_named named versions each none other fits =
      let same = (each other.walked.versions (fit_versions other fits) (fit_ends other fits)).1 in
      none other.walked.end other.octets (subst (Rises place.low place.high) (sym same) fits.rises)
      (subst (λ (vs : List ℕ). IsWalkOf plan place.flow.now.hops packet vs other.walked.end other.octets) (sym same) fits.walk)

  module _ (named : Bool) (versions line : List ℕ) (met met' : ℕ) (denied_is : Bool) (each : Each named versions) (w : WrittenWalk plan place packet versions line met met' denied_is) where
    abbrev pub written_pair : PairState
    written_pair = record { walked = w.walked; octets = w.octets }

    pub only_written : (other : PairState) → Fits plan place packet left other → other ≡ written_pair
    only_written other fits =
        let same : versions ≡ other.walked.versions = (each other.walked.versions (fit_versions other fits) (fit_ends other fits)).1 in
        let one : w.walked.versions ≡ other.walked.versions = w.versions ∙ same in
        let there = subst (λ (vs : List ℕ). IsWalkOf plan place.flow.now.hops packet vs other.walked.end other.octets) (sym one) fits.walk in
        let way = walks_end_in_one_way plan place.flow.now.hops packet w.walked.versions other.walked.end w.walked.end other.octets w.octets there w.walk in
        pair_same other.walked.end w.walked.end other.walked.versions w.walked.versions other.octets w.octets way.0 (sym one) way.1
      where
        pair_same : (e e' : End) (vs vs' : List ℕ) (o o' : List ℕ) → e ≡ e' → vs ≡ vs' → o ≡ o' → (let p : PairState = record { walked = record { end = e; versions = vs }; octets = o } in p) ≡ record { walked = record { end = e'; versions = vs' }; octets = o' }
        pair_same e e' vs vs' o o' a b c = rw (a, b, c) refl

    pub line_differs : (lines : ℕ) → DiffersBehind lines left line → (other : PairState) → Fits plan place packet left other → ⊥
    line_differs lines d other fits =
        let same = only_written other fits in
        let is : left ≡ line ++ fits.more = fits.is ∙ ap (λ (p : PairState). line_at place p.walked ++ fits.more) same ∙ ap (λ t. t ++ fits.more) (sym w.line_is) in
        let more : line ++ fits.more ≡ d.front ++ d.octet ∷ (d.more ++ fits.more) = ap (λ t. t ++ fits.more) d.of_text ∙ assoc d.front (d.octet ∷ d.more) fits.more in
        d.other (ap (λ t. slice_get t 0) (rest_of d.front d.behind (d.octet ∷ (d.more ++ fits.more)) (sym d.of_left ∙ is ∙ more)))
      where
        assoc : (xs ys zs : List ℕ) → (xs ++ ys) ++ zs ≡ xs ++ (ys ++ zs)
        assoc [] ys zs = refl
        assoc (x ∷ xs) ys zs = ap (λ t. x ∷ t) (assoc xs ys zs)
