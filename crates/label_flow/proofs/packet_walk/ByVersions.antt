-- Walks under versions that are named: whatever walk there is under some of the first of them, it goes on so behind the hops that judged.
use Rattle.std.proofs.Common.{◌≡◌, ℕ, ◌+◌, ◌<◌, ◌≤◌, nat_lt, if◌then◌else◌, Bool, true, false, List, [], ◌∷◌, ◌++◌, length, take, drop, get_or, arith, Result, Ok, Err, refl, sym, ap, ◌∙◌, subst, le_refl, le_trans}
use Rattle.std.proofs.Math.ListN.{drop_of_length-le}
use Rattle.std.proofs.lemmas.List.{take_all, take_more, length-take, length-drop, get_or-take}
use Rattle.std.proofs.lemmas.Bool.{ltb-true, ltb-false}
use Rattle.ip_headers.specs.Packet.{ParsedPacket}
use Rattle.packet_label.specs.declared.denial.Carrier.{Carrier}
use Rattle.packet_label.specs.declared.denial.Carrier.TheVariants.{Unlabelled}
use Rattle.packet_label.specs.declared.fault.CarryFault.{CarryFault}
use Rattle.packet_label.specs.declared.packet.Wire.{Wire}
use Rattle.packet_label.specs.Written.{IsReadAs}
use Rattle.mls_label.specs.declared.label.Label.{Label}
use Rattle.label_commands.specs.declared.flow_lines.hop.Hop.{Hop}
use Rattle.shared_tables.specs.Plan.{PlanState, network_after}
use Rattle.label_flow.specs.declared.packet_walk.hop.Given.TheVariants.{Goes}
use Rattle.label_flow.specs.declared.packet_walk.stop.VersionsStop.{VersionsStop}
use Rattle.label_flow.specs.declared.packet_walk.stop.VersionsStop.TheVariants.{TooMany}
use Rattle.label_flow.specs.declared.packet_walk.walked.End.{End}
use Rattle.label_flow.specs.packet_walk.Walk.{Coming, from_outside, from_hop, octets_in, HopVerdict, goes_on, hop_verdict, Follows, IsWalk, Rises}
use Rattle.label_flow.specs.packet_walk.inside.Hop.{AnsweredOf}
use Rattle.label_flow.specs.packet_walk.inside.Way.{Comes, HasWalked}
use Rattle.label_flow.specs.packet_walk.inside.Named.{told_of, IsToldOf}
use Rattle.label_flow.proofs.packet_walk.OneWay.{read_once}
use Rattle.label_flow.proofs.packet_walk.Walks.{place_at}

-- Behind the hops in front of place `at` a packet comes so, and each walk under the first of the named versions goes on from there under those
-- behind.
pub record ComesBack (plan : PlanState) (hops : List Hop) (packet named : List ℕ) (at : ℕ) (carrier : Carrier) (octets : List ℕ) : Type 0 where
  pub coming : Coming
  pub comes : Comes coming carrier octets
  pub back : (count : ℕ) (end : End) (left : List ℕ) → IsWalk plan 1 hops (from_outside packet) (take count named) end left
      → IsWalk plan (at + 1) (drop at hops) coming (drop at (take count named)) end left

pub back_first : (plan : PlanState) (hops : List Hop) (packet named : List ℕ) → ComesBack plan hops packet named 0 Unlabelled packet
back_first plan hops packet named = record {
  coming = from_outside packet;
  comes = record { carrier_is = refl; octets_are = refl; reads = λ read is. is };
  back = λ count end left walk. walk;
}

-- a walk over a hop that wrote a packet goes on with that
went_on : (plan : PlanState) (k : ℕ) (hop : Hop) (hops : List Hop) (coming : Coming) (carrier : Carrier) (octets : List ℕ) (version : ℕ) (versions : List ℕ) (end : End) (left : List ℕ)
    (read : Result (ParsedPacket Wire) CarryFault) (next : Carrier) (packet : ParsedPacket Wire) → Comes coming carrier octets → IsReadAs octets read → hop_verdict (network_after plan version) hop octets read ≡ goes_on next packet
    → IsWalk plan k (hop ∷ hops) coming (version ∷ versions) end left → IsWalk plan (k + 1) hops (from_hop next packet) versions end left
went_on plan k hop hops coming carrier octets version versions end left read next packet comes reads is walk =
    let Then : HopVerdict → Type 0 = λ verdict. Follows k (octets_in coming) (λ c. IsWalk plan (k + 1) hops c versions end left) versions end left verdict in
    let one : walk.0 ≡ read = read_once coming walk.0 read walk.1 (comes.reads read reads) in
    let here : Then (hop_verdict (network_after plan version) hop (octets_in coming) read) = subst (λ r. Then (hop_verdict (network_after plan version) hop (octets_in coming) r)) one walk.2 in
    let same : hop_verdict (network_after plan version) hop (octets_in coming) read ≡ goes_on next packet =
    ap (λ os. hop_verdict (network_after plan version) hop os read) (sym comes.octets_are) ∙ is in
    subst Then same here

within_taken : (count at : ℕ) (named : List ℕ) → at < length (take count named) → (at < count) × (at < length named)
within_taken count at named within = (omega (arith, within, length-take count named), omega (arith, within, length-take count named))

module _ (plan : PlanState) (hops : List Hop) (packet named : List ℕ) (at : ℕ) (carrier : Carrier) (octets : List ℕ) (b : ComesBack plan hops packet named at carrier octets)
    (hop : Hop) (in_hops : at < length hops) (hop_is : hop ≡ get_or hops at hop) where
  -- under the first of the versions, where one of them is left for the hop here, or none
  goes_by : (count version : ℕ) (read : Result (ParsedPacket Wire) CarryFault) (next : Carrier) (written : ParsedPacket Wire) (end : End) (left : List ℕ) → version ≡ get_or named at version → IsReadAs octets read
      → hop_verdict (network_after plan version) hop octets read ≡ goes_on next written → (is_left : Bool) → nat_lt at (length (take count named)) ≡ is_left → IsWalk plan (at + 1) (drop at hops) b.coming (drop at (take count named)) end left
      → IsWalk plan (at + 1 + 1) (drop (at + 1) hops) (from_hop next written) (drop (at + 1) (take count named)) end left
  goes_by count version read next written end left version_is reads is true some walk =
      let within = ltb-true at (length (take count named)) some in
      let here : version ≡ get_or (take count named) at version = version_is ∙ sym (get_or-take count named at version (within_taken count at named within).0) in
      went_on plan (at + 1) hop (drop (at + 1) hops) b.coming carrier octets version (drop (at + 1) (take count named)) end left read next written b.comes reads is
      (subst (λ (vs : List ℕ). IsWalk plan (at + 1) (hop ∷ drop (at + 1) hops) b.coming vs end left) (place_at (take count named) at version within here)
      (subst (λ (hs : List Hop). IsWalk plan (at + 1) hs b.coming (drop at (take count named)) end left) (place_at hops at hop in_hops hop_is) walk))
  goes_by count version read next written end left version_is reads is false none walk =
      let no : length (take count named) ≤ at = ltb-false at (length (take count named)) none in
      absurd (subst (λ (vs : List ℕ). IsWalk plan (at + 1) (hop ∷ drop (at + 1) hops) b.coming vs end left) (drop_of_length-le (take count named) no)
      (subst (λ (hs : List Hop). IsWalk plan (at + 1) hs b.coming (drop at (take count named)) end left) (place_at hops at hop in_hops hop_is) walk))

  -- a packet that goes on comes to the next hop
  pub back_more : (version : ℕ) (next : Carrier) (label : Label) (out : List ℕ) → version ≡ get_or named at version → AnsweredOf octets (hop_verdict (network_after plan version) hop octets) (Goes next) label out
      → ComesBack plan hops packet named (at + 1) next out
  back_more version next label out version_is given =
      let answered = given.answered in record {
        coming = from_hop next answered.0;
        comes = record { carrier_is = refl; octets_are = answered.2; reads = λ read is. answered.3 read (subst (λ (os : List ℕ). IsReadAs os read) answered.2 is) };
        back = λ count end left walk. goes_by count version given.read next answered.0 end left version_is given.reads answered.1 (nat_lt at (length (take count named))) refl (b.back count end left walk);
      }

-- a hop that is left judges under a version
no_version_left : (plan : PlanState) (k : ℕ) (hops : List Hop) (coming : Coming) (end : End) (left : List ℕ) → 0 < length hops → IsWalk plan k hops coming [] end left → ⊥
no_version_left plan k [] coming end left some walk = absurd (omega (arith, some))
no_version_left plan k (hop ∷ hops) coming end left some walk = walk

-- at a hop for which no version is named there is no walk under any of the first of them
pub too_few : (plan : PlanState) (hops : List Hop) (packet named : List ℕ) (at : ℕ) (carrier : Carrier) (octets : List ℕ) → ComesBack plan hops packet named at carrier octets → at < length hops → length named ≤ at
    → (count : ℕ) (end : End) (left : List ℕ) → IsWalk plan 1 hops (from_outside packet) (take count named) end left → ⊥
too_few plan hops packet named at carrier octets b in_hops out_of count end left walk =
    let none : length (take count named) ≤ at = omega (arith, out_of, length-take count named) in
    no_version_left plan (at + 1) (drop at hops) b.coming end left (omega (arith, in_hops, length-drop at hops))
    (subst (λ (vs : List ℕ). IsWalk plan (at + 1) (drop at hops) b.coming vs end left) (drop_of_length-le (take count named) none) (b.back count end left walk))

-- The packet ended behind so many hops, so these versions are those of its walk, or more are named.
told_by : (more : Bool) (plan : PlanState) (hops : List Hop) (packet : List ℕ) (began now : ℕ) (named judged : List ℕ) (count : ℕ) (end : End) (left : List ℕ) → nat_lt count (length named) ≡ more → count ≤ length named
    → HasWalked plan 1 hops Unlabelled packet began now [] (take count named) end left → judged ≡ take count named
    → IsToldOf plan hops packet began now named judged end left (if more then Err TooMany else Ok tt)
told_by true plan hops packet began now named judged count end left is within walked judged_are = (
  count,
  end,
  left,
  ltb-true count (length named) is,
  subst (λ (vs : List ℕ). IsWalk plan 1 hops (from_outside packet) vs end left) (sym walked.versions)
      (walked.walk (from_outside packet) (record { carrier_is = refl; octets_are = refl; reads = λ read reads. reads })),
)
told_by false plan hops packet began now named judged count end left is within walked judged_are =
    let all : take count named ≡ named = take_all count named (ltb-false count (length named) is) in
    (judged_are ∙ all, subst (λ (vs : List ℕ). HasWalked plan 1 hops Unlabelled packet began now [] vs end left) all walked)

pub is_told : (plan : PlanState) (hops : List Hop) (packet : List ℕ) (began now : ℕ) (named judged : List ℕ) (count : ℕ) (end : End) (left : List ℕ) → count ≤ length named
    → HasWalked plan 1 hops Unlabelled packet began now [] (take count named) end left → judged ≡ take count named
    → IsToldOf plan hops packet began now named judged end left (told_of count (length named))
is_told plan hops packet began now named judged count end left within walked judged_are =
    told_by (nat_lt count (length named)) plan hops packet began now named judged count end left refl within walked judged_are

none_too_many : (let all : Result (Unit {0}) VersionsStop = Ok tt in all ≡ Err TooMany) → ⊥
none_too_many is = absurd cc

more_by : (more : Bool) (hops named : ℕ) → nat_lt hops named ≡ more → (let told : Result (Unit {0}) VersionsStop = if more then Err TooMany else Ok tt in told ≡ Err TooMany) → hops < named
more_by true hops named is told = ltb-true hops named is
more_by false hops named is told = absurd (none_too_many told)

pub more_named : (hops named : ℕ) → told_of hops named ≡ Err TooMany → hops < named
more_named hops named is = more_by (nat_lt hops named) hops named refl is

-- what the next version is, and what those behind it do
pub rises_at : (low high : ℕ) (versions : List ℕ) (at version : ℕ) → Rises low high (drop at versions) → at < length versions → version ≡ get_or versions at version
    → (low ≤ version) × Rises version high (drop (at + 1) versions)
rises_at low high versions at version rises within is = subst (λ (vs : List ℕ). Rises low high vs) (place_at versions at version within is) rises

pub rises_to : (low high : ℕ) (vs : List ℕ) → Rises low high vs → low ≤ high
rises_to low high [] h = h
rises_to low high (v ∷ vs) h = le_trans h.0 (rises_to v high vs h.1)

-- what went on no further than to the next version is at none that is above the last one
pub no_later : (low high now version : ℕ) (named : List ℕ) (at : ℕ) → Rises low high (drop at named) → at < length named → version ≡ get_or named at version → now ≤ version → now ≤ high
no_later low high now version named at rises within is no_further = le_trans no_further (rises_to version high (drop (at + 1) named) (rises_at low high named at version rises within is).1)

-- one version more
pub named_more : (named : List ℕ) (at version : ℕ) → at < length named → version ≡ get_or named at version → take (at + 1) named ≡ take at named ++ version ∷ []
named_more named at version within is = take_more named at version within ∙ ap (λ v. take at named ++ v ∷ []) (sym is)

pub rises_wider : (low high lower higher : ℕ) (vs : List ℕ) → lower ≤ low → high ≤ higher → Rises low high vs → Rises lower higher vs
rises_wider low high lower higher [] down up h = le_trans down (le_trans h up)
rises_wider low high lower higher (v ∷ vs) down up h = (le_trans down h.0, rises_wider v high v higher vs (le_refl v) up h.1)
