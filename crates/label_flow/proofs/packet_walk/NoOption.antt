-- A hop that has no option for a packet's label denies it, and there its walk ends.
use Rattle.std.proofs.Common.{◌≡◌, ◌⊎◌, ℕ, ◌+◌, IsTrue, Bool, true, false, List, [], ◌∷◌, MatchBool, Result, inl, inr, sym, ap, subst, ◌∙◌}
use Rattle.std.proofs.lemmas.Bool.{false≢true}
use Rattle.ip_headers.specs.Packet.{ParsedPacket}
use Rattle.packet_label.specs.declared.denial.Carrier.{Carrier}
use Rattle.packet_label.specs.declared.denial.Denial.{Denial}
use Rattle.packet_label.specs.declared.denial.Denial.TheVariants.{NotIp}
use Rattle.packet_label.specs.declared.fault.CarryFault.{CarryFault}
use Rattle.packet_label.specs.declared.packet.Wire.{Wire}
use Rattle.label_commands.specs.declared.flow_lines.hop.Hop.{Hop}
use Rattle.label_commands.specs.declared.flow_lines.hop.Hop.TheVariants.{Send, Forward, Receive}
use Rattle.node_tables.specs.Tables.{TableState}
use Rattle.label_receive.specs.Judged.{judged_by}
use Rattle.label_send.specs.Send.{Sent, send_read}
use Rattle.label_send.proofs.Law.{packets_without_an_option_are_not_sent}
use Rattle.label_gateway.specs.Forward.{Forwarded, forward_of}
use Rattle.label_gateway.proofs.Law.{packets_without_an_option_are_not_forwarded}
use Rattle.shared_tables.specs.Plan.{PlanState, network_after}
use Rattle.captures.specs.declared.packet_in.PacketIn.{PacketIn}
use Rattle.label_flow.specs.declared.packet_walk.walked.End.{End}
use Rattle.label_flow.specs.declared.packet_walk.walked.End.TheVariants as the_end
use Rattle.label_flow.specs.packet_walk.Walk.{Coming, from_outside, from_hop, octets_in, HopVerdict, denied, goes_on, verdict_of, tables_of, hop_verdict, Follows, IsWalk, IsWalkOf, Ends}
use Rattle.label_flow.specs.packet_walk.NoOption.{HopHasNoOption, ComesToNoOption, MeetsNoOption}
use Rattle.label_flow.proofs.packet_walk.OneWay.{read_once}

pub denies : (network : List TableState) (hop : Hop) (octets : List ℕ) (read : Result (ParsedPacket Wire) CarryFault) (why : Denial) → HopHasNoOption network hop octets read why → hop_verdict network hop octets read ≡ denied why
denies network (Send node domain interface label) octets read why none =
    let t = tables_of network node in
    let made = λ (sent : Sent). goes_on sent.carrier sent.packet in
    ap (λ r. verdict_of made (send_read t domain interface label r)) none.1
    ∙ ap (verdict_of made) (packets_without_an_option_are_not_sent t domain interface label none.0 none.2.0)
    ∙ ap denied (sym none.2.1)
denies network (Forward node from to domain) octets read why none =
    let t = tables_of network node in
    let made = λ (forwarded : Forwarded). goes_on forwarded.carrier forwarded.packet in
    ap (λ r. verdict_of made (judged_by (forward_of t from to domain) r)) none.1
    ∙ ap (verdict_of made) (packets_without_an_option_are_not_forwarded t from to domain none.0 none.2.0)
    ∙ ap denied (sym none.2.1)
denies network (Receive node interface) octets read why none = absurd none

module _ (plan : PlanState) (at : ℕ) (why : Denial) (end : End) (out : List ℕ) where
  abbrev IsDenied : Type 0
  IsDenied = (end ≡ the_end.Denied at why) × (out ≡ [])

  -- what follows a hop's verdict on what is read
  abbrev Behind : ℕ → List Hop → Coming → List ℕ → HopVerdict → Type 0
  Behind k hops coming versions verdict = Follows k (octets_in coming) (λ next. IsWalk plan (k + 1) hops next versions end out) versions end out verdict

  by_hop : (k : ℕ) (hop : Hop) (hops : List Hop) (coming : Coming) (version : ℕ) (versions : List ℕ) (read : Result (ParsedPacket Wire) CarryFault)
      → Behind k hops coming versions (hop_verdict (network_after plan version) hop (octets_in coming) read)
      → ((carrier : Carrier) (packet : ParsedPacket Wire) → IsWalk plan (k + 1) hops (from_hop carrier packet) versions end out → ComesToNoOption plan (k + 1) hops (from_hop carrier packet) versions at why → IsDenied)
      → ((at ≡ k) × HopHasNoOption (network_after plan version) hop (octets_in coming) read why)
      ⊎ ((carrier : Carrier) × (packet : ParsedPacket Wire) × (hop_verdict (network_after plan version) hop (octets_in coming) read ≡ goes_on carrier packet) × ComesToNoOption plan (k + 1) hops (from_hop carrier packet) versions at why)
      → IsDenied
  by_hop k hop hops coming version versions read judged more (inl here) =
      let ends : Behind k hops coming versions (denied why) =
      subst (Behind k hops coming versions) (denies (network_after plan version) hop (octets_in coming) read why here.1) judged in
      (ends.1 ∙ ap (λ n. the_end.Denied n why) (sym here.0), ends.2)
  by_hop k hop hops coming version versions read judged more (inr later) =
      more later.0 later.1 (subst (Behind k hops coming versions) later.2 judged) later.3

  walk_denied : (k : ℕ) (hops : List Hop) (coming : Coming) (versions : List ℕ) → IsWalk plan k hops coming versions end out → ComesToNoOption plan k hops coming versions at why → IsDenied
  walk_denied k [] coming versions walk none = absurd none
  walk_denied k (hop ∷ hops) coming [] walk none = absurd walk
  walk_denied k (hop ∷ hops) coming (version ∷ versions) walk none =
      let same : walk.0 ≡ none.0 = read_once coming walk.0 none.0 walk.1 none.1 in
      by_hop k hop hops coming version versions none.0
      (subst (λ read. Behind k hops coming versions (hop_verdict (network_after plan version) hop (octets_in coming) read)) same walk.2)
      (λ carrier packet w n. walk_denied (k + 1) hops (from_hop carrier packet) versions w n) none.2

  of_denied : (ip : Bool) (hops : List Hop) (octets versions : List ℕ) → MatchBool ip (IsWalk plan 1 hops (from_outside octets) versions end out) (Ends versions end out (the_end.Denied 0 NotIp) []) → IsTrue ip
      → ComesToNoOption plan 1 hops (from_outside octets) versions at why → IsDenied
  of_denied true hops octets versions walk is none = walk_denied 1 hops (from_outside octets) versions walk none
  of_denied false hops octets versions walk is none = absurd (false≢true is)

pub ends_denied : (plan : PlanState) (hops : List Hop) (packet : PacketIn) (versions : List ℕ) (end : End) (out : List ℕ) (at : ℕ) (why : Denial) → IsWalkOf plan hops packet versions end out → MeetsNoOption plan hops packet versions at why
    → (end ≡ the_end.Denied at why) × (out ≡ [])
ends_denied plan hops packet versions end out at why walk none = of_denied plan at why end out packet.is_ip hops packet.bytes versions walk none.0 none.1
