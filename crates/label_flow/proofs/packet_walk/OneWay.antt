-- A walk under given versions ends in one way, and knows no more of a plan than its steps up to them.
use Rattle.std.proofs.Common.{◌≡◌, ℕ, suc, ◌+◌, ◌≤◌, Bool, true, false, List, [], ◌∷◌, ◌++◌, take, arith, MatchBool, Result, Ok, refl, sym, ap, ◌∙◌, subst, All}
use Rattle.ip_headers.specs.Packet.{ParsedPacket}
use Rattle.ip_headers.specs.Written.{packet_octets, hides_payload}
use Rattle.packet_label.specs.declared.denial.Denial.TheVariants.{NotIp}
use Rattle.packet_label.specs.declared.fault.CarryFault.{CarryFault}
use Rattle.packet_label.specs.declared.packet.Wire.{Wire}
use Rattle.packet_label.specs.Written.{IsReadAs, written, settled_packet}
use Rattle.packet_label.proofs.Law.{octets_are_a_packet_or_have_one_fault}
use Rattle.label_commands.specs.declared.flow_lines.hop.Hop.{Hop}
use Rattle.node_tables.specs.Tables.{TableState}
use Rattle.shared_tables.specs.Plan.{PlanState, network_after}
use Rattle.shared_tables.proofs.Law.{beginnings_agree}
use Rattle.captures.specs.declared.packet_in.PacketIn.{PacketIn}
use Rattle.label_flow.specs.declared.packet_walk.walked.End.{End}
use Rattle.label_flow.specs.declared.packet_walk.walked.End.TheVariants as the_end
use Rattle.label_flow.specs.packet_walk.Walk.{Coming, from_outside, from_hop, octets_in, IsReadFrom, HopVerdict, denied, goes_on, arrives, hop_verdict, Follows, IsWalk, IsWalkOf, Ends}

next_once : (hides : Bool) (octets : List ℕ) (next a b : Result (ParsedPacket Wire) CarryFault) → MatchBool hides (IsReadAs octets a) (a ≡ next) → MatchBool hides (IsReadAs octets b) (b ≡ next) → a ≡ b
next_once true octets next a b x y = (octets_are_a_packet_or_have_one_fault octets).one a b x y
next_once false octets next a b x y = x ∙ sym y

pub read_once : (coming : Coming) (a b : Result (ParsedPacket Wire) CarryFault) → IsReadFrom coming a → IsReadFrom coming b → a ≡ b
read_once (from_outside octets) a b x y = (octets_are_a_packet_or_have_one_fault octets).one a b x y
read_once (from_hop carrier p) a b x y = next_once (hides_payload p.version (written p)) (packet_octets (written p)) (Ok (settled_packet p)) a b x y

-- ---- one way, and no walk's versions begin those of another walk of the same packet

module _ (end end' : End) (out out' : List ℕ) where
  abbrev Same : List ℕ → List ℕ → Type 0
  Same a b = (a ≡ b) × (end ≡ end') × (out ≡ out')

  end_same : (at : End) (octets a b : List ℕ) → Ends a end out at octets → Ends b end' out' at octets → Same a b
  end_same at octets a b x y = (x.0 ∙ sym y.0, x.1 ∙ sym y.1, x.2 ∙ sym y.2)

  follows_same : (k : ℕ) (octets a b : List ℕ) (X Y : Coming → Type 0) → ((next : Coming) → X next → Y next → Same a b)
      → (verdict : HopVerdict) → Follows k octets X a end out verdict → Follows k octets Y b end' out' verdict → Same a b
  follows_same k octets a b X Y more (denied why) x y = end_same (the_end.Denied k why) [] a b x y
  follows_same k octets a b X Y more (goes_on carrier packet) x y = more (from_hop carrier packet) x y
  follows_same k octets a b X Y more (arrives delivered) x y = end_same (the_end.Delivered delivered.label delivered.receiver) octets a b x y

  module _ (plan : PlanState) where
    walk_same : (k : ℕ) (hops : List Hop) (coming : Coming) (a b r s : List ℕ) → a ++ r ≡ b ++ s → IsWalk plan k hops coming a end out → IsWalk plan k hops coming b end' out' → Same a b
    walk_same k [] coming a b r s is x y = (x.0 ∙ sym y.0, x.1 ∙ sym y.1, x.2 ∙ sym y.2)
    walk_same k (hop ∷ hops) coming [] b r s is x y = absurd x
    walk_same k (hop ∷ hops) coming (v ∷ a) [] r s is x y = absurd y
    walk_same k (hop ∷ hops) coming (v ∷ a) (w ∷ b) r s is x y =
        let first : v ≡ w = cc in
        let rest : a ++ r ≡ b ++ s = cc in
        let Judged : ℕ → Result (ParsedPacket Wire) CarryFault → Type 0 = λ n read.
        Follows k (octets_in coming) (λ next. IsWalk plan (k + 1) hops next b end' out') b end' out' (hop_verdict (network_after plan n) hop (octets_in coming) read) in
        let there : Judged v y.0 = subst (λ n. Judged n y.0) (sym first) y.2 in
        let here : Judged v x.0 = subst (Judged v) (read_once coming y.0 x.0 y.1 x.1) there in
        let behind = follows_same k (octets_in coming) a b (λ next. IsWalk plan (k + 1) hops next a end out) (λ next. IsWalk plan (k + 1) hops next b end' out')
        (λ next p q. walk_same (k + 1) hops next a b r s rest p q)
        (hop_verdict (network_after plan v) hop (octets_in coming) x.0) x.2 here in
        (ap (λ (n : ℕ). n ∷ a) first ∙ ap (λ (vs : List ℕ). w ∷ vs) behind.0, behind.1, behind.2)

    of_same : (ip : Bool) (hops : List Hop) (octets a b r s : List ℕ) → a ++ r ≡ b ++ s
        → MatchBool ip (IsWalk plan 1 hops (from_outside octets) a end out) (Ends a end out (the_end.Denied 0 NotIp) [])
        → MatchBool ip (IsWalk plan 1 hops (from_outside octets) b end' out') (Ends b end' out' (the_end.Denied 0 NotIp) []) → Same a b
    of_same true hops octets a b r s is x y = walk_same 1 hops (from_outside octets) a b r s is x y
    of_same false hops octets a b r s is x y = end_same (the_end.Denied 0 NotIp) [] a b x y

pub one_way : (plan : PlanState) (hops : List Hop) (packet : PacketIn) (versions : List ℕ) (end end' : End) (out out' : List ℕ) → IsWalkOf plan hops packet versions end out → IsWalkOf plan hops packet versions end' out'
    → (end ≡ end') × (out ≡ out')
one_way plan hops packet versions end end' out out' x y =
    let same = of_same end end' out out' plan packet.is_ip hops packet.bytes versions versions [] [] refl x y in
    (same.1, same.2)

pub one_cut : (plan : PlanState) (hops : List Hop) (packet : PacketIn) (a b r s : List ℕ) (end end' : End) (out out' : List ℕ) → a ++ r ≡ b ++ s
    → IsWalkOf plan hops packet a end out → IsWalkOf plan hops packet b end' out' → a ≡ b
one_cut plan hops packet a b r s end end' out out' is x y = (of_same end end' out out' plan packet.is_ip hops packet.bytes a b r s is x y).0

-- ---- a beginning of a plan

abbrev first_steps : PlanState → ℕ → PlanState
first_steps plan m = record plan { steps = take m plan.steps }

follows_over : (k : ℕ) (octets versions : List ℕ) (end : End) (out : List ℕ) (X Y : Coming → Type 0) → ((next : Coming) → X next → Y next)
    → (verdict : HopVerdict) → Follows k octets X versions end out verdict → Follows k octets Y versions end out verdict
follows_over k octets versions end out X Y more (denied why) x = x
follows_over k octets versions end out X Y more (goes_on carrier packet) x = more (from_hop carrier packet) x
follows_over k octets versions end out X Y more (arrives delivered) x = x

walk_over : (plan : PlanState) (m k : ℕ) (hops : List Hop) (coming : Coming) (versions : List ℕ) (end : End) (out : List ℕ) → All (λ v. v ≤ m) versions → IsWalk (first_steps plan m) k hops coming versions end out
    → IsWalk plan k hops coming versions end out
walk_over plan m k [] coming versions end out low x = x
walk_over plan m k (hop ∷ hops) coming [] end out low x = absurd x
walk_over plan m k (hop ∷ hops) coming (version ∷ versions) end out low x =
    let same = beginnings_agree plan m version (low 0 0 (omega arith)) in
    let X : Coming → Type 0 = λ next. IsWalk (first_steps plan m) (k + 1) hops next versions end out in
    let there = subst (λ (network : List TableState). Follows k (octets_in coming) X versions end out (hop_verdict network hop (octets_in coming) x.0)) same x.2 in (
      x.0,
      x.1,
      follows_over k (octets_in coming) versions end out X (λ next. IsWalk plan (k + 1) hops next versions end out)
          (λ next p. walk_over plan m (k + 1) hops next versions end out (λ i d less. low (suc i) d (omega (arith, less))) p)
          (hop_verdict (network_after plan version) hop (octets_in coming) x.0) there,
    )

of_over : (ip : Bool) (plan : PlanState) (m : ℕ) (hops : List Hop) (octets versions : List ℕ) (end : End) (out : List ℕ) → All (λ v. v ≤ m) versions
    → MatchBool ip (IsWalk (first_steps plan m) 1 hops (from_outside octets) versions end out) (Ends versions end out (the_end.Denied 0 NotIp) [])
    → MatchBool ip (IsWalk plan 1 hops (from_outside octets) versions end out) (Ends versions end out (the_end.Denied 0 NotIp) [])
of_over true plan m hops octets versions end out low x = walk_over plan m 1 hops (from_outside octets) versions end out low x
of_over false plan m hops octets versions end out low x = x

pub over_beginning : (plan : PlanState) (hops : List Hop) (packet : PacketIn) (versions : List ℕ) (end : End) (out : List ℕ) (m : ℕ) → All (λ v. v ≤ m) versions
    → IsWalkOf (record plan { steps = take m plan.steps }) hops packet versions end out → IsWalkOf plan hops packet versions end out
over_beginning plan hops packet versions end out m low x = of_over packet.is_ip plan m hops packet.bytes versions end out low x
