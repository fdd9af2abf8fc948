-- Packets that are judged one after the other.
use Rattle.std.proofs.Common.{◌≡◌, ◌<◌, ℕ, zero, suc, ◌+◌, Bool, true, List, [], ◌∷◌, map, length, Some, refl, sym, ap, subst, arith}
use Rattle.std.specs.Prelude.{slice_get, Contains}
use Rattle.std.proofs.lemmas.List.{length-map}
use Rattle.label_commands.specs.declared.flow_lines.flow.FlowLine.{FlowLine}
use Rattle.label_commands.specs.declared.script.Script.{Script}
use Rattle.captures.specs.declared.packet_in.PacketIn.{PacketIn}
use Rattle.label_flow.specs.packet_walk.Stepping.{TablesAt}
use Rattle.captures.specs.Frame.{CapturedFrame, packet_in}
use Rattle.call_report.specs.Report.{Folder}
use Rattle.label_audit.specs.declared.flow.Counted.{Counted}
use Rattle.label_audit.specs.declared.place.Place.{Place}
use Rattle.label_audit.specs.inside.Reading.{IsJudgedTo}
use Rattle.label_audit.specs.inside.Flow.{packets_awaited}
use Rattle.label_audit.proofs.Judgings.{judged_on}

pub there_is : {X : Type 0} (xs : List X) (i : ℕ) → i < length xs → (x : X) × (slice_get xs i ≡ Some x)
there_is [] i within = absurd (omega (arith, within))
there_is (x ∷ xs) zero within = (x, refl)
there_is (x ∷ xs) (suc i) within = there_is xs i (omega (arith, within))

pub only_name : (name : List ℕ) → Contains (name ∷ []) name
only_name name = (0, omega arith, refl)

pub one_frame : (frames frames' : List CapturedFrame) (packet : PacketIn) → map packet_in frames ≡ packet ∷ map packet_in frames' → length frames ≡ length frames' + 1
one_frame frames frames' packet is = omega (arith, sym (length-map frames packet_in), ap length is, length-map frames' packet_in)

module _ (script : Script) (w : ℕ) (held : Folder) (flow most : ℕ) (line : FlowLine) (flows : List FlowLine) (count count' count'' : Counted) (tables tables' tables'' : List TablesAt) (packets packets' packets'' : List PacketIn) (packet : PacketIn) where
  abbrev First : Bool → List ℕ → Type 0
  First = packets_awaited script w held flow most line flows count tables packets

  pub step_judged : (w' : ℕ) (file file' : List ℕ) (a b c : Place) (met met' : Bool) → w' ≡ w → file' ≡ file → packets' ≡ packet ∷ packets'' → met' ≡ met → IsJudgedTo First (packets_awaited script w held flow most line flows count' tables' packets') file a b true
      → IsJudgedTo (packets_awaited script w' held flow most line flows count' tables' (packet ∷ packets'')) (packets_awaited script w' held flow most line flows count'' tables'' packets'') file' b c met'
      → IsJudgedTo First (packets_awaited script w held flow most line flows count'' tables'' packets'') file a c met
  step_judged w' file file' a b c met met' same_w same_file more same_met one two =
      let Second : List PacketIn → Bool → List ℕ → Type 0 = packets_awaited script w held flow most line flows count' tables' in
      let Third : Bool → List ℕ → Type 0 = packets_awaited script w held flow most line flows count'' tables'' packets'' in
      let by_w = subst (λ (n : ℕ). IsJudgedTo (packets_awaited script n held flow most line flows count' tables' (packet ∷ packets'')) (packets_awaited script n held flow most line flows count'' tables'' packets'') file' b c met') same_w two in
      let by_file = subst (λ (f : List ℕ). IsJudgedTo (Second (packet ∷ packets'')) Third f b c met') same_file by_w in
      let by_met = subst (λ (m : Bool). IsJudgedTo (Second (packet ∷ packets'')) Third file b c m) same_met by_file in
      judged_on First (Second (packet ∷ packets'')) Third file a b c met (subst (λ (ps : List PacketIn). IsJudgedTo First (Second ps) file a b true) more one) by_met
