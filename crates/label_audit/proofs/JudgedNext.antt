-- One packet more, by what was read of it.
use Rattle.std.proofs.Common.{◌≡◌, ◌≢◌, ◌<◌, ℕ, ◌+◌, ◌%◌, Bool, true, false, List, ◌∷◌, drop, get_or, length, Some, refl, sym, ap, ◌∙◌, subst, max}
use Rattle.std.specs.Prelude.{All, slice_get, if◌then◌else◌}
use Rattle.std.proofs.lemmas.Option.{slice_get_read}
use Rattle.domain_map.specs.address_text.Name.{IsNameText}
use Rattle.label_commands.specs.declared.flow_lines.flow.FlowLine.{FlowLine}
use Rattle.label_commands.specs.declared.script.Script.{Script}
use Rattle.label_commands.specs.Script.{before}
use Rattle.captures.specs.declared.packet_in.PacketIn.{PacketIn}
use Rattle.label_flow.specs.packet_walk.Stepping.{TablesAt}
use Rattle.call_report.specs.Report.{Folder}
use Rattle.label_flow.specs.flow_access.Valid.{plan_of}
use Rattle.label_audit.specs.declared.flow.Counted.{Counted}
use Rattle.label_audit.specs.declared.place.Place.{Place}
use Rattle.label_audit.specs.declared.walker.PacketPlace.{PacketPlace}
use Rattle.label_audit.specs.inside.Awaited.{BadBehind}
use Rattle.label_audit.specs.inside.Reading.{IsJudgedTo}
use Rattle.label_audit.specs.inside.Packet.{IsPacketRead}
use Rattle.label_audit.specs.inside.Flow.{packets_awaited}
use Rattle.label_audit.proofs.Nexts.{next_fails, next_stands}

-- the tables of the worker whose turn it is
pub worker_here : (tables : List TablesAt) (t : TablesAt) (packets worker : ℕ) → worker ≡ packets % length tables → worker < length tables → t ≡ get_or tables worker t → slice_get tables (packets % length tables) ≡ Some t
worker_here tables t packets worker turn within is = ap (slice_get tables) (sym turn) ∙ slice_get_read tables (length tables) worker t refl within is

module _ (script : Script) (w : ℕ) (held : Folder) (flow most : ℕ) (line : FlowLine) (flows : List FlowLine) (count : Counted) (tables : List TablesAt) (packet : PacketIn) (packets : List PacketIn) (names : All IsNameText script.nodes) where
  pub next_not : (place : PacketPlace) (t : TablesAt) (file : List ℕ) (old new new' : Place) (met' : ℕ) (denied result : Bool) → IsPacketRead t.plan place packet file old new t.version met' denied result → result ≡ false → slice_get tables (count.packets % w) ≡ Some t
      → t.plan ≡ plan_of script → place.names.now ≡ script.nodes → place.flow.now ≡ line → place.flow_number ≡ flow + 1 → place.number ≡ count.packets + 1 → place.low ≡ max line.before t.version → place.high ≡ before script (flow + 1)
      → (new ≡ old → new'.lines ≡ new.lines + 1) → BadBehind (packets_awaited script w held flow most line flows count tables (packet ∷ packets)) (drop old.at file) old.lines new'.lines
  next_not place t file old new new' met' denied result read is at plan named of numbered number low high one =
      let none = subst (IsPacketRead t.plan place packet file old new t.version met' denied) is read in
      next_fails script w held flow most line flows count tables packet packets names place t at plan named of numbered number low high file old new new' none.0 none.1 (one none.0)

  pub next_is : (place : PacketPlace) (t t' : TablesAt) (file : List ℕ) (old new : Place) (denied result : Bool) (tables' : List TablesAt) (count' : Counted) → IsPacketRead t.plan place packet file old new t.version t'.version denied result → result ≡ true
      → slice_get tables (count.packets % w) ≡ Some t → t.plan ≡ plan_of script → place.names.now ≡ script.nodes → place.flow.now ≡ line → place.flow_number ≡ flow + 1 → place.number ≡ count.packets + 1 → place.low ≡ max line.before t.version
      → place.high ≡ before script (flow + 1) → slice_get tables' (count.packets % w) ≡ Some t' → ((k : ℕ) → (count.packets % w) ≢ k → slice_get tables' k ≡ slice_get tables k)
      → count'.packets ≡ count.packets + 1 → count'.passed ≡ count.passed + (if denied then 0 else 1) → count'.denied ≡ count.denied + (if denied then 1 else 0)
      → IsJudgedTo (packets_awaited script w held flow most line flows count tables (packet ∷ packets)) (packets_awaited script w held flow most line flows count' tables' packets) file old new true
  next_is place t t' file old new denied result tables' count' read is at plan named of numbered number low high at' others a b c =
      let there = subst (IsPacketRead t.plan place packet file old new t.version t'.version denied) is read in
      next_stands script w held flow most line flows count tables packet packets names place t at plan named of numbered number low high file old new t' denied tables' count' there at' others a b c
