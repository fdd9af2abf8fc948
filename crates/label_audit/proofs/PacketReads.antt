-- The line of a packet that stands there.
use Rattle.std.proofs.Common.{◌≡◌, ◌<◌, ◌≤◌, ℕ, ◌+◌, Bool, List, ◌++◌, length, drop, sym, ap, ◌∙◌, subst}
use Rattle.std.specs.Prelude.{All, ◌^◌}
use Rattle.domain_map.specs.address_text.Name.{IsNameText}
use Rattle.shared_tables.specs.Plan.{PlanState}
use Rattle.captures.specs.declared.packet_in.PacketIn.{PacketIn}
use Rattle.label_flow.specs.packet_walk.Walk.{Rises}
use Rattle.call_report.specs.report_file.Meeting.{lines_in}
use Rattle.label_audit.specs.declared.place.Place.{Place}
use Rattle.label_audit.specs.declared.walker.PacketPlace.{PacketPlace}
use Rattle.label_audit.specs.inside.Grammar.{last_met}
use Rattle.label_audit.specs.inside.Reading.{StandsIn}
use Rattle.label_audit.specs.inside.Packet.{WrittenWalk, PacketRead}
use Rattle.label_audit.proofs.Naming.{Each, written_pair, only_written}
use Rattle.label_audit.proofs.Places.{met_there}
use Rattle.label_audit.proofs.Wholes.{packet_line}

pub packet_read : (plan : PlanState) (place : PacketPlace) (packet : PacketIn) (file : List ℕ) (old new : Place) (met met' : ℕ) (denied named : Bool) (versions line behind : List ℕ) (hops : length place.flow.now.hops ≤ 16) (names : All IsNameText place.names.now)
    (few : place.high < 2 ^ 32) → StandsIn file old → Each plan place packet (drop old.at file) hops names few named versions → WrittenWalk plan place packet versions line met met' denied → drop old.at file ≡ line ++ behind
    → (old.at + length line < 2 ^ 64 → new.at ≡ old.at + length line) → (old.lines + lines_in line < 2 ^ 64 → new.lines ≡ old.lines + lines_in line) → PacketRead plan place packet file old new met met' denied
packet_read plan place packet file old new met met' denied named versions line behind hops names few stands each w is at lines =
    let there = met_there file line behind old new stands is at lines in
    let one = packet_line place.flow_number place.number place.names.now place.flow.now.hops w.walked names in
    record {
      pair = written_pair plan place packet (drop old.at file) hops names few named versions line met met' denied each w;
      walk = w.walk;
      rises = subst (Rises place.low place.high) (sym w.versions) w.rises;
      only = only_written plan place packet (drop old.at file) hops names few named versions line met met' denied each w;
      is = there.0 ∙ ap (λ t. t ++ drop new.at file) w.line_is;
      lines = there.1 ∙ ap (λ n. old.lines + n) (ap lines_in w.line_is ∙ one.one);
      stands = there.2;
      denied_is = w.denied_is;
      met_is = w.met_is ∙ ap (last_met met) (sym w.versions);
    }
