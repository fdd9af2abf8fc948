use Rattle.std.proofs.Common.{◌≡◌, ◌<◌, [], Some, Err}
use Rattle.ip_headers.specs.declared.rebuild.Rebuild.TheVariants.{TooLong}
use Rattle.std.specs.Prelude.{◌↔◌}
use Rattle.ip_headers.specs.Fields.{packet4}
use Rattle.ip_headers.specs.Written.{rebuilt_length}
use Rattle.version_cross.specs.Checksum.{crossed_segment}
use Rattle.version_cross.proofs.Segments.{length-crossed}
use Rattle.version_cross.proofs.Packets.{room4, length4, octets4, within4}
use Rattle.version_cross.proofs.Exits.{told, told_at_ok, told_at_too_long, told_at_memory, no_room}
use Rattle.version_cross.proofs.cross.write_crossed4.Goals as goal
use Rattle.version_cross.proofs.cross.write_crossed4.Goals.{After-write4}

-- what the writer tells, of the packet with its new checksum
told4 : (c : After-write4)
    → (c.write4.result ≡ Err TooLong) ↔ (65535 < rebuilt_length (packet4 c.args.fields.now (Some c.args.option.now) [] (crossed_segment c.args.fields.now.protocol c.args.old c.args.new c.args.segment.now)))
told4 c =
    let f = c.args.fields.now in
    let option = c.args.option.now in
    let segment = c.args.segment.now in
    let new = crossed_segment f.protocol c.args.old c.args.new segment in
    told c.write4.result _ _ (rebuilt_length (packet4 f (Some option) [] segment)) _ c.write4.ensures.too_long (room4 f option segment c.requires.label)
    (length4 f option segment new (length-crossed f.protocol c.args.old c.args.new segment c.requires.whole))

pub update_segment-requires-clause-within : goal.update_segment-requires-clause-within
update_segment-requires-clause-within c = within4 c.args.fields.now c.args.option.now c.args.segment.now c.write4.new.out.items c.in-Ok.ensures.ok

pub unreachable-requires : goal.unreachable-requires
unreachable-requires c =
    no_room c.write4.result c.in-Err-NoRoom.field-0 _ 40 c.write4.ensures.no_room (room4 c.args.fields.now c.args.option.now c.args.segment.now c.requires.label) c.in-Err-NoRoom.is c.in-Err-NoRoom.field-0-is

pub returns-in-Ok-clause-ok : goal.returns-in-Ok-clause-ok
returns-in-Ok-clause-ok c =
    let f = c.args.fields.now in
    let segment = c.args.segment.now in
    octets4 f c.args.option.now segment (crossed_segment f.protocol c.args.old c.args.new segment) c.write4.new.out.items c.update_segment.new.packet.items
    (length-crossed f.protocol c.args.old c.args.new segment c.requires.whole) c.in-Ok.ensures.ok c.update_segment.ensures

pub returns-in-Ok-clause-too_long : goal.returns-in-Ok-clause-too_long
returns-in-Ok-clause-too_long c = told_at_ok c.write4.result c.in-Ok.field-0 _ c.in-Ok.is (told4 (goal.at.returns-in-Ok-clause-too_long c).After-write4)

pub returns-in-Err-TooLong-clause-too_long : goal.returns-in-Err-TooLong-clause-too_long
returns-in-Err-TooLong-clause-too_long c =
    told_at_too_long c.write4.result c.in-Err-TooLong.field-0 _ c.in-Err-TooLong.is c.in-Err-TooLong.field-0-is (told4 (goal.at.returns-in-Err-TooLong-clause-too_long c).After-write4)

pub returns-in-Err-OutOfMemory-clause-too_long : goal.returns-in-Err-OutOfMemory-clause-too_long
returns-in-Err-OutOfMemory-clause-too_long c =
    told_at_memory c.write4.result c.in-Err-OutOfMemory.field-0 _ c.in-Err-OutOfMemory.is c.in-Err-OutOfMemory.field-0-is (told4 (goal.at.returns-in-Err-OutOfMemory-clause-too_long c).After-write4)
