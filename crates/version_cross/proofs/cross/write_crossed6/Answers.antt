use Rattle.std.proofs.Common.{◌≡◌, ◌<◌, [], Some, Err}
use Rattle.ip_headers.specs.declared.rebuild.Rebuild.TheVariants.{TooLong}
use Rattle.std.specs.Prelude.{◌↔◌}
use Rattle.ip_headers.specs.Fields.{packet6}
use Rattle.ip_headers.specs.Written.{rebuilt_length}
use Rattle.version_cross.specs.Checksum.{crossed_segment}
use Rattle.version_cross.proofs.Segments.{length-crossed}
use Rattle.version_cross.proofs.Packets.{room6, length6, octets6, within6}
use Rattle.version_cross.proofs.Exits.{told, told_at_ok, told_at_too_long, told_at_memory, no_room}
use Rattle.version_cross.proofs.cross.write_crossed6.Goals as goal
use Rattle.version_cross.proofs.cross.write_crossed6.Goals.{After-write6}

-- what the writer tells, of the packet with its new checksum
told6 : (c : After-write6)
    → (c.write6.result ≡ Err TooLong) ↔ (65535 < rebuilt_length (packet6 c.args.fields.now (Some c.args.option.now) [] (crossed_segment c.args.fields.now.protocol c.args.old c.args.new c.args.segment.now)))
told6 c =
    let f = c.args.fields.now in
    let option = c.args.option.now in
    let segment = c.args.segment.now in
    let new = crossed_segment f.protocol c.args.old c.args.new segment in
    told c.write6.result _ _ (rebuilt_length (packet6 f (Some option) [] segment)) _ c.write6.ensures.too_long (room6 f option segment c.requires.label)
    (length6 f option segment new (length-crossed f.protocol c.args.old c.args.new segment c.requires.whole))

pub update_segment-requires-clause-within : goal.update_segment-requires-clause-within
update_segment-requires-clause-within c = within6 c.args.fields.now c.args.option.now c.args.segment.now c.write6.new.out.items c.in-Ok.ensures.ok

pub unreachable-requires : goal.unreachable-requires
unreachable-requires c =
    no_room c.write6.result c.in-Err-NoRoom.field-0 _ 2048 c.write6.ensures.no_room (room6 c.args.fields.now c.args.option.now c.args.segment.now c.requires.label) c.in-Err-NoRoom.is c.in-Err-NoRoom.field-0-is

pub returns-in-Ok-clause-ok : goal.returns-in-Ok-clause-ok
returns-in-Ok-clause-ok c =
    let f = c.args.fields.now in
    let segment = c.args.segment.now in
    octets6 f c.args.option.now segment (crossed_segment f.protocol c.args.old c.args.new segment) c.write6.new.out.items c.update_segment.new.packet.items
    (length-crossed f.protocol c.args.old c.args.new segment c.requires.whole) c.in-Ok.ensures.ok c.update_segment.ensures

pub returns-in-Ok-clause-too_long : goal.returns-in-Ok-clause-too_long
returns-in-Ok-clause-too_long c = told_at_ok c.write6.result c.in-Ok.field-0 _ c.in-Ok.is (told6 (goal.at.returns-in-Ok-clause-too_long c).After-write6)

pub returns-in-Err-TooLong-clause-too_long : goal.returns-in-Err-TooLong-clause-too_long
returns-in-Err-TooLong-clause-too_long c =
    told_at_too_long c.write6.result c.in-Err-TooLong.field-0 _ c.in-Err-TooLong.is c.in-Err-TooLong.field-0-is (told6 (goal.at.returns-in-Err-TooLong-clause-too_long c).After-write6)

pub returns-in-Err-OutOfMemory-clause-too_long : goal.returns-in-Err-OutOfMemory-clause-too_long
returns-in-Err-OutOfMemory-clause-too_long c =
    told_at_memory c.write6.result c.in-Err-OutOfMemory.field-0 _ c.in-Err-OutOfMemory.is c.in-Err-OutOfMemory.field-0-is (told6 (goal.at.returns-in-Err-OutOfMemory-clause-too_long c).After-write6)
