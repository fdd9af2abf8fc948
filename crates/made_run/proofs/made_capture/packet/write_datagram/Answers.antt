use Rattle.std.proofs.Common.{ap, Err, ◌∙◌, arith}
use Rattle.made_run.proofs.made_capture.Sizes.{room_is, length_is}
use Rattle.made_run.specs.made_capture.Packet.{empty_datagram}
use Rattle.made_run.proofs.made_capture.packet.write_datagram.Goals as goal

pub unreachable-requires : goal.unreachable-requires
unreachable-requires c =
    omega (arith, c.write4.ensures.no_room.0 (c.in-Err-NoRoom.is ∙ ap Err c.in-Err-NoRoom.field-0-is), room_is c.datagram_fields.result c.args.option.now empty_datagram, c.requires.short)

pub unreachable-requires-in-Err-TooLong : goal.unreachable-requires-in-Err-TooLong
unreachable-requires-in-Err-TooLong c =
    let told = c.write4.ensures.too_long.0 (c.in-Err-TooLong.is ∙ ap Err c.in-Err-TooLong.field-0-is) in
    omega (arith, told.1, length_is c.datagram_fields.result c.args.option.now empty_datagram, c.requires.short)
