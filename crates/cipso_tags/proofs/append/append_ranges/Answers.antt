use Rattle.std.proofs.Common.{rules, length, ap, arith, length-append}
use Rattle.mls_label.specs.Runs.{runs_of}
use Rattle.std.specs.Int.{w16, to_be_bytes}
use Rattle.cipso_tags.proofs.Runs.{ends_room}
use Rattle.cipso_tags.proofs.append.append_ranges.Goals as goal

pub append_number-requires : goal.append_number-requires
append_number-requires g c =
    let room = ends_room (runs_of c.args.cats.now) c.args.out.now.items c.append_upper_ranges.new.out.items 1 (omega arith) c.append_upper_ranges.ensures in
    (search rules, omega (arith, room, c.requires))

pub append_number-requires-then-bottom-ne0 : goal.append_number-requires-then-bottom-ne0
append_number-requires-then-bottom-ne0 g c =
    let room = ends_room (runs_of c.args.cats.now) c.args.out.now.items c.append_upper_ranges.new.out.items 1 (omega arith) c.append_upper_ranges.ensures in
    (search rules, omega (arith, room, c.requires, ap length c.append_number.ensures, length-append c.append_upper_ranges.new.out.items (to_be_bytes w16 c.run-bottom.result.1)))
