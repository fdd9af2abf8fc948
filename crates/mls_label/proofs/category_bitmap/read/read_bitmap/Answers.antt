use Rattle.std.proofs.Common.{◌*◌, Some, refl, arith}
use Rattle.mls_label.specs.category_bitmap.inside.Read.{IsRead}
use Rattle.mls_label.proofs.category_bitmap.Bits.{nothing_read, read_behind, read_to_end, read_last}
use Rattle.mls_label.proofs.category_bitmap.read.read_bitmap.Goals as goal

pub loop-at-init : goal.loop-at-init
loop-at-init c = record {
  words = refl;
  read = nothing_read c.args.bitmap.now c.clear.new.self c.clear.ensures;
}

pub append_run-requires-clause-behind : goal.append_run-requires-clause-behind
append_run-requires-clause-behind c =
    let read : IsRead c.args.bitmap.now c.loop-at.cats (Some c.in-Some.first) (8 * c.loop-at.at) = rw c.in-Some.is at c.loop-at.invariant.read in
    read_behind c.args.bitmap.now c.loop-at.cats c.in-Some.first read.so_far read.gap

pub returns-in-Some : goal.returns-in-Some
returns-in-Some c =
    let bitmap = c.args.bitmap.now in
    let read : IsRead bitmap c.loop-at.cats (Some c.in-Some.first) (8 * c.loop-at.at) = rw c.in-Some.is at c.loop-at.invariant.read in
    read_last bitmap c.loop-at.cats c.append_run.new.self c.in-Some.first (read_to_end bitmap c.loop-at.cats c.in-Some.first (8 * c.loop-at.at) (omega arith) read) c.append_run.ensures.cats
