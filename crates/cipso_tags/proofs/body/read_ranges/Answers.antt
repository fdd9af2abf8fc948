use Rattle.std.proofs.Common.{◌+◌, ◌-◌, ◌*◌, ◌/◌, nat_lt, length, refl, ap, arith}
use Rattle.std.proofs.lemmas.Bool.{ltb-true}
use Rattle.std.proofs.lemmas.Result.{err_from_is_err_and}
use Rattle.mls_label.specs.Runs.{runs_of}
use Rattle.mls_label.proofs.octet_grammar.Octets.{octets_of}
use Rattle.cipso_tags.proofs.Ranges.{ranges_start, range_next, range_room, top_fails, bottom_fails}
use Rattle.cipso_tags.proofs.body.read_ranges.Goals as goal

pub loop-read-init : goal.loop-read-init
loop-read-init c = record {
  seen = ranges_start c.args.bytes.now c.args.count c.clear.new.self c.clear.ensures;
  room = omega arith;
  small = omega arith;
  few = omega (arith, ap (λ xs. length (runs_of xs)) c.clear.ensures);
}

pub returns-in_err-top-clause-err : goal.returns-in_err-top-clause-err
returns-in_err-top-clause-err c =
    let s = c.args.bytes.now in
    let read = c.loop-read.read in
    let upper = c.loop-read.upper in
    let seen = c.loop-read.invariant in
    let later = (c.args.count + 1) / 2 - 1 - read in
    let p = err_from_is_err_and c.from_residual.result c.from_residual.ensures.1 in
    rw (p.1, p.2)
    (top_fails s c.args.count read upper later c.loop-read.cats c.in_err-top.field-0.0 c.requires (omega arith) refl seen.room seen.small (octets_of s c.type_inv.bytes) seen.seen c.in_err-top.ensures.err)

pub returns-in_err-bottom-clause-err : goal.returns-in_err-bottom-clause-err
returns-in_err-bottom-clause-err c =
    let s = c.args.bytes.now in
    let count = c.args.count in
    let read = c.loop-read.read in
    let upper = c.loop-read.upper in
    let seen = c.loop-read.invariant in
    let later = (count + 1) / 2 - 1 - read in
    let faults = c.in_err-bottom.ensures.err in
    let p = err_from_is_err_and c.from_residual-in_err-bottom.result c.from_residual-in_err-bottom.ensures.1 in
    rw (p.1, p.2)
    (bottom_fails s count read upper later c.in_ok-top.top c.loop-read.cats c.in_err-bottom.field-0.0 c.requires (ltb-true (2 * read + 1) count faults.0) refl seen.room seen.small (octets_of s c.type_inv.bytes) seen.seen c.in_ok-top.ensures.ok faults.1)

pub loop-read-preserved : goal.loop-read-preserved
loop-read-preserved c =
    let s = c.args.bytes.now in
    let count = c.args.count in
    let read = c.loop-read.read in
    let upper = c.loop-read.upper in
    let seen = c.loop-read.invariant in
    let later = (count + 1) / 2 - 1 - read in
    let top = c.in_ok-top.top in
    let bottom = c.in_ok-bottom.bottom in
    let there = nat_lt (2 * read + 1) count in
    let number = c.in_ok-bottom.ensures.ok in
    record {
      seen = range_next there s count read upper c.loop-read.cats c.insert_run.new.self later top bottom refl (octets_of s c.type_inv.bytes) (omega arith) (omega (arith, seen.room)) seen.seen c.in_ok-top.ensures.ok number c.insert_run.ensures.cats;
      room = range_room there s (4 * read + 2) count read later top bottom refl refl number;
      small = omega arith;
      few = omega (arith, c.insert_run.ensures.one_more, seen.few);
    }
