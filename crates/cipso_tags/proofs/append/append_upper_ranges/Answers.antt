use Rattle.std.proofs.Common.{rules, ◌≡◌, ◌+◌, ◌-◌, ◌++◌, length, drop, ap, ◌∙◌, arith, length-append}
use Rattle.mls_label.specs.Runs.{runs_of}
use Rattle.std.specs.Int.{w16, to_be_bytes}
use Rattle.cipso_tags.specs.Body.{words}
use Rattle.cipso_tags.specs.Text.{ends_down}
use Rattle.cipso_tags.proofs.Runs.{ends_next, ends_room, ends_end}
use Rattle.cipso_tags.proofs.append.append_upper_ranges.Goals as goal

pub append_number-requires : goal.append_number-requires
append_number-requires g c =
    let runs = runs_of c.args.cats.now in
    let room = ends_room runs c.args.out.now.items c.loop-left.out.items c.loop-left.left c.loop-left.invariant.within c.loop-left.invariant.so_far in
    (search rules, omega (arith, room, c.requires))

pub append_number-requires-in-loop-left : goal.append_number-requires-in-loop-left
append_number-requires-in-loop-left g c =
    let runs = runs_of c.args.cats.now in
    let room = ends_room runs c.args.out.now.items c.loop-left.out.items c.loop-left.left c.loop-left.invariant.within c.loop-left.invariant.so_far in
    (search rules, omega (arith, room, c.requires, ap length c.append_number.ensures, length-append c.loop-left.out.items (to_be_bytes w16 c.run-bottom.result.1)))

pub loop-left-preserved : goal.loop-left-preserved
loop-left-preserved g c =
    let runs = runs_of c.args.cats.now in
    let left = c.loop-left.left in
    let seen = c.loop-left.invariant in
    let next : left ≡ left - 1 + 1 = omega arith in
    record {
      so_far = ends_next runs c.args.out.now.items c.loop-left.out.items c.append_number.new.out.items c.append_number-in-loop-left.new.out.items (left - 1) c.run-bottom.result c.run-bottom.ensures.run (seen.so_far ∙ ap (λ k. c.args.out.now.items ++ words (ends_down (drop k runs))) next) c.append_number.ensures c.append_number-in-loop-left.ensures;
      within = omega arith;
      lowest = λ some. omega arith;
    }

pub returns : goal.returns
returns g c =
    let seen = c.loop-left.invariant in
    ends_end (runs_of c.args.cats.now) c.args.out.now.items c.loop-left.out.items c.loop-left.left (omega arith) seen.lowest seen.so_far
