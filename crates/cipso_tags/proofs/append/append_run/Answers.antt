use Rattle.std.proofs.Common.{rules, ◌-◌, length, ap, arith, length-append}
use Rattle.std.specs.List.{range_with_len}
use Rattle.std.proofs.lemmas.List.FromFn.{length-range_with_len}
use Rattle.cipso_tags.specs.Body.{words}
use Rattle.cipso_tags.proofs.Words.{length-words}
use Rattle.cipso_tags.proofs.Runs.{run_more}
use Rattle.cipso_tags.proofs.append.append_run.Goals as goal

pub append_number-requires : goal.append_number-requires
append_number-requires g c =
    let run = range_with_len c.args.first (c.loop-category.category - c.args.first) in (
      search rules,
      omega (arith, c.requires.room, ap length c.loop-category.invariant, length-append c.args.out.now.items (words run), length-words run, length-range_with_len c.args.first (c.loop-category.category - c.args.first)),
    )

pub loop-category-preserved : goal.loop-category-preserved
loop-category-preserved g c =
    run_more c.args.out.now.items c.loop-category.out.items c.append_number.new.out.items c.args.first c.loop-category.category (omega arith) c.loop-category.invariant c.append_number.ensures
