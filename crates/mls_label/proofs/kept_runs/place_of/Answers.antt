use Rattle.std.proofs.Common.{◌≡◌, ◌+◌, ◌-◌, ◌<◌, arith}
use Rattle.std.specs.List.{AllWithin}
use Rattle.mls_label.specs.declared.cat_set.Run.{Run}
use Rattle.mls_label.proofs.Splice.{place_order}
use Rattle.mls_label.proofs.kept_runs.place_of.Goals as goal

pub returns : goal.returns
returns c =
    let runs = c.args.runs.now in
    let run = c.args.run in
    let start = c.end_below-start.result in
    let end = c.begin_by-end.result in
    let gap : c.saturating_sub.result ≡ run.first - 1 = c.saturating_sub.ensures in
    let before : AllWithin (λ (r : Run). r.last + 1 < run.first) runs 0 start = λ k d lo hi. omega (arith, gap, c.end_below-start.ensures.below k d lo hi) in
    let after : AllWithin (λ (r : Run). run.last + 1 < r.first) runs end _ = c.begin_by-end.ensures.others in
    record {
      order = place_order runs run start end c.requires.apart c.requires.order c.end_below-start.ensures.within before after;
      within = c.begin_by-end.ensures.within;
      before = before;
      met = λ k d lo hi. omega (arith, gap, c.end_below-start.ensures.others k d lo hi);
      reached = c.begin_by-end.ensures.by_bound;
      after = after;
    }
