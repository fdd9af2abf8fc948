use Rattle.std.proofs.Common.{◌≡◌, slice_get, slice_set, Some, option_map, ap, ◌∙◌, arith}
use Rattle.std.proofs.lemmas.Option.{slice_get-map}
use Rattle.mls_label.specs.Runs.{runs_of}
use Rattle.netlabel_codec.specs.Told.{run_told, runs_told}
use Rattle.netlabel_codec.proofs.Fills.{fill_next}
use Rattle.netlabel_codec.proofs.put.put_runs.Goals as goal

pub loop-place-preserved : goal.loop-place-preserved
loop-place-preserved c =
    let place = c.loop-place.place in
    let cats = c.args.cats.now in
    let run = c.run-first.result in
    let is : slice_get (runs_told cats) place ≡ Some (run_told run) =
    slice_get-map run_told (runs_of cats) place ∙ ap (option_map run_told) c.run-first.ensures.run in
    ap (λ runs. slice_set runs place (run_told run)) c.loop-place.invariant ∙ fill_next (runs_told cats) c.args.runs.now (run_told run) place is (omega arith)
