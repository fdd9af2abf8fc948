use Rattle.std.proofs.Common.{◌≡◌, ◌+◌, ◌<◌, ◌≤◌, ◌||◌, List, [], ◌∷◌, ◌++◌, length, fold, OnOk, Result, Ok, Err, ap, sym, subst, ◌∙◌, arith}
use Rattle.std.specs.List.{AllWithin, splice, slice_range}
use Rattle.std.proofs.lemmas.List.{length_push}
use Rattle.std.proofs.lemmas.Result.{on_ok_weaker, on_err_weaker}
use Rattle.mls_label.specs.declared.cat_set.Run.{Run}
use Rattle.mls_label.specs.Cats.{has, is_within, cats_where}
use Rattle.mls_label.specs.Runs.{runs_of}
use Rattle.mls_label.specs.inside.Kept.{cats_of, AreApart, IsPlace, hull}
use Rattle.mls_label.proofs.Runs.{length-runs_of}
use Rattle.mls_label.proofs.Splice.{Each, joined, joined_apart, joined_cats, joined_more, before_by_places, appended_apart, appended_cats}
use Rattle.mls_label.proofs.kept_runs.join.Goals as goal

on_ok_both : {T E P Q R : Type 0} (r : Result T E) → (P → Q → R) → OnOk r P → OnOk r Q → OnOk r R
on_ok_both (Ok x) f p q = f p q
on_ok_both (Err e) f p q = tt

place : (c : goal.After-put) → IsPlace c.args.runs.now c.args.run c.place_of-start.result.0 c.place_of-start.result.1
place c = subst (λ xs. IsPlace xs c.args.run c.place_of-start.result.0 c.place_of-start.result.1) c.as_slice-2.ensures c.place_of-start.ensures

-- the list after a success
new_is : (c : goal.After-put) (new : List Run) → new ≡ splice c.args.runs.now c.place_of-start.result.0 c.place_of-start.result.1 (c.hull_with-hull.result ∷ []) → new ≡ joined c.args.runs.now c.args.run c.place_of-start.result.0 c.place_of-start.result.1
new_is c new e =
    let start = c.place_of-start.result.0 in
    let end = c.place_of-start.result.1 in
    let hull_is : c.hull_with-hull.result ≡ fold hull c.args.run (slice_range c.args.runs.now start end) =
    c.hull_with-hull.ensures ∙ ap (λ xs. fold hull c.args.run (slice_range xs start end)) c.as_slice-3.ensures in
    e ∙ ap (λ h. splice c.args.runs.now start end (h ∷ [])) hull_is

pub returns-clause-kept : goal.returns-clause-kept
returns-clause-kept c =
    let apart = joined_apart c.args.runs.now c.args.run _ _ c.requires.kept.apart c.requires.order c.requires.categories (place c) in
    on_ok_both c.put.result (λ e few. record { apart = subst (AreApart 0) (sym (new_is c c.put.new.runs e)) apart; few = few }) c.put.ensures.ok c.put.ensures.few

pub returns-clause-cats : goal.returns-clause-cats
returns-clause-cats c =
    let cats = joined_cats c.args.runs.now c.args.run _ _ c.requires.kept.apart c.requires.order c.requires.categories (place c) in
    on_ok_weaker c.put.result (λ e. ap cats_of (new_is c c.put.new.runs e) ∙ cats) c.put.ensures.ok

pub returns-clause-too_many : goal.returns-clause-too_many
returns-clause-too_many c =
    let runs = c.args.runs.now in
    let run = c.args.run in
    let start = c.place_of-start.result.0 in
    let end = c.place_of-start.result.1 in
    let apart = joined_apart runs run start end c.requires.kept.apart c.requires.order c.requires.categories (place c) in
    let cats = joined_cats runs run start end c.requires.kept.apart c.requires.order c.requires.categories (place c) in
    let len : length (runs_of (cats_where (λ k. has (cats_of runs) k || is_within run.first run.last k))) ≡ length (joined runs run start end) =
    ap (λ s. length (runs_of s)) (sym cats) ∙ length-runs_of 0 (joined runs run start end) apart in
    on_err_weaker c.put.result (λ full.
    let same : length (joined runs run start end) ≡ length (joined runs run start start) = ap (λ t. length (joined runs run start t)) (sym full.0) in
    let more : length (joined runs run start start) ≡ length runs + 1 = joined_more runs run start (omega (arith, (place c).order, (place c).within)) in
    omega (arith, len, same, more, full.1)) c.put.ensures.too_many

-- ---- the run is behind all others

before : (c : goal.After-put_last) → Each (λ r. r.last + 2 ≤ c.args.run.first) c.args.runs.now
before c =
    before_by_places c.args.runs.now c.args.run (subst (λ xs. AllWithin (λ (r : Run). r.last + 1 < c.args.run.first) xs 0 (length xs)) c.as_slice.ensures (c.is_behind.ensures c.if-is_behind.true))

pub returns-then-is_behind-clause-kept : goal.returns-then-is_behind-clause-kept
returns-then-is_behind-clause-kept c =
    let apart = appended_apart c.args.runs.now c.args.run c.requires.kept.apart c.requires.order c.requires.categories (before c) in
    on_ok_both c.put_last.result (λ e few. record { apart = subst (AreApart 0) (sym e) apart; few = few }) c.put_last.ensures.ok c.put_last.ensures.few

pub returns-then-is_behind-clause-cats : goal.returns-then-is_behind-clause-cats
returns-then-is_behind-clause-cats c =
    let cats = appended_cats c.args.runs.now c.args.run c.requires.kept.apart c.requires.order c.requires.categories (before c) in
    on_ok_weaker c.put_last.result (λ e. ap cats_of e ∙ cats) c.put_last.ensures.ok

pub returns-then-is_behind-clause-too_many : goal.returns-then-is_behind-clause-too_many
returns-then-is_behind-clause-too_many c =
    let runs = c.args.runs.now in
    let run = c.args.run in
    let apart = appended_apart runs run c.requires.kept.apart c.requires.order c.requires.categories (before c) in
    let cats = appended_cats runs run c.requires.kept.apart c.requires.order c.requires.categories (before c) in
    let len : length (runs_of (cats_where (λ k. has (cats_of runs) k || is_within run.first run.last k))) ≡ length (runs ++ run ∷ []) =
    ap (λ s. length (runs_of s)) (sym cats) ∙ length-runs_of 0 (runs ++ run ∷ []) apart in
    on_err_weaker c.put_last.result (λ full. omega (arith, len, length_push runs run, full)) c.put_last.ensures.too_many
