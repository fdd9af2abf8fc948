use Rattle.std.proofs.Common.{◌≡◌, ℕ, List, ◌++◌, take, ap, sym, ◌∙◌, append_assoc, arith}
use Rattle.std.specs.List.{flat_map}
use Rattle.std.proofs.lemmas.List.{take_all}
use Rattle.mls_label.specs.Runs.{runs_of}
use Rattle.mls_range.specs.LabelText.{terms_of_run}
use Rattle.mls_range.specs.inside.Rest.{separated}
use Rattle.mls_range.proofs.Written.{front_terms, next_separator, front_more, terms_text_is}
use Rattle.mls_range.proofs.label.push_cats.Goals as goal

pub loop-i-preserved : goal.loop-i-preserved
loop-i-preserved c =
    let runs = runs_of c.args.cats.now in
    let start = c.args.out.now.items in
    let i = c.loop-i.i in
    let run : ℕ × ℕ = (c.run-first.result.0, c.run-first.result.1) in
    let more = front_more runs i run c.run-first.ensures.run in
    let front : List ℕ = separated 58 (front_terms runs i) in
    let last : List ℕ = separated (next_separator 58 (front_terms runs i)) (terms_of_run run) in
    record {
      written = c.push_run.ensures.items ∙ ap (λ s. c.loop-i.out.items ++ separated s (terms_of_run run)) c.loop-i.invariant.separator ∙ ap (λ t. t ++ last) c.loop-i.invariant.written ∙ append_assoc start front last ∙ ap (λ t. start ++ t) (sym more.0);
      separator = sym more.1;
      room = omega (arith, c.loop-i.invariant.room, c.push_run.ensures.len, c.push_run.ensures.capacity);
    }

pub returns-clause-ok : goal.returns-clause-ok
returns-clause-ok c =
    let runs = runs_of c.args.cats.now in
    let all : take c.loop-i.i runs ≡ runs = take_all c.loop-i.i runs (omega arith) in
    c.loop-i.invariant.written ∙ ap (λ rs. c.args.out.now.items ++ separated 58 (flat_map terms_of_run rs)) all ∙ ap (λ t. c.args.out.now.items ++ t) (sym (terms_text_is (flat_map terms_of_run runs)))
