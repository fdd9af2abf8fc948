use Rattle.std.proofs.Common.{◌≡◌, ◌∷◌, [], sym, subst, rules}
use Rattle.std.specs.Prelude.{codes}
use Rattle.netlabel_run.specs.Words.{IsAsked}
use Rattle.netlabel_run.proofs.words.read_four.Goals as goal

pub returns : goal.returns
returns c =
    let named : c.args.command.now ≡ codes "judge" = search rules in
    subst (λ command. IsAsked (command ∷ c.args.second.now ∷ c.args.third.now ∷ c.args.fourth.now ∷ []) c.read_judge.result) (sym named) c.read_judge.ensures
