use Rattle.std.proofs.Common.{◌≢◌, length, rules}
use Rattle.netlabel_run.proofs.Commands.{no_words}
use Rattle.netlabel_run.proofs.words.read_words.Goals as goal

pub returns-in_default : goal.returns-in_default
returns-in_default c =
    let words = c.args.words.now in
    let two : length words ≢ 2 = search rules in
    let three : length words ≢ 3 = search rules in
    let four : length words ≢ 4 = search rules in
    no_words words two three four
