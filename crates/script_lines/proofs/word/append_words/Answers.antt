use Rattle.std.proofs.Common.{◌≡◌, ◌+◌, [], ◌++◌, length, take, drop, refl, sym, ap, ◌∙◌, append-nil, arith}
use Rattle.std.proofs.lemmas.List.{take_rest, length-drop}
use Rattle.std.proofs.lemmas.Result.{on_ok_weaker}
use Rattle.script_lines.specs.Octet.{is_blank}
use Rattle.script_lines.specs.Word.{words_from, words_of_line}
use Rattle.script_lines.proofs.Splits.{cut_at, none_passes, none_from}
use Rattle.script_lines.proofs.LineWords.{word_at, words_cut, words_last, word_goes}
use Rattle.script_lines.proofs.word.append_words.Goals as goal

pub loop-end-preserved : goal.loop-end-preserved
loop-end-preserved c =
    let i = c.in-Some.end in
    let at = c.loop-end.at in
    let rest = c.loop-end.rest.now in
    let items = c.loop-end.words.items in
    let total = c.args.words.now.items ++ words_of_line c.args.line.now in
    let cut = cut_at is_blank rest i (sym c.in-Some.ensures) in
    let left : at + (i + 1) + length (drop (i + 1) rest) ≡ length c.args.line.now =
    omega (arith, length-drop (i + 1) rest, cut.within, c.loop-end.invariant.place) in
    let goes = word_goes items total (word_at at (take i rest)) (words_from at rest) (words_from (at + (i + 1)) (drop (i + 1) rest))
    (words_cut at (at + (i + 1)) rest i cut refl) (sym c.begins_comment.ensures ∙ c.if-begins_comment.false) c.loop-end.invariant.words in
    record {
      place = ap (λ t. at + (i + 1) + length t) (take_rest rest (i + 1)) ∙ left;
      words = ap (λ t. c.append_word.new.words.items ++ words_from (at + (i + 1)) t) (take_rest rest (i + 1))
          ∙ ap (λ ws. ws ++ words_from (at + (i + 1)) (drop (i + 1) rest)) c.in_ok-append_word.ensures ∙ goes;
    }

pub returns : goal.returns
returns c =
    let at = c.loop-end.at in
    let rest = c.loop-end.rest.now in
    let items = c.loop-end.words.items in
    let total = c.args.words.now.items ++ words_of_line c.args.line.now in
    let fails = none_passes is_blank rest (sym c.blank_in.ensures ∙ none_from c.blank_in.result c.in_default.not-Some) in
    let goes = word_goes items total (word_at at rest) (words_from at rest) [] (words_last at rest fails)
    (sym c.begins_comment-2.ensures ∙ c.if-begins_comment-2.false) c.loop-end.invariant.words in
    on_ok_weaker c.append_word-2.result (λ is. is ∙ sym (append-nil _) ∙ goes) c.append_word-2.ensures
