use Rattle.std.proofs.Common.{◌≡◌, ◌+◌, ◌/◌, ◌%◌, List, ℕ, [], ◌∷◌, ◌++◌, sym, ap, ◌∙◌, append_assoc, arith}
use Rattle.std.specs.Fmt.{decimal}
use Rattle.mls_label.proofs.octet_grammar.Digits.{four_more}
use Rattle.mls_label.proofs.octet_grammar.decimal.write_more.Goals as goal

pub returns-clause-ok : goal.returns-clause-ok
returns-clause-ok c =
    let n = c.args.n in
    let old = c.args.out.now.items in
    let last : List ℕ = (48 + n % 10000 / 1000 % 10) ∷ (48 + n % 10000 / 100 % 10) ∷ (48 + n % 10000 / 10 % 10) ∷ (48 + n % 10000 % 10) ∷ [] in
    let front : c.push_decimal.new.out.items ≡ old ++ decimal (n / 10000) =
    c.push_decimal.ensures.items ∙ (λ i. c.in_ok-reserve.ensures.items i ++ decimal (c.in-Ok.ensures.1 i)) in
    c.push_four.ensures ∙ ap (λ t. t ++ last) front ∙ append_assoc old (decimal (n / 10000)) last ∙ ap (λ t. old ++ t) (sym (four_more n c.requires (omega arith)))
