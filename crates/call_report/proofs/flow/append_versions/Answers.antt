use Rattle.std.proofs.Common.{◌≡◌, ◌++◌, ◌-◌, length, take, drop, get_or, sym, ap, ◌∙◌, append_assoc}
use Rattle.std.specs.Fmt.{decimal}
use Rattle.std.proofs.lemmas.Result.{on_ok_weaker}
use Rattle.call_report.specs.inside.Versions.{versions_behind}
use Rattle.call_report.proofs.Flows.{first_and_behind}
use Rattle.call_report.proofs.flow.append_versions.Goals as goal

pub returns-clause-ok : goal.returns-clause-ok
returns-clause-ok c =
    let start = c.args.line.now.items in
    let versions = c.args.versions.now in
    let behind = versions_behind (take (length versions - 1) (drop 1 versions)) in
    let first : c.write_decimal.new.out.items ≡ start ++ decimal (get_or versions 0 0) = c.in_ok-write_decimal.ensures.ok ∙ ap (λ n. start ++ decimal n) c.from.ensures in
    on_ok_weaker c.append_behind.result (λ e.
    e ∙ ap (λ x. x ++ behind) first ∙ append_assoc start (decimal (get_or versions 0 0)) behind ∙ ap (λ x. start ++ x) (sym (first_and_behind versions c.in-len1-up.len_at_least))) c.append_behind.ensures.ok
