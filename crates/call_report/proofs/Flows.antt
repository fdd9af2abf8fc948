-- Versions joined by commas.
use Rattle.std.proofs.Common.{◌≡◌, ◌≤◌, ◌-◌, ℕ, List, [], ◌∷◌, ◌++◌, length, take, drop, map, get_or, sym, ap, ◌∙◌, arith}
use Rattle.std.specs.Fmt.{decimal}
use Rattle.std.specs.List.{join_with_byte}
use Rattle.std.proofs.lemmas.List.{append-nil, take_all}
use Rattle.mls_range.specs.LabelText.{comma}
use Rattle.call_report.specs.Lines.Flow.{versions_text}
use Rattle.call_report.specs.inside.Versions.{versions_behind}

joined : (version : ℕ) (versions : List ℕ) → join_with_byte comma (map decimal (version ∷ versions)) ≡ decimal version ++ versions_behind versions
joined version [] = sym (append-nil (decimal version))
joined version (next ∷ versions) = ap (λ t. decimal version ++ comma ∷ t) (joined next versions)

-- the first version, and those behind it
pub first_and_behind : (versions : List ℕ) → 1 ≤ length versions → versions_text versions ≡ decimal (get_or versions 0 0) ++ versions_behind (take (length versions - 1) (drop 1 versions))
first_and_behind [] some = absurd (omega (arith, some))
first_and_behind (version ∷ versions) some =
    let whole : length (version ∷ versions) - 1 ≡ length versions = omega arith in
    joined version versions ∙ ap (λ t. decimal version ++ versions_behind t) (sym (take_all (length (version ∷ versions) - 1) versions (omega (arith, whole))))
