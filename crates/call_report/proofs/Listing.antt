-- The lines of a listing, one by one.
use Rattle.std.proofs.Common.{◌≡◌, ℕ, ◌+◌, zero, suc, List, [], ◌∷◌, ◌++◌, drop, Some, slice_get, ap, ◌∙◌, arith}
use Rattle.std.specs.Prelude.{codes}
use Rattle.call_report.specs.Lines.Parts.{line_of}
use Rattle.call_report.specs.Lines.Reply.{listed_lines}

-- from a line on
pub lines_from : (lines : List (List ℕ)) (i : ℕ) (line : List ℕ) → slice_get lines i ≡ Some line → listed_lines (drop i lines) ≡ line_of (codes "  " ++ line) ++ listed_lines (drop (i + 1) lines)
lines_from [] zero line at = absurd cc
lines_from [] (suc i) line at = absurd cc
lines_from (x ∷ lines) zero line at = let same : x ≡ line = cc in ap (λ t. line_of (codes "  " ++ t) ++ listed_lines lines) same
lines_from (x ∷ lines) (suc i) line at =
    let next : suc (i + 1) ≡ suc i + 1 = omega arith in
    lines_from lines i line at ∙ ap (λ k. line_of (codes "  " ++ line) ++ listed_lines (drop k (x ∷ lines))) next
