-- Lines of coverage: whether a hop covers the next one, and whether each does. Hops are counted from 1.
use Rattle.std.specs.Prelude.{ℕ, ◌+◌, Bool, true, false, List, ◌++◌, codes, Option, Some, None}
use Rattle.std.specs.Fmt.{decimal}
use Rattle.call_report.specs.Lines.Agreement.{hops_line}
use Rattle.call_report.specs.Lines.Parts.{line_of}
use Rattle.static_law.specs.declared.uncovered.Uncovered.{Uncovered}
use Rattle.static_law.specs.declared.uncovered.Uncovered.TheVariants.{Differ, NoRange, Entry}

-- what is told of the hop with this number and the next one
unfoldable pub told_line : ℕ → List ℕ → List ℕ
told_line left told = line_of (codes "hop " ++ decimal left ++ codes " " ++ decimal (left + 1) ++ codes " " ++ told)

-- that the link is covered, or the first reason why not; a difference has the line of `agree`
abbrev pub link_line : ℕ → Option Uncovered → List ℕ
link_line left None = told_line left (codes "covered")
link_line left (Some (Differ difference)) = hops_line left (Some difference)
link_line left (Some NoRange) = told_line left (codes "uncovered NoRange")
link_line left (Some (Entry index)) = told_line left (codes "uncovered entry " ++ decimal index)

-- whether each link is covered
unfoldable pub coverage_line : Bool → List ℕ
coverage_line true = line_of (codes "covered")
coverage_line false = line_of (codes "uncovered")

-- the forms of the command line
unfoldable pub cover_usage_line : List ℕ
cover_usage_line = line_of (codes "usage: netlabel_cover <script> <flow> [<versions>]")
