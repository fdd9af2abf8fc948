-- The line of a capture that was made.
use Rattle.std.specs.Prelude.{ℕ, List, ◌++◌, codes}
use Rattle.std.specs.Fmt.{decimal}
use Rattle.call_report.specs.Lines.Parts.{line_of}

-- how many packets were made, and how many of them were delivered and denied
unfoldable pub made_line : ℕ → ℕ → ℕ → List ℕ
made_line count delivered denied = line_of (codes "made " ++ decimal count ++ codes " delivered " ++ decimal delivered ++ codes " denied " ++ decimal denied)
