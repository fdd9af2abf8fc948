-- What is printed of a report.
use Rattle.std.specs.Prelude.{ℕ, List, ◌++◌, codes}
use Rattle.std.specs.Fmt.{decimal}
use Rattle.call_report.specs.Lines.Parts.{line_of}

-- it is one that a run may print
unfoldable pub yes_line : List ℕ
yes_line = line_of (codes "yes")

-- the line of this number, counted from 1, is the first that no run prints there
unfoldable pub no_line : ℕ → List ℕ
no_line line = line_of (codes "no line " ++ decimal line)

-- it is longer than an audit reads
unfoldable pub report_limit_line : List ℕ
report_limit_line = line_of (codes "limit report 268435456")

-- the form of the command line
unfoldable pub audit_usage_line : List ℕ
audit_usage_line = line_of (codes "usage: netlabel_audit <script> <report> <n>")
