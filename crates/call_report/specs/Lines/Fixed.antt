-- Lines that say one thing.
use Rattle.std.specs.Prelude.{ℕ, List, codes}
use Rattle.call_report.specs.Lines.Parts.{line_of}

-- the forms of the command line
unfoldable pub usage_line : List ℕ
usage_line = line_of (codes "usage: netlabel run <script> [-w <n>] | judge <doi> <level> <file> | check <script> | show <capture> | agree <script> <flow> [<versions>] | make <number> <count> <capture>")

-- a file that is longer than any packet
unfoldable pub packet_limit_line : List ℕ
packet_limit_line = line_of (codes "limit packet 65575")

-- more packets than one call reads
unfoldable pub packets_limit_line : List ℕ
packets_limit_line = line_of (codes "limit packets 1048576")

-- all flows of a script were carried out
unfoldable pub done_line : List ℕ
done_line = line_of (codes "done")
