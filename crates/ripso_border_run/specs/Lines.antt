-- Printed lines: what became of a packet, how many there were, and why a script can't serve.
use Rattle.std.specs.Prelude.{ℕ, List, ◌++◌, codes, Result, Ok, Err}
use Rattle.std.specs.Fmt.{decimal}
use Rattle.packet_label.specs.declared.denial.Denial.{Denial}
use Rattle.call_report.specs.Lines.Denial.{denial_text}
use Rattle.call_report.specs.Lines.Packet.{shown_line}
use Rattle.call_report.specs.Lines.Parts.{line_of}

-- what is made of a frame: the octets of a packet, or why there is none
abbrev pub Made : Type 0
Made = Result (List ℕ) Denial

abbrev pub made_text : Made → List ℕ
made_text (Ok octets) = codes "written"
made_text (Err why) = denial_text why

-- of the frame with this number, counted from 1
abbrev pub made_packet_line : ℕ → Made → List ℕ
made_packet_line number made = shown_line number (made_text made)

-- how many packets there were
unfoldable pub counts_text : ℕ → List ℕ
counts_text packets = codes "end packets " ++ decimal packets

-- and how many of them were written and denied
unfoldable pub crossed_end_line : ℕ → ℕ → ℕ → List ℕ
crossed_end_line packets passed denied =
    line_of (counts_text packets ++ codes " passed " ++ decimal passed ++ codes " denied " ++ decimal denied)

-- the output is the script or the input
unfoldable pub name_twice_line : List ℕ
name_twice_line = line_of (codes "script line 0 octet 0 NameTwice")

-- the script's first node, if it has one, doesn't define the DOI
unfoldable pub no_doi_line : List ℕ
no_doi_line = line_of (codes "script line 0 octet 0 NoDoi")

-- the forms of the command line
unfoldable pub border_usage_line : List ℕ
border_usage_line = line_of (codes "usage: ripso_border in|out <script> <doi> <input> <output>")
