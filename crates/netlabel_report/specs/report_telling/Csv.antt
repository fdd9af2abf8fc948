-- Lines as records of CSV (RFC 4180): a column for each field, numbers as they stand, texts in quotes.
use Rattle.std.specs.Prelude.{ℕ, List, [], ◌∷◌, ◌++◌, codes, Option, Some, None, if◌then◌else◌}
use Rattle.std.specs.Fmt.{decimal}
use Rattle.call_report.specs.declared.report_lines.form.Form.{Form}
use Rattle.call_report.specs.declared.report_lines.slot.Field.{Field}
use Rattle.call_report.specs.declared.report_lines.slot.Field.TheVariants as name
use Rattle.call_report.specs.report_lines.Slot.{is_number}
use Rattle.call_report.specs.report_lines.Form.{slots_of, form_name}
use Rattle.call_report.specs.report_lines.Line.{line_words}
use Rattle.call_report.specs.report_lines.Told.{is_field, told_word}
use Rattle.netlabel_report.specs.report_telling.Quoted.{quoted}

-- the columns between the name of the line and the text of a listed one
unfoldable pub columns : List Field
columns = name.Step ∷ name.Node ∷ name.Answer ∷ name.Lines ∷ name.Flow ∷ name.Input ∷ name.Number ∷ name.Became ∷ name.Label ∷ name.Receiver ∷ name.Carrier ∷ name.Denial ∷ name.Name
    ∷ name.Octet ∷ name.Category ∷ name.Cause ∷ name.Hop ∷ name.Versions ∷ name.Packets ∷ name.Passed ∷ name.Denied ∷ name.Capture ∷ name.Kind ∷ name.Line ∷ name.Limit ∷ name.Most
    ∷ name.Nodes ∷ name.Commands ∷ name.Flows ∷ []

-- the names of all columns
unfoldable pub heading : List ℕ
heading = codes "report,line,step,node,answer,lines,flow,input,number,became,label,receiver,carrier,denial,name,octet,category,cause,hop,versions,packets,passed,denied,capture,kind,at,limit,most,nodes,commands,flows,text\n"

-- nothing for nothing, a number as it stands, another text in quotes
abbrev pub cell_text : List ℕ → List ℕ
cell_text [] = []
cell_text (first ∷ text) = if is_number (first ∷ text) then first ∷ text else quoted 34 (first ∷ text)

-- the cell of a column: what the line tells there, or the line in the script at which its command stands
abbrev pub cell_in : Option ℕ → Field → Form → List ℕ → List ℕ
cell_in None field form line = cell_text (told_word field (slots_of form) (line_words line))
cell_in (Some at) field form line = if is_field name.Line field then decimal at else cell_text (told_word field (slots_of form) (line_words line))

-- the cells of these columns, a comma in front of each
abbrev pub cells_text : List Field → Option ℕ → Form → List ℕ → List ℕ
cells_text [] at form line = []
cells_text (field ∷ fields) at form line = 44 ∷ cell_in at field form line ++ cells_text fields at form line

-- how a record begins: the report's number, and what it tells of
abbrev pub row_begin : ℕ → List ℕ → List ℕ
row_begin report name = decimal report ++ 44 ∷ name

-- so many cells are empty
abbrev pub no_cells : List ℕ
no_cells = codes ",,,,,,,,,,,,,,,,,,,,,,,,,,,,,,"

-- a line of the report of this number, and the line in the script at which its command stands
unfoldable pub csv_text : Option ℕ → ℕ → Form → List ℕ → List ℕ
csv_text at report form line = row_begin report (form_name form) ++ cells_text columns at form line ++ codes ",\n"

-- a line of a listing
unfoldable pub listed_csv : ℕ → List ℕ → List ℕ
listed_csv report line = row_begin report (codes "listed") ++ no_cells ++ quoted 34 line ++ 10 ∷ []

-- a report that ends early
unfoldable pub unfinished_csv : ℕ → List ℕ
unfinished_csv report = row_begin report (codes "unfinished") ++ no_cells ++ 10 ∷ []
