-- Lines of agreement: whether two neighbouring hops of a flow agree, whether all do, and why none are compared. Hops are counted from 1.
use Rattle.std.specs.Prelude.{ℕ, ◌+◌, Bool, true, false, List, ◌++◌, codes, Option, Some, None}
use Rattle.std.specs.Fmt.{decimal}
use Rattle.mls_label.specs.declared.label.Proto.{Proto}
use Rattle.mls_label.specs.declared.label.Proto.TheVariants.{Cipso, Calipso}
use Rattle.label_flow.specs.declared.node_agreement.disagree.Disagree.{Disagree}
use Rattle.call_report.specs.Lines.Parts.{line_of}

abbrev pub proto_name : Proto → List ℕ
proto_name Cipso = codes "cipsov4"
proto_name Calipso = codes "calipso"

abbrev pub level_or_category : Bool → List ℕ
level_or_category true = codes "level"
level_or_category false = codes "category"

-- which number on the wire has two meanings: its protocol and DOI, whether it is a level, and the number
abbrev pub number_of_difference : Disagree → List ℕ
number_of_difference d = proto_name d.proto ++ codes " " ++ decimal d.doi ++ codes " " ++ level_or_category d.level ++ codes " " ++ decimal d.wire

-- that two nodes agree, or their first difference with what its number means at the left node and at the right one
abbrev pub found_text : Option Disagree → List ℕ
found_text None = codes "agree"
found_text (Some d) = codes "disagree " ++ number_of_difference d ++ codes " " ++ decimal d.left ++ codes " " ++ decimal d.right

-- of the hop with this number and the next one
unfoldable pub hops_line : ℕ → Option Disagree → List ℕ
hops_line left found = line_of (codes "hop " ++ decimal left ++ codes " " ++ decimal (left + 1) ++ codes " " ++ found_text found)

-- whether every two neighbouring hops agree
unfoldable pub agreement_line : Bool → List ℕ
agreement_line true = line_of (codes "agree")
agreement_line false = line_of (codes "disagree")

-- the script has no flow of this number
unfoldable pub no_flow_line : List ℕ
no_flow_line = line_of (codes "script line 0 octet 0 NoFlow")

-- the versions are none that a packet of the flow can have
unfoldable pub bad_versions_line : List ℕ
bad_versions_line = line_of (codes "script line 0 octet 0 BadVersions")
