-- The table of forms (netlabelctl(8)): for each row its fixed words, and its parameters in the order in which they are written.
use Rattle.std.specs.Prelude.{ℕ, Bool, true, false, ◌&&◌, ◌||◌, List, [], ◌∷◌, ◌++◌, codes, if◌then◌else◌}
use Rattle.std.specs.Str.{bytes_eq}
use Rattle.script_lines.specs.declared.row.Row.{Row}
use Rattle.script_lines.specs.declared.row.Row.TheVariants.{CipsoAddPass, CipsoAddTrans, CalipsoAddPass, CipsoDel, CalipsoDel, CipsoList, CalipsoList, MapAdd, MapDel, MapList, AcceptOn, AcceptOff, UnlblAdd, UnlblDel, UnlblList, ReceiverAdd, ReceiverDel, RangeAdd, RangeDel, PairAdd, PairDel, MgmtVersion, MgmtProtocols, CalipsoAddTrans, Reading}
use Rattle.script_lines.specs.declared.parameter.Parameter.{Parameter}
use Rattle.script_lines.specs.declared.parameter.Parameter.TheVariants.{Doi, Tags, Levels, Categories, Domain, Interface, Prefix, Protocol, Label, Address, Home, Level, Range, Four, Six, ReadingLevels, ReadingCategories}
use Rattle.script_lines.specs.declared.form.Slot.{Slot}

-- The editions of the grammar: the first; then ranges for static entries and receivers; then translated CALIPSO definitions and single
-- addresses of a domain. Code reads the last.
pub data Edition : Type 0 where
  with_labels : Edition
  with_ranges : Edition
  with_translations : Edition

-- a row's form: its fixed words, and the places of its parameters
pub record Form : Type 0 where
  pub fixed : List (List ℕ)
  pub slots : List Slot

-- a form by its two parts
abbrev pub form : List (List ℕ) → List Slot → Form
form fixed slots = record { fixed = fixed; slots = slots }

-- a parameter that has to be there
abbrev pub must : Parameter → Slot
must parameter = record { parameter = parameter; must = true }

-- a parameter that may be left out
abbrev pub may : Parameter → Slot
may parameter = record { parameter = parameter; must = false }

-- from the last edition on a prefix may be named
abbrev pub map_del_slots : Edition → List Slot
map_del_slots with_translations = must Domain ∷ may Prefix ∷ []
map_del_slots edition = must Domain ∷ []

-- the table of forms
abbrev pub form_of : Edition → Row → Form
form_of edition CipsoAddPass = form (codes "cipsov4" ∷ codes "add" ∷ codes "pass" ∷ []) (must Doi ∷ must Tags ∷ [])
form_of edition CipsoAddTrans = form (codes "cipsov4" ∷ codes "add" ∷ codes "trans" ∷ []) (must Doi ∷ must Tags ∷ must Levels ∷ may Categories ∷ [])
form_of edition CalipsoAddPass = form (codes "calipso" ∷ codes "add" ∷ codes "pass" ∷ []) (must Doi ∷ [])
form_of edition CipsoDel = form (codes "cipsov4" ∷ codes "del" ∷ []) (must Doi ∷ [])
form_of edition CalipsoDel = form (codes "calipso" ∷ codes "del" ∷ []) (must Doi ∷ [])
form_of edition CipsoList = form (codes "cipsov4" ∷ codes "list" ∷ []) (may Doi ∷ [])
form_of edition CalipsoList = form (codes "calipso" ∷ codes "list" ∷ []) (may Doi ∷ [])
form_of edition MapAdd = form (codes "map" ∷ codes "add" ∷ []) (must Domain ∷ may Prefix ∷ must Protocol ∷ [])
form_of edition MapDel = form (codes "map" ∷ codes "del" ∷ []) (map_del_slots edition)
form_of edition MapList = form (codes "map" ∷ codes "list" ∷ []) []
form_of edition AcceptOn = form (codes "unlbl" ∷ codes "accept" ∷ codes "on" ∷ []) []
form_of edition AcceptOff = form (codes "unlbl" ∷ codes "accept" ∷ codes "off" ∷ []) []
form_of edition UnlblAdd = form (codes "unlbl" ∷ codes "add" ∷ []) (must Interface ∷ must Prefix ∷ must Label ∷ [])
form_of edition UnlblDel = form (codes "unlbl" ∷ codes "del" ∷ []) (must Interface ∷ must Prefix ∷ [])
form_of edition UnlblList = form (codes "unlbl" ∷ codes "list" ∷ []) []
form_of edition ReceiverAdd = form (codes "receiver" ∷ codes "add" ∷ []) (must Address ∷ must Home ∷ must Level ∷ [])
form_of edition ReceiverDel = form (codes "receiver" ∷ codes "del" ∷ []) (must Address ∷ [])
form_of edition RangeAdd = form (codes "range" ∷ codes "add" ∷ []) (must Interface ∷ must Range ∷ [])
form_of edition RangeDel = form (codes "range" ∷ codes "del" ∷ []) (must Interface ∷ [])
form_of edition PairAdd = form (codes "pair" ∷ codes "add" ∷ []) (must Four ∷ must Six ∷ [])
form_of edition PairDel = form (codes "pair" ∷ codes "del" ∷ []) (must Four ∷ [])
form_of edition MgmtVersion = form (codes "mgmt" ∷ codes "version" ∷ []) []
form_of edition MgmtProtocols = form (codes "mgmt" ∷ codes "protocols" ∷ []) []
form_of edition CalipsoAddTrans = form (codes "calipso" ∷ codes "add" ∷ codes "trans" ∷ []) (must Doi ∷ must Levels ∷ may Categories ∷ [])
form_of edition Reading = form (codes "reading" ∷ []) (may ReadingLevels ∷ may ReadingCategories ∷ [])

-- the rows of commands that the first editions have
abbrev pub first_rows : List Row
first_rows = CipsoAddPass ∷ CipsoAddTrans ∷ CalipsoAddPass ∷ CipsoDel ∷ CalipsoDel ∷ CipsoList ∷ CalipsoList ∷ MapAdd ∷ MapDel ∷ MapList ∷ AcceptOn ∷ AcceptOff ∷ UnlblAdd ∷ UnlblDel ∷ UnlblList ∷ ReceiverAdd ∷ ReceiverDel ∷ RangeAdd ∷ RangeDel ∷ PairAdd ∷ PairDel ∷ MgmtVersion ∷ MgmtProtocols ∷ []

-- the rows of commands
abbrev pub rows_of : Edition → List Row
rows_of with_translations = first_rows ++ (CalipsoAddTrans ∷ [])
rows_of edition = first_rows

-- the rows that a line may be of: behind `netlabelctl` those of commands, else that of readings too
abbrev pub line_rows : Bool → Edition → List Row
line_rows led edition = if led then rows_of edition else Reading ∷ rows_of edition

-- how a parameter's words begin
abbrev pub key_text : Parameter → List ℕ
key_text Doi = codes "doi:"
key_text Tags = codes "tags:"
key_text Levels = codes "levels:"
key_text Categories = codes "categories:"
key_text Domain = codes "domain:"
key_text Interface = codes "interface:"
key_text Prefix = codes "address:"
key_text Protocol = codes "protocol:"
key_text Label = codes "label:"
key_text Address = codes "address:"
key_text Home = codes "domain:"
key_text Level = codes "level:"
key_text Range = codes "range:"
key_text Four = codes "address4:"
key_text Six = codes "address6:"
key_text ReadingLevels = codes "levels:"
key_text ReadingCategories = codes "categories:"

-- the word `default` is spelled for it too
abbrev pub has_default : Parameter → Bool
has_default Domain = true
has_default Interface = true
has_default parameter = false

-- a word that begins so is the parameter's
abbrev pub is_key : Parameter → List ℕ → Bool
is_key parameter key = bytes_eq key (key_text parameter) || (has_default parameter && bytes_eq key (codes "default"))
