-- Worked rows: what lines say, in which edition, and how it is written.
use Rattle.std.specs.Prelude.{◌≡◌, ℕ, false, List, [], ◌∷◌, length, codes, Result, Ok, Err, Option, Some, None, refl}
use Rattle.std.specs.List.{join_with_byte}
use Rattle.std.specs.Fmt.{digits}
use Rattle.std.specs.Net.Reader.{read_ipv4, read_octet, read_number, read_ipv6, read_segment, read_segments}
use Rattle.std.specs.Net.Text.{hex_groups_text, hex}
use Rattle.script_lines.specs.declared.stop.ScriptKind.{ScriptKind}
use Rattle.script_lines.specs.declared.stop.ScriptKind.TheVariants.{Word, Value, Extra, Missing}
use Rattle.script_lines.specs.declared.stop.LineStop.{LineStop}
use Rattle.script_lines.specs.Word.{words_of_line}
use Rattle.script_lines.specs.Stop.{fault}
use Rattle.domain_map.specs.address_text.Address.{address_of_text}
use Rattle.mls_range.specs.LabelText.{cats_of_terms}
use Rattle.mls_range.specs.Range.{LabelRange}
use Rattle.mls_range.specs.Computed.{terms_of_text, label_of_text, range_of_text}
use Rattle.script_lines.specs.declared.said.Said.{Said}
use Rattle.script_lines.specs.Form.{Edition, with_labels, with_ranges, line_rows, with_translations}
use Rattle.script_lines.specs.Said.{read_said}
use Rattle.script_lines.specs.Command.{texts_of_said}

abbrev said_by : Edition → List ℕ → Result Said LineStop
said_by edition line = read_said edition (line_rows false edition) (length line) (words_of_line line)

abbrev stops : Edition → List ℕ → ℕ → ScriptKind → Type 0
stops edition line octet kind = said_by edition line ≡ Err (fault octet kind)

words : stops with_labels (codes "frob x") 0 Word × stops with_labels (codes "unlbl accept x") 13 Word × stops with_labels (codes "netlabelctl map list") 0 Word × stops with_labels (codes "cipso frob") 6 Word × stops with_labels (codes "calipso add trans doi:1 levels:1=1") 12 Word
words = (refl, refl, refl, refl, refl)

parameters : stops with_labels (codes "cipsov4 list default") 13 Word × stops with_labels (codes "reading x") 8 Word × stops with_labels (codes "cipsov4 add pass doi:1 doi:0 tags:1") 23 Word × stops with_labels (codes "map add default domain:d protocol:unlbl") 16 Word × stops with_labels (codes "cipsov4 add pass doi:1 tags:1 levels:0=0") 30 Word
unfolding digits
parameters = (refl, refl, refl, refl, refl)

extras : stops with_labels (codes "unlbl accept on on") 16 Extra × stops with_labels (codes "map list default") 9 Extra × stops with_labels (codes "mgmt version x") 13 Extra
extras = (refl, refl, refl)

missing : stops with_labels (codes "map add default") 15 Missing × stops with_labels (codes "map add default  # x") 20 Missing × stops with_labels (codes "map add") 7 Missing × stops with_labels (codes "map") 3 Missing × stops with_labels (codes "cipsov4 add") 11 Missing
unfolding digits
missing = (refl, refl, refl, refl, refl)

values : stops with_labels (codes "cipsov4 add pass doi:0 tags:1") 17 Value × stops with_labels (codes "cipsov4 del doi:01") 12 Value × stops with_labels (codes "cipsov4 del doi:4294967296") 12 Value × stops with_labels (codes "cipsov4 add pass doi:1 tags:1,") 23 Value × stops with_labels (codes "cipsov4 add pass doi:1 tags:1,1,1,1,1,1") 23 Value × stops with_labels (codes "cipsov4 add pass doi:1 tags:") 23 Value × stops with_labels (codes "cipsov4 add trans doi:1 tags:1 levels:256=0") 31 Value × stops with_labels (codes "map add default protocol:cipso,0") 16 Value
unfolding digits
values = (refl, refl, refl, refl, refl, refl, refl, refl)

address_values : stops with_labels (codes "unlbl del default address:10.0.0.0/08") 18 Value × stops with_labels (codes "unlbl del default address:::/129") 18 Value × stops with_labels (codes "pair add address4:1.2.3.4 address6:1::2::3") 26 Value × stops with_labels (codes "pair del address4:1.2.3") 9 Value
unfolding digits address_of_text read_ipv4 read_octet read_number read_ipv6 read_segment read_segments
address_values = (refl, refl, refl, refl)

range_values : stops with_labels (codes "receiver add address:1.2.3.4 domain:d level:s0-s1") 38 Value × stops with_ranges (codes "range add default range:s1-s0") 18 Value × stops with_ranges (codes "map del default address:10.0.0.0/8") 16 Word × stops with_labels (codes "unlbl add default address:0.0.0.0/0 label:s0:c1:x:s") 36 Value
unfolding digits address_of_text read_ipv4 read_octet read_number read_ipv6 read_segment read_segments hex_groups_text hex terms_of_text label_of_text range_of_text
range_values = (refl, refl, refl, refl)

abbrev ends : ℕ → ℕ → List (ℕ × ℕ) → Option LabelRange
ends low high terms = Some (record { low = record { level = low; cats = cats_of_terms [] }; high = record { level = high; cats = cats_of_terms terms } })

abbrev below : ℕ → Option LabelRange
below high = Some (record { low = record { level = 0; cats = [] }; high = record { level = high; cats = cats_of_terms [] } })

abbrev level_of : Result Said LineStop → Option LabelRange
level_of (Ok said) = said.fields.level
level_of (Err stop) = None

abbrev label_by : Result Said LineStop → Option LabelRange
label_by (Ok said) = said.fields.label
label_by (Err stop) = None

levels : (level_of (said_by with_ranges (codes "receiver add level:s0-s1:c0.c2 domain:d address:1.2.3.4")) ≡ ends 0 1 ((0, 2) ∷ [])) × (level_of (said_by with_ranges (codes "receiver add address:1.2.3.4 domain:d level:s1")) ≡ below 1) × (level_of (said_by with_labels (codes "receiver add address:1.2.3.4 domain:d level:s1")) ≡ below 1)
unfolding digits address_of_text read_ipv4 read_octet read_number terms_of_text label_of_text range_of_text
levels = (refl, refl, refl)

labels : (label_by (said_by with_ranges (codes "unlbl add default address:10.1.2.3/8 label:u:r:t:s1-s2")) ≡ ends 1 2 []) × (label_by (said_by with_labels (codes "unlbl add label:s0:c1:x:s5 interface:e address:10.1.2.3")) ≡ ends 5 5 []) × (label_by (said_by with_ranges (codes "unlbl add label:s0:c1:x:s5 interface:e address:10.1.2.3")) ≡ ends 5 5 [])
unfolding digits address_of_text read_ipv4 read_octet read_number terms_of_text label_of_text range_of_text
labels = (refl, refl, refl)

-- ---- written

abbrev written_again : Result Said LineStop → List ℕ
written_again (Ok said) = join_with_byte 32 (texts_of_said said)
written_again (Err stop) = []

abbrev is_written : Edition → List ℕ → List ℕ → Type 0
is_written edition line text = written_again (said_by edition line) ≡ text

written : is_written with_labels (codes "cipso add trans  levels:0=5,1=5 tags:1 doi:8") (codes "cipsov4 add trans doi:8 tags:1 levels:0=5,1=5") × is_written with_labels (codes "map add protocol:cipso,8 default") (codes "map add default protocol:cipsov4,8") × is_written with_labels (codes "cipsov4 add pass tags:2,1 doi:16") (codes "cipsov4 add pass doi:16 tags:2,1") × is_written with_labels (codes "cipsov4 list") (codes "cipsov4 list") × is_written with_translations (codes "calipso add trans categories:1=0 doi:9 levels:2=7") (codes "calipso add trans doi:9 levels:2=7 categories:1=0") × is_written with_labels (codes "reading categories:1=2,2=1 levels:255=4294967295") (codes "reading levels:255=4294967295 categories:1=2,2=1") × is_written with_labels (codes "reading") (codes "reading")
unfolding digits
written = (refl, refl, refl, refl, refl, refl, refl)

written_addresses : is_written with_translations (codes "map del address:10.1.2.3/16 domain:web_t") (codes "map del domain:web_t address:10.1.0.0/16") × is_written with_labels (codes "pair add address6:FD00::0:1 address4:1.2.3.4") (codes "pair add address4:1.2.3.4 address6:fd00::1")
unfolding digits address_of_text read_ipv4 read_octet read_number read_ipv6 read_segment read_segments hex_groups_text hex
written_addresses = (refl, refl)
