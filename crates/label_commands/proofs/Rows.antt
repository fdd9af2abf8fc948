-- Worked rows: what scripts say, in which edition.
use Rattle.std.specs.Prelude.{◌≡◌, ℕ, List, [], ◌∷◌, ◌++◌, length, map, flat_map, codes, decimal, Result, Ok, Err, refl}
use Rattle.std.specs.List.{range_with_len}
use Rattle.std.specs.Fmt.{digits}
use Rattle.std.specs.Net.Reader.{read_ipv4, read_octet, read_number, read_ipv6, read_segment, read_segments}
use Rattle.std.specs.Net.Text.{hex_groups_text, hex}
use Rattle.script_lines.specs.declared.stop.ScriptKind.{ScriptKind}
use Rattle.script_lines.specs.declared.stop.ScriptKind.TheVariants.{Octet, Word, NoNode, Value, UnknownNode, HopOrder, NameTwice, Extra, Missing, ReadingTwice, NotIncreasing, NotDistinct}
use Rattle.script_lines.specs.declared.stop.LimitName.{LimitName}
use Rattle.script_lines.specs.declared.stop.LimitName.TheVariants.{Nodes, Hops}
use Rattle.domain_map.specs.address_text.Address.{address_of_text}
use Rattle.mls_range.specs.Computed.{terms_of_text, label_of_text, range_of_text}
use Rattle.label_commands.specs.node_readings.Reading.{NamedMeanings, is_increasing}
use Rattle.script_lines.specs.Form.{Edition, with_labels, with_ranges, with_translations}
use Rattle.script_lines.specs.Command.{command_text}
use Rattle.label_commands.specs.flow_lines.HopText.{read_hop}
use Rattle.label_commands.specs.flow_lines.Flow.{read_flow}
use Rattle.label_commands.specs.declared.script.Script.{Script}
use Rattle.label_commands.specs.declared.stop.ScriptStop.{ScriptStop}
use Rattle.label_commands.specs.declared.stop.ScriptStop.TheVariants as Stop
use Rattle.label_commands.specs.Line.{read_led, starts_table, read_words, limit_passed, read_line}
use Rattle.label_commands.specs.Script.{passed, read_text, no_meanings, before, after}

-- lines, each with its LF
abbrev text_of : List (List ℕ) → List ℕ
text_of lines = flat_map (λ line. line ++ 10 ∷ []) lines

abbrev under_a : List ℕ → List ℕ
under_a line = text_of (codes "node a" ∷ line ∷ [])

abbrev stops : Edition → List ℕ → ℕ → ℕ → ScriptKind → Type 0
stops edition text line octet kind = read_text edition (codes "s") text ≡ Err (Stop.Fault (record { line = line; octet = octet; kind = kind }))

abbrev passes : List ℕ → LimitName → Type 0
passes text what = read_text with_labels (codes "s") text ≡ Err (passed what)

abbrev steps_of : Result Script ScriptStop → List (List ℕ)
steps_of (Ok script) = map (λ step. command_text step.command) script.steps
steps_of (Err stop) = []

abbrev flow_count : Result Script ScriptStop → ℕ
flow_count (Ok script) = length script.flows
flow_count (Err stop) = 0

abbrev readings_of : Result Script ScriptStop → List NamedMeanings
readings_of (Ok script) = script.readings
readings_of (Err stop) = []

abbrev node_lines : ℕ → List (List ℕ)
node_lines n = map (λ i. codes "node n" ++ decimal i) (range_with_len 0 n)

abbrev forwards : List ℕ
forwards = codes "forward:a,e,f,d forward:a,e,f,d forward:a,e,f,d forward:a,e,f,d forward:a,e,f,d forward:a,e,f,d forward:a,e,f,d forward:a,e,f,d forward:a,e,f,d forward:a,e,f,d forward:a,e,f,d forward:a,e,f,d forward:a,e,f,d forward:a,e,f,d forward:a,e,f,d "

above_nodes : stops with_labels (text_of (codes "map list" ∷ [])) 1 0 NoNode × stops with_labels (text_of (codes "netlabelctl" ∷ [])) 1 0 NoNode × stops with_labels (text_of (codes "netlabelctl frob" ∷ [])) 1 0 NoNode × stops with_labels (text_of (codes "netlabelctl node a" ∷ [])) 1 0 NoNode × stops with_labels (text_of (codes " reading" ∷ [])) 1 1 NoNode × stops with_labels (text_of (codes "cipso frob" ∷ [])) 1 0 NoNode × stops with_labels (text_of (codes "frob x" ∷ [])) 1 0 Word
unfolding digits read_text read_line read_words limit_passed starts_table read_led
above_nodes = (refl, refl, refl, refl, refl, refl, refl)

words : stops with_labels (under_a (codes "frob x")) 2 0 Word × stops with_labels (under_a (codes "netlabelctl node a")) 2 12 Word × stops with_labels (under_a (codes "netlabelctl reading")) 2 12 Word × stops with_labels (under_a (codes "unlbl accept x")) 2 13 Word × stops with_labels (under_a (codes "cipsov4 list default")) 2 13 Word × stops with_labels (under_a (codes "reading x")) 2 8 Word × stops with_labels (under_a (codes "cipsov4 add pass doi:1 doi:0 tags:1")) 2 23 Word × stops with_ranges (under_a (codes "map del default address:10.0.0.0/8")) 2 16 Word
unfolding digits read_text read_line read_words limit_passed starts_table read_led
words = (refl, refl, refl, refl, refl, refl, refl, refl)

octets : stops with_labels (codes "node a" ++ 1 ∷ []) 1 6 Octet × stops with_labels (codes "node a" ++ 13 ∷ []) 1 6 Octet × stops with_labels (codes "frob" ++ 127 ∷ []) 1 4 Octet
unfolding digits read_text read_line read_words limit_passed starts_table read_led
octets = (refl, refl, refl)

ends : stops with_labels (codes "node a" ++ 13 ∷ 10 ∷ codes "map add" ++ 13 ∷ 10 ∷ []) 2 7 Missing × stops with_labels (under_a (codes "netlabelctl")) 2 11 Missing × stops with_labels (under_a (codes "map add default")) 2 15 Missing × stops with_labels (under_a (codes "map add default  # x")) 2 20 Missing × stops with_labels (text_of (codes "node  # a" ∷ [])) 1 9 Missing × stops with_labels (under_a (codes "flow x -  ")) 2 10 Missing
unfolding digits read_text read_line read_words limit_passed starts_table read_led read_flow read_hop
ends = (refl, refl, refl, refl, refl, refl)

extras : stops with_labels (under_a (codes "unlbl accept on on")) 2 16 Extra × stops with_labels (under_a (codes "map list default")) 2 9 Extra × stops with_labels (text_of (codes "node a b" ∷ [])) 1 7 Extra
unfolding digits read_text read_line read_words limit_passed starts_table read_led
extras = (refl, refl, refl)

values : stops with_labels (under_a (codes "cipsov4 add pass doi:0 tags:1")) 2 17 Value × stops with_labels (under_a (codes "cipsov4 del doi:01")) 2 12 Value × stops with_labels (under_a (codes "cipsov4 add pass doi:1 tags:1,")) 2 23 Value × stops with_labels (text_of (codes "node !" ∷ [])) 1 5 Value × stops with_labels (text_of (codes "node ! b" ∷ [])) 1 5 Value × stops with_labels (under_a (codes "reading levels:256=0")) 2 8 Value
unfolding digits read_text read_line read_words limit_passed starts_table read_led
values = (refl, refl, refl, refl, refl, refl)

more_values : stops with_labels (under_a (codes "unlbl del default address:10.0.0.0/08")) 2 18 Value × stops with_labels (under_a (codes "receiver add address:1.2.3.4 domain:d level:s0-s1")) 2 38 Value × stops with_labels (under_a (codes "unlbl add default address:0.0.0.0/0 label:s0:c1:x:s")) 2 36 Value × stops with_ranges (under_a (codes "range add default range:s1-s0")) 2 18 Value
unfolding digits read_text read_line read_words limit_passed starts_table read_led address_of_text read_ipv4 read_octet read_number read_ipv6 read_segment read_segments hex_groups_text hex terms_of_text label_of_text range_of_text
more_values = (refl, refl, refl, refl)

flows : stops with_labels (under_a (codes "flow x - receive:b,eth0")) 2 9 UnknownNode × stops with_labels (under_a (codes "flow x - receive:a,eth0 receive:a,eth0")) 2 9 HopOrder × stops with_labels (under_a (codes "flow x - forward:a,e,f,d send:a,d,e,s0")) 2 25 HopOrder × stops with_labels (under_a (codes "flow s s receive:a,e")) 2 7 NameTwice × stops with_labels (under_a (codes "flow x s receive:a,e")) 2 7 NameTwice × stops with_labels (text_of (codes "node r" ∷ codes "flow a.pcap a.pcap receive:r,eth0" ∷ [])) 2 12 NameTwice × stops with_labels (text_of (codes "node a" ∷ codes "flow x y receive:a,e" ∷ codes "flow y - receive:a,e" ∷ [])) 3 5 NameTwice × stops with_labels (under_a (codes "flow -x y receive:a,e")) 2 5 Value
unfolding digits read_text read_line read_words limit_passed starts_table read_led read_flow read_hop terms_of_text label_of_text range_of_text
flows = (refl, refl, refl, refl, refl, refl, refl, refl)

readings : stops with_labels (under_a (codes "reading levels:0=5")) 2 0 NotIncreasing × stops with_labels (under_a (codes " reading categories:1=5,1=6")) 2 1 NotDistinct × stops with_labels (under_a (codes "reading categories:1=2")) 2 0 NotDistinct × stops with_labels (under_a (codes "reading levels:0=0,0=9")) 2 0 NotDistinct × stops with_labels (text_of (codes "node a" ∷ codes "reading" ∷ codes "reading levels:0=5" ∷ [])) 3 0 ReadingTwice × stops with_labels (text_of (codes "node a" ∷ codes "reading" ∷ codes "node b" ∷ codes "reading" ∷ codes "node a" ∷ codes "reading" ∷ [])) 6 0 ReadingTwice
unfolding digits read_text read_line read_words limit_passed starts_table read_led is_increasing
readings = (refl, refl, refl, refl, refl, refl)

limits : passes (text_of (node_lines 33)) Nodes × stops with_labels (text_of (node_lines 32 ++ codes "node n0" ∷ codes "node !" ∷ [])) 34 5 Value × passes (text_of (node_lines 32 ++ codes "node n0" ∷ codes "node m b" ∷ [])) Nodes × stops with_labels (under_a (codes "flow x - " ++ forwards ++ codes "receive:a,e b")) 2 249 HopOrder × passes (under_a (codes "flow x - " ++ forwards ++ codes "forward:a,e,f,d b")) Hops × flow_count (read_text with_labels (codes "s") (under_a (codes "flow x - " ++ forwards ++ codes "receive:a,e"))) ≡ 1
unfolding digits read_text read_line read_words limit_passed starts_table read_led read_flow read_hop
limits = (refl, refl, refl, refl, refl, refl)

steps : steps_of (read_text with_labels (codes "s") (text_of (codes "node a" ∷ codes "cipsov4 add trans doi:8 tags:1 levels:0=5,1=5" ∷ codes "map add default protocol:cipsov4,8" ∷ codes "cipso add pass tags:1 doi:16" ∷ codes "map add default protocol:cipsov4,16" ∷ codes "cipsov4 del doi:16" ∷ codes "cipsov4 list" ∷ []))) ≡ codes "cipsov4 add trans doi:8 tags:1 levels:0=5,1=5" ∷ codes "map add default protocol:cipsov4,8" ∷ codes "cipsov4 add pass doi:16 tags:1" ∷ codes "map add default protocol:cipsov4,16" ∷ codes "cipsov4 del doi:16" ∷ codes "cipsov4 list" ∷ [] × steps_of (read_text with_translations (codes "s") (text_of (codes "node a" ∷ codes "netlabelctl calipso add trans categories:1=0 doi:9 levels:2=7" ∷ codes "" ∷ codes "map del domain:web_t address:10.1.0.0/16" ∷ []))) ≡ codes "calipso add trans doi:9 levels:2=7 categories:1=0" ∷ codes "map del domain:web_t address:10.1.0.0/16" ∷ []
unfolding digits read_text read_line read_words limit_passed starts_table read_led address_of_text read_ipv4 read_octet read_number read_ipv6 read_segment read_segments hex_groups_text hex
steps = (refl, refl)

meanings : readings_of (read_text with_labels (codes "s") (text_of (codes "node a" ∷ codes "node b" ∷ codes "node c" ∷ codes "reading categories:1=2,2=1,7=7 levels:255=4294967295" ∷ codes "node a" ∷ codes "reading categories:7=1,8=3,1=7,3=8" ∷ []))) ≡ record { levels = []; cats = (7, 1) ∷ (8, 3) ∷ (1, 7) ∷ (3, 8) ∷ [] } ∷ no_meanings ∷ record { levels = (255, 4294967295) ∷ []; cats = (1, 2) ∷ (2, 1) ∷ (7, 7) ∷ [] } ∷ []
unfolding digits read_text read_line read_words limit_passed starts_table read_led is_increasing
meanings = refl

abbrev row_fifteen : List ℕ
row_fifteen = text_of (codes "node r" ∷ codes "unlbl accept on" ∷ codes "flow one.pcap - receive:r,eth0" ∷ codes "flow one.pcap - receive:r,eth0" ∷ codes "unlbl accept off" ∷ codes "flow one.pcap - receive:r,eth0" ∷ [])

abbrev counts : Result Script ScriptStop → List (ℕ × ℕ)
counts (Ok script) = map (λ flow. (before script flow, after script flow)) (range_with_len 0 (length script.flows))
counts (Err stop) = []

commands_between : counts (read_text with_labels (codes "s") row_fifteen) ≡ (1, 1) ∷ (1, 2) ∷ (2, 2) ∷ []
unfolding digits read_text read_line read_words limit_passed starts_table read_led read_flow read_hop
commands_between = refl
