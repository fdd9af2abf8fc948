-- Worked lines, computed.
use Rattle.std.specs.Prelude.{ℕ, ◌≡◌, List, [], ◌∷◌, ◌++◌, length, drop, codes, Some, None, Result, Ok, Err, refl}
use Rattle.std.specs.Fmt.{digits}
use Rattle.mls_range.specs.LabelText.{cats_of_terms}
use Rattle.mls_range.specs.Computed.{terms_of_text, label_of_text}
use Rattle.script_lines.specs.declared.stop.ScriptKind.TheVariants as Kind
use Rattle.script_lines.specs.declared.stop.LimitName.TheVariants as Limit
use Rattle.script_lines.specs.declared.stop.LineStop.{LineStop}
use Rattle.script_lines.specs.declared.stop.LineStop.TheVariants as Stop
use Rattle.script_lines.specs.Word.{words_of_line}
use Rattle.script_lines.specs.Stop.{fault}
use Rattle.label_commands.specs.declared.flow_lines.hop.Hop.TheVariants.{Send, Forward, Receive}
use Rattle.label_commands.specs.declared.flow_lines.flow.FlowLine.{FlowLine}
use Rattle.label_commands.specs.flow_lines.HopText.{read_hop}
use Rattle.label_commands.specs.flow_lines.Flow.{read_flow}

-- a line of the script `s`, behind `node a`, four commands and the flow `flow x y receive:a,e`
abbrev above : List FlowLine
above = (record { input = codes "x"; output = Some (codes "y"); hops = Receive 0 (codes "e") ∷ []; before = 2 }) ∷ []

abbrev said : List ℕ → Result FlowLine LineStop
said line = read_flow (codes "s") (codes "a" ∷ codes "b" ∷ []) above 4 (length line) (drop 1 (words_of_line line))

abbrev hop_count : Result FlowLine LineStop → ℕ
hop_count (Ok flow) = length flow.hops
hop_count (Err stop) = 0

whole : said (codes "flow z.pcap - send:a,d,e,s1:c3,c5  forward:b,e,f,d receive:a,e # x") ≡ Ok (record {
  input = codes "z.pcap";
  output = None;
  hops = Send 0 (codes "d") (codes "e") (record { level = 1; cats = cats_of_terms ((3, 3) ∷ (5, 5) ∷ []) }) ∷ Forward 1 (codes "e") (codes "f") (codes "d") ∷ Receive 0 (codes "e") ∷ [];
  before = 4;
})
unfolding read_flow read_hop label_of_text terms_of_text digits
whole = refl

unknown : said (codes "flow z - receive:c,eth0") ≡ Err (fault 9 Kind.UnknownNode)
unfolding read_flow read_hop
unknown = refl

same : said (codes "flow a.pcap a.pcap receive:a,eth0") ≡ Err (fault 12 Kind.NameTwice)
unfolding read_flow read_hop
same = refl

early : said (codes "flow z - receive:a,eth0 receive:a,eth0") ≡ Err (fault 9 Kind.HopOrder)
unfolding read_flow read_hop
early = refl

late : said (codes "flow z - forward:a,e,f,d send:a,d,e,s0") ≡ Err (fault 25 Kind.HopOrder)
unfolding read_flow read_hop label_of_text terms_of_text digits
late = refl

own_both : said (codes "flow s s receive:a,e") ≡ Err (fault 7 Kind.NameTwice)
unfolding read_flow read_hop
own_both = refl

own_input : said (codes "flow s z receive:a,e") ≡ Ok (record { input = codes "s"; output = Some (codes "z"); hops = Receive 0 (codes "e") ∷ []; before = 4 })
unfolding read_flow read_hop
own_input = refl

own_output : said (codes "flow z s receive:a,e") ≡ Err (fault 7 Kind.NameTwice)
unfolding read_flow read_hop
own_output = refl

from_output : said (codes "flow y - receive:a,e") ≡ Err (fault 5 Kind.NameTwice)
unfolding read_flow read_hop
from_output = refl

to_input : said (codes "flow z x receive:a,e") ≡ Err (fault 7 Kind.NameTwice)
unfolding read_flow read_hop
to_input = refl

to_output : said (codes "flow z y receive:a,e") ≡ Err (fault 7 Kind.NameTwice)
unfolding read_flow read_hop
to_output = refl

again : hop_count (said (codes "flow x - receive:a,e")) ≡ 1
unfolding read_flow read_hop
again = refl

dash : said (codes "flow -x y receive:a,e") ≡ Err (fault 5 Kind.Value)
unfolding read_flow read_hop
dash = refl

no_hop : said (codes "flow z -  ") ≡ Err (fault 10 Kind.Missing)
unfolding read_flow read_hop
no_hop = refl

no_output : said (codes "flow z") ≡ Err (fault 6 Kind.Missing)
unfolding read_flow read_hop
no_output = refl

no_input : said (codes "flow") ≡ Err (fault 4 Kind.Missing)
unfolding read_flow read_hop
no_input = refl

label : said (codes "flow z - send:a,d,e,s0:c1,c2,") ≡ Err (fault 9 Kind.Value)
unfolding read_flow read_hop label_of_text terms_of_text digits
label = refl

word : said (codes "flow z - foo:a") ≡ Err (fault 9 Kind.Word)
unfolding read_flow read_hop
word = refl

value_first : said (codes "flow z - receive:c,e! receive:a,e") ≡ Err (fault 9 Kind.Value)
unfolding read_flow read_hop
value_first = refl

node_first : said (codes "flow z - receive:c,e receive:a,e") ≡ Err (fault 9 Kind.UnknownNode)
unfolding read_flow read_hop
node_first = refl

parts : said (codes "flow z - receive:a,e,f") ≡ Err (fault 9 Kind.Value)
unfolding read_flow read_hop
parts = refl

abbrev fifteen : List ℕ
fifteen = codes "flow z - forward:a,e,f,d forward:a,e,f,d forward:a,e,f,d forward:a,e,f,d forward:a,e,f,d forward:a,e,f,d forward:a,e,f,d forward:a,e,f,d forward:a,e,f,d forward:a,e,f,d forward:a,e,f,d forward:a,e,f,d forward:a,e,f,d forward:a,e,f,d forward:a,e,f,d "

sixteen : hop_count (said (fifteen ++ codes "receive:a,e")) ≡ 16
unfolding read_flow read_hop
sixteen = refl

behind_receive : said (fifteen ++ codes "receive:a,e b") ≡ Err (fault 249 Kind.HopOrder)
unfolding read_flow read_hop
behind_receive = refl

pub seventeen : said (fifteen ++ codes "forward:a,e,f,d !") ≡ Err (Stop.Limit Limit.Hops)
unfolding read_flow read_hop
seventeen = refl
