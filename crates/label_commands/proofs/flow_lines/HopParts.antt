-- What the parts of a hop's text say.
use Rattle.std.proofs.Common.{◌≡◌, ℕ, Bool, true, false, cond, ◌&&◌, List, [], ◌∷◌, length, Option, Some, None, Ok, Err, refl, sym, ap, ◌∙◌, arith, option_map}
use Rattle.std.proofs.lemmas.Bool.{and_parts, and_right, cond-true, cond-false}
use Rattle.std.proofs.lemmas.Option.{none-some, cond_some}
use Rattle.mls_label.specs.declared.label.Label.{Label}
use Rattle.mls_range.specs.Computed.{label_of_text}
use Rattle.script_lines.specs.declared.stop.ScriptKind.TheVariants as Kind
use Rattle.script_lines.specs.declared.stop.LineStop.{LineStop}
use Rattle.script_lines.specs.Stop.{fault, IsStopOf}
use Rattle.domain_map.specs.address_text.Name.{is_name, name_of_text}
use Rattle.label_commands.specs.declared.flow_lines.hop.Hop.TheVariants.{Send, Forward, Receive}
use Rattle.label_commands.specs.flow_lines.HopText.{comma_parts, are_names, NamedHop, send_of_parts, forward_of_parts, receive_of_parts, node_number, numbered}
use Rattle.label_commands.specs.flow_lines.inside.Names.{HasThreeNames, LacksThreeNames}
use Rattle.label_commands.proofs.flow_lines.Stops.{stops_next, stops_as, goes_next}
use Rattle.label_commands.proofs.flow_lines.Commas.{some_parts, joined_parts, two_parts_no_name}

-- ---- names

pub read_as : (text name : List ℕ) → Some name ≡ name_of_text text → (is_name text ≡ true) × (text ≡ name)
read_as text name e = cond_some (is_name text) text name (sym e)

pub not_read : (text : List ℕ) → None ≡ name_of_text text → is_name text ≡ false
not_read text e = by_test (is_name text) (sym e) where
  by_test : (b : Bool) → cond b (Some text) None ≡ None → b ≡ false
  by_test true e = absurd (none-some text (sym e))
  by_test false e = refl

and_true : (b : Bool) → (b && true) ≡ b
and_true true = refl
and_true false = refl

one_more : (x y z w : Bool) → (x && (y && (z && true))) ≡ false → (x && (y && (z && (w && true)))) ≡ false
one_more true true true w e = absurd (true_is_false e) where
  true_is_false : true ≡ false → ⊥
  true_is_false h = cc
one_more true true false w e = refl
one_more true false z w e = refl
one_more false y z w e = refl

all_three : (a b c d : List ℕ) → are_names (a ∷ b ∷ c ∷ []) ≡ true → are_names (a ∷ b ∷ c ∷ d ∷ []) ≡ is_name d
all_three a b c d is =
    let x = and_parts (is_name a) _ is in
    let y = and_parts (is_name b) _ x.1 in
    let z = and_parts (is_name c) _ y.1 in
    rw (x.0, y.0, z.0) (and_true (is_name d))

-- ---- send

abbrev pub sends : List ℕ → List ℕ → List ℕ → Label → NamedHop
sends node domain interface label = (node, λ number. Send number domain interface label)

send_by : (a b c rest : List ℕ) (parts : List (List ℕ)) → comma_parts rest ≡ parts → are_names (a ∷ b ∷ c ∷ []) ≡ true
    → send_of_parts (a ∷ b ∷ c ∷ parts) ≡ option_map (sends a b c) (label_of_text rest)
send_by a b c rest [] e names = absurd (omega (arith, some_parts rest, ap length e))
send_by a b c rest (part ∷ parts) e names =
    cond-true (are_names (a ∷ b ∷ c ∷ [])) _ _ names ∙ ap (λ t. option_map (sends a b c) (label_of_text t)) (joined_parts rest (part ∷ parts) e)

send_has : (text a b c rest : List ℕ) → HasThreeNames text a b c rest → send_of_parts (comma_parts text) ≡ option_map (sends a b c) (label_of_text rest)
send_has text a b c rest has = ap send_of_parts has.are ∙ send_by a b c rest (comma_parts rest) refl has.names

send_without : (text : List ℕ) (parts : List (List ℕ)) → LacksThreeNames text → comma_parts text ≡ parts → send_of_parts parts ≡ None
send_without text [] lacks e = refl
send_without text (a ∷ []) lacks e = refl
send_without text (a ∷ b ∷ []) lacks e = refl
send_without text (a ∷ b ∷ c ∷ []) lacks e = refl
send_without text (a ∷ b ∷ c ∷ part ∷ parts) lacks e = cond-false (are_names (a ∷ b ∷ c ∷ [])) _ _ (lacks a b c part parts e)

-- ---- forward

abbrev pub forwards : List ℕ → List ℕ → List ℕ → List ℕ → NamedHop
forwards node from to domain = (node, λ number. Forward number from to domain)

forward_by : (a b c rest : List ℕ) (parts : List (List ℕ)) → comma_parts rest ≡ parts → are_names (a ∷ b ∷ c ∷ []) ≡ true
    → forward_of_parts (a ∷ b ∷ c ∷ parts) ≡ cond (is_name rest) (Some (forwards a b c rest)) None
forward_by a b c rest [] e names = absurd (omega (arith, some_parts rest, ap length e))
forward_by a b c rest (part ∷ []) e names =
    ap (λ d. forward_of_parts (a ∷ b ∷ c ∷ d ∷ [])) (joined_parts rest (part ∷ []) e)
    ∙ ap (λ t. cond t (Some (forwards a b c rest)) None) (all_three a b c rest names)
forward_by a b c rest (part ∷ next ∷ parts) e names =
    sym (cond-false (is_name rest) (Some (forwards a b c rest)) None (two_parts_no_name rest part next parts e))

forward_has : (text a b c rest : List ℕ) → HasThreeNames text a b c rest → forward_of_parts (comma_parts text) ≡ cond (is_name rest) (Some (forwards a b c rest)) None
forward_has text a b c rest has = ap forward_of_parts has.are ∙ forward_by a b c rest (comma_parts rest) refl has.names

forward_without : (text : List ℕ) (parts : List (List ℕ)) → LacksThreeNames text → comma_parts text ≡ parts → forward_of_parts parts ≡ None
forward_without text [] lacks e = refl
forward_without text (a ∷ []) lacks e = refl
forward_without text (a ∷ b ∷ []) lacks e = refl
forward_without text (a ∷ b ∷ c ∷ []) lacks e = refl
forward_without text (a ∷ b ∷ c ∷ d ∷ []) lacks e =
    cond-false (are_names (a ∷ b ∷ c ∷ d ∷ [])) _ _ (one_more (is_name a) (is_name b) (is_name c) (is_name d) (lacks a b c d [] e))
forward_without text (a ∷ b ∷ c ∷ d ∷ next ∷ parts) lacks e = refl

-- ---- receive

abbrev pub receives : List ℕ → List ℕ → NamedHop
receives node interface = (node, λ number. Receive number interface)

receive_by : (node rest : List ℕ) (parts : List (List ℕ)) → comma_parts rest ≡ parts
    → receive_of_parts (node ∷ parts) ≡ cond (are_names (node ∷ rest ∷ [])) (Some (receives node rest)) None
receive_by node rest [] e = absurd (omega (arith, some_parts rest, ap length e))
receive_by node rest (part ∷ []) e = ap (λ d. receive_of_parts (node ∷ d ∷ [])) (joined_parts rest (part ∷ []) e)
receive_by node rest (part ∷ next ∷ parts) e =
    sym (cond-false (are_names (node ∷ rest ∷ [])) (Some (receives node rest)) None
    (and_right (is_name node) _ (ap (λ b. b && true) (two_parts_no_name rest part next parts e))))

receive_is : (text node rest : List ℕ) → comma_parts text ≡ node ∷ comma_parts rest
    → receive_of_parts (comma_parts text) ≡ cond (are_names (node ∷ rest ∷ [])) (Some (receives node rest)) None
receive_is text node rest e = ap receive_of_parts e ∙ receive_by node rest (comma_parts rest) refl

-- ---- reading

module _ (nodes : List (List ℕ)) (place : ℕ) (fits : Bool) where
  of_none : (said : Option NamedHop) → said ≡ None → numbered nodes place fits said ≡ Err (fault place Kind.Value)
  of_none said e = ap (numbered nodes place fits) e

  of_some : (said : Option NamedHop) (named : NamedHop) (number : ℕ) → said ≡ Some named → node_number nodes place fits named.0 ≡ Ok number
      → numbered nodes place fits said ≡ Ok (named.1 number)
  of_some said named number e is = ap (numbered nodes place fits) e ∙ goes_next (node_number nodes place fits named.0) (λ n. Ok (named.1 n)) number is

  of_stop : (said : Option NamedHop) (named : NamedHop) (stop : LineStop) → said ≡ Some named → IsStopOf (node_number nodes place fits named.0) stop
      → IsStopOf (numbered nodes place fits said) stop
  of_stop said named stop e h =
      stops_as (numbered nodes place fits said) (numbered nodes place fits (Some named)) stop (ap (numbered nodes place fits) e)
      (stops_next (node_number nodes place fits named.0) (λ n. Ok (named.1 n)) stop h)

  pub send_lacks : (text : List ℕ) → LacksThreeNames text → numbered nodes place fits (send_of_parts (comma_parts text)) ≡ Err (fault place Kind.Value)
  send_lacks text lacks = of_none _ (send_without text (comma_parts text) lacks refl)

  pub send_no_label : (text a b c rest : List ℕ) → HasThreeNames text a b c rest → label_of_text rest ≡ None
      → numbered nodes place fits (send_of_parts (comma_parts text)) ≡ Err (fault place Kind.Value)
  send_no_label text a b c rest has none = of_none _ (send_has text a b c rest has ∙ ap (option_map (sends a b c)) none)

  pub send_stops : (text a b c rest : List ℕ) (label : Label) (stop : LineStop) → HasThreeNames text a b c rest → label_of_text rest ≡ Some label
      → IsStopOf (node_number nodes place fits a) stop → IsStopOf (numbered nodes place fits (send_of_parts (comma_parts text))) stop
  send_stops text a b c rest label stop has is h =
      of_stop _ (sends a b c label) stop (send_has text a b c rest has ∙ ap (option_map (sends a b c)) is) h

  pub send_read : (text a b c rest : List ℕ) (label kept : Label) (number : ℕ) → HasThreeNames text a b c rest → label_of_text rest ≡ Some label
      → node_number nodes place fits a ≡ Ok number → kept ≡ label → numbered nodes place fits (send_of_parts (comma_parts text)) ≡ Ok (Send number b c kept)
  send_read text a b c rest label kept number has is at same =
      of_some _ (sends a b c label) number (send_has text a b c rest has ∙ ap (option_map (sends a b c)) is) at ∙ ap (λ l. Ok (Send number b c l)) (sym same)

  pub forward_lacks : (text : List ℕ) → LacksThreeNames text → numbered nodes place fits (forward_of_parts (comma_parts text)) ≡ Err (fault place Kind.Value)
  forward_lacks text lacks = of_none _ (forward_without text (comma_parts text) lacks refl)

  pub forward_no_domain : (text a b c rest : List ℕ) → HasThreeNames text a b c rest → None ≡ name_of_text rest
      → numbered nodes place fits (forward_of_parts (comma_parts text)) ≡ Err (fault place Kind.Value)
  forward_no_domain text a b c rest has none =
      of_none _ (forward_has text a b c rest has ∙ cond-false (is_name rest) (Some (forwards a b c rest)) None (not_read rest none))

  forward_said : (text a b c rest domain : List ℕ) → HasThreeNames text a b c rest → Some domain ≡ name_of_text rest
      → forward_of_parts (comma_parts text) ≡ Some (forwards a b c domain)
  forward_said text a b c rest domain has is =
      let read = read_as rest domain is in
      forward_has text a b c rest has ∙ cond-true (is_name rest) (Some (forwards a b c rest)) None read.0 ∙ ap (λ d. Some (forwards a b c d)) read.1

  pub forward_stops : (text a b c rest domain : List ℕ) (stop : LineStop) → HasThreeNames text a b c rest → Some domain ≡ name_of_text rest
      → IsStopOf (node_number nodes place fits a) stop → IsStopOf (numbered nodes place fits (forward_of_parts (comma_parts text))) stop
  forward_stops text a b c rest domain stop has is h = of_stop _ (forwards a b c domain) stop (forward_said text a b c rest domain has is) h

  pub forward_read : (text a b c rest domain : List ℕ) (number : ℕ) → HasThreeNames text a b c rest → Some domain ≡ name_of_text rest
      → node_number nodes place fits a ≡ Ok number → numbered nodes place fits (forward_of_parts (comma_parts text)) ≡ Ok (Forward number b c domain)
  forward_read text a b c rest domain number has is at = of_some _ (forwards a b c domain) number (forward_said text a b c rest domain has is) at

  pub receive_alone : (text : List ℕ) → comma_parts text ≡ text ∷ [] → numbered nodes place fits (receive_of_parts (comma_parts text)) ≡ Err (fault place Kind.Value)
  receive_alone text e = of_none _ (ap receive_of_parts e)

  pub receive_no_node : (text node rest : List ℕ) → comma_parts text ≡ node ∷ comma_parts rest → None ≡ name_of_text node
      → numbered nodes place fits (receive_of_parts (comma_parts text)) ≡ Err (fault place Kind.Value)
  receive_no_node text node rest e none =
      of_none _ (receive_is text node rest e ∙ cond-false (are_names (node ∷ rest ∷ [])) _ _ (ap (λ b. b && (is_name rest && true)) (not_read node none)))

  pub receive_no_interface : (text node rest : List ℕ) → comma_parts text ≡ node ∷ comma_parts rest → None ≡ name_of_text rest
      → numbered nodes place fits (receive_of_parts (comma_parts text)) ≡ Err (fault place Kind.Value)
  receive_no_interface text node rest e none =
      of_none _ (receive_is text node rest e
      ∙ cond-false (are_names (node ∷ rest ∷ [])) _ _ (and_right (is_name node) _ (ap (λ b. b && true) (not_read rest none))))

  receive_said : (text node rest name interface : List ℕ) → comma_parts text ≡ node ∷ comma_parts rest → Some name ≡ name_of_text node
      → Some interface ≡ name_of_text rest → receive_of_parts (comma_parts text) ≡ Some (receives name interface)
  receive_said text node rest name interface e is_node is_interface =
      let n = read_as node name is_node in
      let i = read_as rest interface is_interface in
      let names : are_names (node ∷ rest ∷ []) ≡ true = rw (n.0, i.0) refl in
      receive_is text node rest e ∙ cond-true (are_names (node ∷ rest ∷ [])) (Some (receives node rest)) None names
      ∙ ap (λ t. Some (receives t rest)) n.1 ∙ ap (λ t. Some (receives name t)) i.1

  pub receive_stops : (text node rest name interface : List ℕ) (stop : LineStop) → comma_parts text ≡ node ∷ comma_parts rest → Some name ≡ name_of_text node
      → Some interface ≡ name_of_text rest → IsStopOf (node_number nodes place fits name) stop
      → IsStopOf (numbered nodes place fits (receive_of_parts (comma_parts text))) stop
  receive_stops text node rest name interface stop e is_node is_interface h =
      of_stop _ (receives name interface) stop (receive_said text node rest name interface e is_node is_interface) h

  pub receive_read : (text node rest name interface : List ℕ) (number : ℕ) → comma_parts text ≡ node ∷ comma_parts rest → Some name ≡ name_of_text node
      → Some interface ≡ name_of_text rest → node_number nodes place fits name ≡ Ok number
      → numbered nodes place fits (receive_of_parts (comma_parts text)) ≡ Ok (Receive number interface)
  receive_read text node rest name interface number e is_node is_interface at =
      of_some _ (receives name interface) number (receive_said text node rest name interface e is_node is_interface) at
