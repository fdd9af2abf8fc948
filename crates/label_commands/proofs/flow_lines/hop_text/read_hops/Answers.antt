use Rattle.std.proofs.Common.{◌≡◌, ℕ, ◌+◌, ◌≤◌, Bool, List, [], ◌∷◌, ◌++◌, length, drop, get_or, Result, Ok, Err, refl, sym, ap, ◌∙◌, append_assoc, arith, nat_eq}
use Rattle.std.proofs.lemmas.List.{length_push, take_rest}
use Rattle.script_lines.specs.declared.stop.LineStop.{LineStop}
use Rattle.script_lines.specs.Word.{LineWord}
use Rattle.script_lines.specs.Stop.{and_next}
use Rattle.label_commands.specs.declared.flow_lines.hop.Hop.{Hop}
use Rattle.label_commands.specs.flow_lines.Flow.{next_hop, read_hops}
use Rattle.label_commands.proofs.flow_lines.Stops.{goes_next}
use Rattle.label_commands.proofs.flow_lines.hop_text.read_hops.Goals as goal

-- hops, and those of what is left
abbrev behind_hops : List Hop → Result (List Hop) LineStop → Result (List Hop) LineStop
behind_hops hops read = and_next read (λ more. Ok (hops ++ more))

one_more : (hops : List Hop) (hop : Hop) (read : Result (List Hop) LineStop)
    → behind_hops hops (and_next read (λ more. Ok (hop ∷ more))) ≡ behind_hops (hops ++ (hop ∷ [])) read
one_more hops hop (Ok more) = ap Ok (sym (append_assoc hops (hop ∷ []) more))
one_more hops hop (Err stop) = refl

first_is : (words : List LineWord) (word : LineWord) → 1 ≤ length words → word ≡ get_or words 0 word → words ≡ word ∷ drop 1 words
first_is [] word some is = absurd (omega arith)
first_is (first ∷ words) word some is = ap (λ w. w ∷ words) (sym is)

goes_on : (nodes : List (List ℕ)) (hops more : List Hop) (words behind : List LineWord) (word : LineWord) (hop : Hop) (count : ℕ) (last : Bool)
    → words ≡ word ∷ behind → count ≡ length hops → last ≡ nat_eq (length behind) 0 → next_hop nodes count last word ≡ Ok hop → more ≡ hops ++ (hop ∷ [])
    → behind_hops more (read_hops nodes (length more) behind) ≡ behind_hops hops (read_hops nodes (length hops) words)
goes_on nodes hops more words behind word hop count last split counted ends is grown =
    let place = length hops in
    let rest = read_hops nodes (place + 1) behind in
    let here = sym (ap (λ n. next_hop nodes n last word) counted ∙ ap (λ b. next_hop nodes place b word) ends) ∙ is in
    ap (λ m. behind_hops m (read_hops nodes (length m) behind)) grown
    ∙ ap (λ n. behind_hops (hops ++ (hop ∷ [])) (read_hops nodes n behind)) (length_push hops hop)
    ∙ sym (ap (λ ws. behind_hops hops (read_hops nodes place ws)) split
    ∙ ap (behind_hops hops) (goes_next (next_hop nodes place (nat_eq (length behind) 0) word) (λ h. and_next rest (λ hs. Ok (h ∷ hs))) hop here)
    ∙ one_more hops hop rest)

pub loop-rest-preserved : goal.loop-rest-preserved
loop-rest-preserved c =
    let nodes = c.args.nodes.now in
    let rest = c.loop-rest.rest.now in
    let hops = c.loop-rest.hops.items in
    let more = c.add_hop.new.hops.items in
    let counted : c.len.result ≡ length hops = omega (arith, c.len.ensures, c.loop-rest.hops.ok) in
    ap (λ t. behind_hops more (read_hops nodes (length more) t)) (take_rest rest 1)
    ∙ goes_on nodes hops more rest (drop 1 rest) c.word-item.result c.in_ok-hop.hop c.len.result c.is_empty.result
    (first_is rest c.word-item.result (omega (arith, c.in-len1-up.len_at_least)) c.word-item.is) counted
    (c.is_empty.ensures ∙ ap (λ t. nat_eq (length t) 0) (take_rest rest 1)) c.in_ok-hop.ensures.ok c.in_ok-add_hop.ensures
    ∙ c.loop-rest.invariant
