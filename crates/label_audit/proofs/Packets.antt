-- What is printed of a flow's packets, and which packets have been judged so.
use Rattle.std.proofs.Common.{◌≡◌, ◌<◌, ◌≤◌, ◌⊎◌, inl, inr, ℕ, ◌+◌, ◌%◌, Bool, false, List, [], ◌∷◌, ◌++◌, length, take, refl, sym, ap, ◌∙◌, arith, append_assoc}
use Rattle.std.specs.List.{AllZip}
use Rattle.captures.specs.declared.packet_in.PacketIn.{PacketIn}
use Rattle.label_flow.specs.packet_walk.Walk.{IsWalkOf}
use Rattle.label_flow.specs.Pair.{PairState}
use Rattle.label_flow.specs.Schedule.{versions_in}
use Rattle.call_report.specs.Lines.Flow.{walked_line}
use Rattle.script_run.specs.flow_run.Run.{denied_in, passed_in, walked_lines}
use Rattle.label_audit.specs.inside.Awaited.{Awaited}
use Rattle.label_audit.specs.inside.Grammar.{PacketsFrom, Site, counted_more, last_met, meets_now}
use Rattle.label_audit.specs.declared.flow.Counted.{Counted}
use Rattle.label_audit.proofs.Rows.{RowsRise, met_within, rows_first, rows_more, rows_rest}

-- what is counted behind these
abbrev pub counted : Counted → List PairState → Counted
counted count [] = count
counted count (pair ∷ pairs) = counted (counted_more count pair) pairs

pub counts : (count : Counted) (pairs : List PairState) → counted count pairs ≡ record { packets = count.packets + length pairs; passed = count.passed + passed_in pairs; denied = count.denied + denied_in pairs }
counts count [] =
    let a : count.packets + 0 ≡ count.packets = omega arith in
    let b : count.passed + 0 ≡ count.passed = omega arith in
    let c : count.denied + 0 ≡ count.denied = omega arith in
    rw (a, b, c) refl
counts count (pair ∷ pairs) =
    let next = counted_more count pair in
    let a : next.packets + length pairs ≡ count.packets + length (pair ∷ pairs) = omega arith in
    let b : next.passed + passed_in pairs ≡ count.passed + passed_in (pair ∷ pairs) = omega arith in
    let c : next.denied + denied_in pairs ≡ count.denied + denied_in (pair ∷ pairs) = omega arith in
    counts next pairs ∙ parts _ _ _ _ _ _ a b c where
      parts : (a a' b b' c c' : ℕ) → a ≡ a' → b ≡ b' → c ≡ c' → (let x : Counted = record { packets = a; passed = b; denied = c } in x) ≡ record { packets = a'; passed = b'; denied = c' }
      parts a a' b b' c c' x y z = rw (x, y, z) refl

module _ (site : Site) (Behind : Counted → Awaited) (some : 0 < site.workers) where
  abbrev pub Walks : PacketIn → PairState → Type 0
  Walks packet pair = IsWalkOf site.plan site.hops packet pair.walked.versions pair.walked.end pair.octets

  -- what stands behind the lines of these packets: nothing where some are left, else what may stand behind the last one
  abbrev pub Tail : Counted → List PacketIn → List PairState → Bool → List ℕ → Type 0
  Tail count packets pairs all tail = ((length pairs < length packets) × (all ≡ false) × (tail ≡ [])) ⊎ ((length pairs ≡ length packets) × Behind (counted count pairs) all tail)

  abbrev lines_of : Counted → List PairState → List ℕ
  lines_of count pairs = walked_lines site.number (count.packets + 1) site.names site.hops pairs

  tail_on : (count : Counted) (packet : PacketIn) (packets : List PacketIn) (pair : PairState) (pairs : List PairState) (all : Bool) (tail : List ℕ) → Tail count (packet ∷ packets) (pair ∷ pairs) all tail → Tail (counted_more count pair) packets pairs all tail
  tail_on count packet packets pair pairs all tail (inl few) = inl (omega (arith, few.0), few.1, few.2)
  tail_on count packet packets pair pairs all tail (inr same) = inr (omega (arith, same.0), same.1)

  pub tail_back : (count : Counted) (packet : PacketIn) (packets : List PacketIn) (pair : PairState) (pairs : List PairState) (all : Bool) (tail : List ℕ) → Tail (counted_more count pair) packets pairs all tail → Tail count (packet ∷ packets) (pair ∷ pairs) all tail
  tail_back count packet packets pair pairs all tail (inl few) = inl (omega (arith, few.0), few.1, few.2)
  tail_back count packet packets pair pairs all tail (inr same) = inr (omega (arith, same.0), same.1)

  pub packets_printed : (count : Counted) (met : ℕ → ℕ) (packets : List PacketIn) (pairs : List PairState) (all : Bool) (tail : List ℕ) → AllZip Walks (take (length pairs) packets) pairs
      → RowsRise site.workers site.after count.packets met (versions_in pairs) → Tail count packets pairs all tail → PacketsFrom site Behind count met packets all (lines_of count pairs ++ tail)
  packets_printed count met [] [] all tail walked rises (inl few) = absurd (omega (arith, few.0))
  packets_printed count met [] [] all tail walked rises (inr behind) = behind.1
  packets_printed count met [] (pair ∷ pairs) all tail walked rises behind = absurd walked
  packets_printed count met (packet ∷ packets) [] all tail walked rises (inl few) = inl (few.1, few.2)
  packets_printed count met (packet ∷ packets) [] all tail walked rises (inr behind) = absurd (omega (arith, behind.0))
  packets_printed count met (packet ∷ packets) (pair ∷ pairs) all tail walked rises behind =
      let versions = pair.walked.versions in
      let next = counted_more count pair in
      let line = walked_line site.number (count.packets + 1) site.names site.hops pair.walked in
      inr (
        pair,
        lines_of next pairs ++ tail,
        walked.0,
        rows_first site.workers site.after count.packets met versions (versions_in pairs) some rises,
        append_assoc line (lines_of next pairs) tail,
        packets_printed next (meets_now met (count.packets % site.workers) (last_met (met (count.packets % site.workers)) versions)) packets pairs all tail walked.1
            (rows_rest site.workers site.after count.packets met versions (versions_in pairs) some rises) (tail_on count packet packets pair pairs all tail behind),
      )

  -- packets that were judged so
  pub record ArePrinted (count : Counted) (met : ℕ → ℕ) (packets : List PacketIn) (all : Bool) (text : List ℕ) : Type 0 where
    pub pairs : List PairState
    pub tail : List ℕ
    pub walked : AllZip Walks (take (length pairs) packets) pairs
    pub rises : RowsRise site.workers site.after count.packets met (versions_in pairs)
    pub behind : Tail count packets pairs all tail
    pub is : text ≡ lines_of count pairs ++ tail

  pub printed_packets : (count : Counted) (met : ℕ → ℕ) (packets : List PacketIn) (all : Bool) (text : List ℕ) → ((k : ℕ) → k < site.workers → met k ≤ site.after) → PacketsFrom site Behind count met packets all text
      → ArePrinted count met packets all text
  printed_packets count met [] all text low from = record { pairs = []; tail = text; walked = tt; rises = low; behind = inr (refl, from); is = refl }
  printed_packets count met (packet ∷ packets) all text low (inl stop) = record { pairs = []; tail = text; walked = tt; rises = low; behind = inl (omega arith, stop.0, stop.1); is = refl }
  printed_packets count met (packet ∷ packets) all text low (inr one) =
      let pair = one.0 in
      let versions = pair.walked.versions in
      let next = counted_more count pair in
      let line = walked_line site.number (count.packets + 1) site.names site.hops pair.walked in
      let rest = printed_packets next (meets_now met (count.packets % site.workers) (last_met (met (count.packets % site.workers)) versions)) packets all one.1
      (met_within site.workers site.after count.packets met versions [] some low one.3) one.5 in
      record {
        pairs = pair ∷ rest.pairs;
        tail = rest.tail;
        walked = (one.2, rest.walked);
        rises = rows_more site.workers site.after count.packets met versions (versions_in rest.pairs) some one.3 rest.rises;
        behind = tail_back count packet packets pair rest.pairs all rest.tail rest.behind;
        is = one.4 ∙ ap (λ t. line ++ t) rest.is ∙ sym (append_assoc line (lines_of next rest.pairs) rest.tail);
      }
