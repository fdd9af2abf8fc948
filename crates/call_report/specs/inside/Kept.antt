-- What is kept from the line of one packet for that of the next.
use Rattle.std.specs.Prelude.{◌≡◌, ℕ, ◌∷◌, List, [], ◌++◌, length, codes}
use Rattle.std.specs.Fmt.{decimal}
use Rattle.call_report.specs.Lines.Flow.{versions_text}

-- in front of a packet's number
abbrev pub flow_beginning : ℕ → List ℕ
flow_beginning flow = codes "packet " ++ decimal flow ++ codes "."

-- in front of what became of a packet
abbrev pub packet_beginning : ℕ → ℕ → List ℕ
packet_beginning flow number = flow_beginning flow ++ decimal number ++ codes " "

-- behind what became of a packet
abbrev pub versions_ending : List ℕ → List ℕ
versions_ending versions = codes " versions " ++ versions_text versions ++ 10 ∷ []

-- These octets are a packet's beginning, and so many of them stand in front of its number.
pub record IsBeginning (flow number front : ℕ) (text : List ℕ) : Type 0 where
  pub place : front ≡ length (flow_beginning flow)
  pub octets : text ≡ packet_beginning flow number
