-- What a fetch and an accepted packet make of a feed.
use Rattle.std.proofs.Common.{◌≡◌, ◌<◌, ◌≤◌, ℕ, ◌+◌, ◌-◌, min, true, false, nat_eq, nat_lt, List, ◌++◌, length, All, Some, sym, ap, subst, ◌∙◌, arith}
use Rattle.std.proofs.lemmas.Bool.Decides.{nat_tests}
use Rattle.net_io.specs.Depot.{DepotState}
use Rattle.captures.specs.declared.packet_in.PacketIn.{PacketIn}
use Rattle.label_flow.specs.Feed.{HasFetched}
use Rattle.made_run.specs.made_capture.Maker.{Making}
use Rattle.made_run.specs.inside.Source.{packets_made, IsBegunUpTo}
use Rattle.made_run.proofs.Steps.{packets_split, packets_count, packets_short, begun_up_to}

positive : (n : ℕ) → nat_lt 0 n ≡ true → 0 < n
positive n is = grind (arith, nat_tests)

nothing : (n : ℕ) → nat_lt 0 n ≡ false → n ≡ 0
nothing n is = grind (arith, nat_tests)

all_given : (given count : ℕ) → given ≡ count → nat_eq given count ≡ true
all_given given count is = grind (arith, nat_tests)

-- the next packets, at most 1,024
pub has_fetched : (seed seed' given count done n made : ℕ) (batch : List PacketIn) → seed' ≡ seed → made ≡ given → done ≤ given → given - done ≡ 0 → given ≤ count → n ≡ min (count - given) 1024
    → batch ≡ packets_made seed made n
    → HasFetched (Some (packets_made seed given (count - given))) (nat_lt 0 n) batch (Some (packets_made seed' (given + n) (count - (given + n)))) (given + n - done)
has_fetched seed seed' given count done n made batch same at low none within few is =
    let are : batch ≡ packets_made seed given n = is ∙ ap (λ a. packets_made seed a n) at in
    let many : length batch ≡ n = ap length are ∙ packets_count seed given n in
    let left = count - (given + n) in
    let all : count - given ≡ n + left = omega (arith, few, within) in
    let behind = packets_made seed (given + n) left in
    record {
      front = ap (packets_made seed given) all ∙ packets_split seed given n left ∙ ap (λ ps. ps ++ behind) (sym are) ∙ ap (λ s. batch ++ packets_made s (given + n) left) (sym same);
      some = λ more. omega (arith, many, positive n more);
      none = λ over.
          let zero : n ≡ 0 = nothing n over in
          let over : count - given ≡ 0 = omega (arith, zero, few) in
          (are ∙ ap (packets_made seed given) zero, ap (packets_made seed given) over);
      few = omega (arith, many, few);
      octets = subst (λ ps. All (λ (p : PacketIn). length p.bytes ≤ 262144) ps) (sym are) (packets_short seed given n);
      due_is = omega (arith, many, low, none);
    }

pub is_over : (given count n : ℕ) → given ≤ count → n ≡ min (count - given) 1024 → nat_lt 0 n ≡ false → nat_eq (given + n) count ≡ true
is_over given count n within few over = all_given (given + n) count (let zero : n ≡ 0 = nothing n over in omega (arith, zero, few, within))

-- what is sent of its capture
pub begun_after : (maker maker' : Making) (seed given n count : ℕ) (name : List ℕ) (folder : DepotState) → maker' ≡ maker → seed ≡ maker'.seed → maker.made ≡ given → given ≤ count → n ≡ min (count - given) 1024
    → IsBegunUpTo maker'.seed (maker'.made + n) name folder → IsBegunUpTo seed count name folder
begun_after maker maker' seed given n count name folder same is at within few was =
    let made : maker'.made ≡ given = ap (λ (m : Making). m.made) same ∙ at in
    subst (λ s. IsBegunUpTo s count name folder) (sym is) (begun_up_to maker'.seed (maker'.made + n) count name folder (omega (arith, made, within, few)) was)

pub made_after : (maker maker' next : Making) (given n : ℕ) → maker' ≡ maker → maker.made ≡ given → (let on : Making = record { seed = maker'.seed; made = maker'.made + n } in next ≡ on) → next.made ≡ given + n
made_after maker maker' next given n same at is = ap (λ (m : Making). m.made) is ∙ ap (λ (m : Making). m.made + n) same ∙ ap (λ m. m + n) at

pub packets_after : (maker maker' : Making) (n : ℕ) (batch : List PacketIn) → maker' ≡ maker → batch ≡ packets_made maker'.seed maker'.made n → batch ≡ packets_made maker.seed maker.made n
packets_after maker maker' n batch same is = is ∙ ap (λ (m : Making). packets_made m.seed m.made n) same
