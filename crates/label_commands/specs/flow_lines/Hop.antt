-- Hops: what one node on the way of a packet does with it.
use Rattle.std.specs.Prelude.{ℕ, ◌≡◌, ◌-◌, ◌≤◌, Bool, true, false, List, length, take, drop}
use Rattle.std.specs.List.{list_any}
use Rattle.label_commands.specs.declared.flow_lines.hop.Hop.{Hop}
use Rattle.label_commands.specs.declared.flow_lines.hop.Hop.TheVariants.{Send, Forward, Receive}

abbrev pub is_send : Hop → Bool
is_send (Send node domain interface label) = true
is_send hop = false

abbrev pub is_receive : Hop → Bool
is_receive (Receive node interface) = true
is_receive hop = false

-- the number of the hop's node
abbrev pub node_of : Hop → ℕ
node_of (Send node domain interface label) = node
node_of (Forward node from to domain) = node
node_of (Receive node interface) = node

-- no hop behind the first is a `send`, and none in front of the last a `receive`
pub record AreOrdered (hops : List Hop) : Type 0 where
  pub sends : list_any is_send (drop 1 hops) ≡ false
  pub receives : list_any is_receive (take (length hops - 1) hops) ≡ false

-- the hops of a flow: 1 to 16, in order
pub record IsRoute (hops : List Hop) : Type 0 where
  pub some : 1 ≤ length hops
  pub few : length hops ≤ 16
  pub ordered : AreOrdered hops
