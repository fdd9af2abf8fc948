-- What becomes of made packets.
use Rattle.std.specs.Prelude.{ℕ, codes, count_by, is_ok, is_err, Result}
use Rattle.std.specs.List.{range_with_len}
use Rattle.packet_label.specs.declared.denial.Denial.{Denial}
use Rattle.label_receive.specs.declared.receiving.Delivered.{Delivered}
use Rattle.label_receive.specs.Receive.{receive_of}
use Rattle.made_run.specs.made_capture.Number.{number_at}
use Rattle.made_run.specs.made_capture.Packet.{packet_said}
use Rattle.made_run.specs.Network.{made_node}

-- what the node does with the packet of a number, which comes in at `eth0`
abbrev pub made_verdict : ℕ → Result Delivered Denial
made_verdict x = receive_of made_node (codes "eth0") (packet_said x)

-- how many of the first packets from a seed are delivered
abbrev pub delivered_made : ℕ → ℕ → ℕ
delivered_made seed count = count_by (λ i. is_ok (made_verdict (number_at seed i))) (range_with_len 1 count)

-- and how many are denied
abbrev pub denied_made : ℕ → ℕ → ℕ
denied_made seed count = count_by (λ i. is_err (made_verdict (number_at seed i))) (range_with_len 1 count)
