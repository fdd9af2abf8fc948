-- The laws of src/laws.rt under their names, for the crates above.
use Rattle.std.proofs.Common.{◌≡◌, ◌↔◌, ℕ, ◌+◌}
use Rattle.std.specs.Prelude.{IsOk}
use Rattle.mls_label.specs.Label.{Dominates}
use Rattle.made_run.specs.made_capture.Packet.{label_made}
use Rattle.made_run.specs.Network.{receiver_level}
use Rattle.made_run.specs.Verdict.{made_verdict, delivered_made, denied_made}
use Rattle.made_run.proofs.Received.{is_delivered_where, all_judged}

pub made_packets_are_delivered_where_dominated : (x : ℕ) → IsOk (made_verdict x) ↔ Dominates receiver_level (label_made x)
made_packets_are_delivered_where_dominated = is_delivered_where

pub made_packets_are_delivered_or_denied : (seed count : ℕ) → delivered_made seed count + denied_made seed count ≡ count
made_packets_are_delivered_or_denied = all_judged
