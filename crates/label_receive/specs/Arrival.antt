-- What calls answer that leave a high label in what they are lent.
use Rattle.std.specs.Prelude.{Result, Ok}
use Rattle.std.specs.Option.{option_copied, unwrap_or}
use Rattle.mls_label.specs.declared.label.Label.{Label}
use Rattle.packet_label.specs.declared.denial.Denial.{Denial}
use Rattle.label_receive.specs.declared.incoming.Arrival.{Arrival}
use Rattle.label_receive.specs.Steps.{◌>>=◌}
use Rattle.label_receive.specs.Incoming.{Incoming}

-- the labels of a packet by what carried them and the high one, which is the low one too where no other is told
abbrev pub incoming_with : Arrival → Label → Incoming
incoming_with arrival high = record { carrier = arrival.carrier; low = unwrap_or (option_copied arrival.low) high; high = high }

-- the same, or why there are none
abbrev pub incoming_as : Label → Result Arrival Denial → Result Incoming Denial
incoming_as high answer = do
  arrival ← answer
  Ok (incoming_with arrival high)
