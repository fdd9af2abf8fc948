use Rattle.label_receive.proofs.Law.{receiving_never_tells_inexpressible}
use Rattle.label_receive.proofs.laws.receiving_never_tells_inexpressible.Goals as goal

pub returns : goal.returns
returns c = record { labels = receiving_never_tells_inexpressible.labels; received = receiving_never_tells_inexpressible.received }
