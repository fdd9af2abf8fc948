use Rattle.ip_headers.proofs.Law.{payloads_fit_their_length}
use Rattle.ip_headers.proofs.laws.payloads_fit_their_length.Goals as goal

pub returns : goal.returns
returns c = payloads_fit_their_length
