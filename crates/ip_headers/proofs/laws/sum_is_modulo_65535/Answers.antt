use Rattle.ip_headers.proofs.Law.{sum_is_modulo_65535}
use Rattle.ip_headers.proofs.laws.sum_is_modulo_65535.Goals as goal

pub returns : goal.returns
returns c = sum_is_modulo_65535
