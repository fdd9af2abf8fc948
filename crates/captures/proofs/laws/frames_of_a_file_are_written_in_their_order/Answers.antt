use Rattle.captures.proofs.Law.{frames_of_a_file_are_written_in_their_order}
use Rattle.captures.proofs.laws.frames_of_a_file_are_written_in_their_order.Goals as goal

pub returns : goal.returns
returns c = frames_of_a_file_are_written_in_their_order
