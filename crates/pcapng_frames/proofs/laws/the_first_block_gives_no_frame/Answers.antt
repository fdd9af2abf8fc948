use Rattle.pcapng_frames.proofs.Law.{the_first_block_gives_no_frame as law}
use Rattle.pcapng_frames.proofs.laws.the_first_block_gives_no_frame.Goals as goal

pub returns : goal.returns
returns c = law
