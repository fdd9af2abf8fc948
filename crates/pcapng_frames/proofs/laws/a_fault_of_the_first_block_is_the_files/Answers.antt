use Rattle.pcapng_frames.proofs.Law.{a_fault_of_the_first_block_is_the_files as law}
use Rattle.pcapng_frames.proofs.laws.a_fault_of_the_first_block_is_the_files.Goals as goal

pub returns : goal.returns
returns c = law
