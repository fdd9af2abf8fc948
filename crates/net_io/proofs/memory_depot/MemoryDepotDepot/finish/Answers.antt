use Rattle.net_io.proofs.Listed.{fault_appends}
use Rattle.net_io.proofs.memory_depot.MemoryDepotDepot.finish.Goals as goal

pub returns-then-fails_next-clause-frame : goal.returns-then-fails_next-clause-frame
returns-then-fails_next-clause-frame c =
    fault_appends c.fault_of.result c.args.name.now c.args.self.now.kept.files.items c.args.self.now.kept.failed.items c.fault_of.new.failed.items
    c.fault_of.ensures.failed c.fault_of.ensures.out_of_memory
