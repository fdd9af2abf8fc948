use Rattle.std.proofs.Common.{refl}
use Rattle.net_io.proofs.Listed.{counts_for_all}
use Rattle.net_io.proofs.real_depot.RealDepotDepot.finish.Goals as goal

pub returns-in-Err-clause-frame : goal.returns-in-Err-clause-frame
returns-in-Err-clause-frame g c = record {
  told = refl;
  reads = λ _. refl;
  creates = λ _. refl;
  appends = counts_for_all c.counted.result c.args.name.now c.args.self.now.append_faults c.counted.new.faults
      c.counted.ensures.no_less c.counted.ensures.failed c.counted.ensures.out_of_memory;
}
