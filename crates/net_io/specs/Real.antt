-- The file system and standard output: they tell no content. Each kind of call has one number of faults, which is that number for every name.
use Rattle.std.specs.Prelude.{false, [], None}
use Rattle.net_io.specs.Depot.{DepotState}
use Rattle.net_io.specs.Sink.{SinkState}
use Rattle.net_io.specs.declared.guard.Guard.{Guard}
use Rattle.net_io.specs.declared.real_depot.RealDepot.{RealDepot}
use Rattle.net_io.specs.declared.real_sink.RealSink.{RealSink}

abbrev pub real_state : {R File Dir : Type 0} → RealDepot R File Dir → DepotState
real_state depot = record {
  tells = false;
  held = λ name. None;
  reads = λ name. depot.read_faults;
  creates = λ name. depot.create_faults;
  appends = λ name. depot.append_faults;
}

-- the files that a call of the folder doesn't make anew
abbrev pub real_guard : {R File Dir : Type 0} → RealDepot R File Dir → Guard
real_guard depot = depot.guard

abbrev pub real_sink_state : {R : Type 0} → RealSink R → SinkState
real_sink_state sink = record { tells = false; written = []; faults = sink.faults }
