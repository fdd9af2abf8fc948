-- The stops of each format's reader, and of a read alone, as stops of a reader of either.
use Rattle.net_io.specs.declared.fault.IoFault.{IoFault}
use Rattle.net_io.specs.declared.fault.IoFault.TheVariants as io
use Rattle.pcap_frames.specs.declared.fault.FrameStop.{FrameStop}
use Rattle.pcap_frames.specs.declared.fault.FrameStop.TheVariants as pcap
use Rattle.pcapng_frames.specs.declared.fault.NgStop.{NgStop}
use Rattle.pcapng_frames.specs.declared.fault.NgStop.TheVariants as ng
use Rattle.captures.specs.declared.fault.ReadStop.{ReadStop}
use Rattle.captures.specs.declared.fault.ReadStop.TheVariants.{Capture, Ng, ReadFault, OutOfMemory}

abbrev pub read_stop : IoFault → ReadStop
read_stop io.Failed = ReadFault
read_stop io.OutOfMemory = OutOfMemory

abbrev pub pcap_stop : FrameStop → ReadStop
pcap_stop (pcap.Capture fault) = Capture fault
pcap_stop pcap.ReadFault = ReadFault
pcap_stop pcap.OutOfMemory = OutOfMemory

abbrev pub ng_stop : NgStop → ReadStop
ng_stop (ng.Capture fault) = Ng fault
ng_stop ng.ReadFault = ReadFault
ng_stop ng.OutOfMemory = OutOfMemory
