-- Failed reads as stops of a reader.
use Rattle.net_io.specs.declared.fault.IoFault.{IoFault}
use Rattle.net_io.specs.declared.fault.IoFault.TheVariants.{Failed as IoFailed, OutOfMemory as IoOutOfMemory}
use Rattle.pcap_frames.specs.declared.fault.FrameStop.{FrameStop}
use Rattle.pcap_frames.specs.declared.fault.FrameStop.TheVariants.{ReadFault, OutOfMemory}

-- a failed read, as a reader's stop
abbrev pub stop_of : IoFault → FrameStop
stop_of IoFailed = ReadFault
stop_of IoOutOfMemory = OutOfMemory
