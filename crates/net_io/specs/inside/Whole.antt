-- A fault of one read, as one of reading a whole file.
use Rattle.net_io.specs.declared.fault.IoFault.{IoFault}
use Rattle.net_io.specs.declared.fault.IoFault.TheVariants.{Failed as IoFailed, OutOfMemory as IoOutOfMemory}
use Rattle.net_io.specs.declared.fault.WholeFault.{WholeFault}
use Rattle.net_io.specs.declared.fault.WholeFault.TheVariants.{Failed as WholeFailed, OutOfMemory as WholeOutOfMemory}

abbrev pub whole_fault : IoFault → WholeFault
whole_fault IoFailed = WholeFailed
whole_fault IoOutOfMemory = WholeOutOfMemory
