-- What the blocks so far say of the present section.
use Rattle.std.specs.Prelude.{List, []}
use Rattle.net_io.specs.declared.file_window.order.OctetOrder.{OctetOrder}
use Rattle.net_io.specs.declared.file_window.order.OctetOrder.TheVariants.{Little}
use Rattle.pcapng_frames.specs.declared.interface.Interface.{Interface}

-- A section: the order of octets in its numbers, and the interfaces that it has described, which packets name by place.
pub record Section : Type 0 where
  pub order : OctetOrder
  pub interfaces : List Interface

-- In front of the first section header: the first block brings its own order.
abbrev pub no_section : Section
no_section = record { order = Little; interfaces = [] }
