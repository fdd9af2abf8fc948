-- Packets given by the fields of their header.
use Rattle.std.specs.Prelude.{ℕ, List, Option}
use Rattle.ip_headers.specs.declared.version.Version.TheVariants.{V4, V6}
use Rattle.ip_headers.specs.declared.fields.Fields4.{Fields4}
use Rattle.ip_headers.specs.declared.fields.Fields6.{Fields6}
use Rattle.ip_headers.specs.Options.{Placed}
use Rattle.ip_headers.specs.Packet.{Headers}
use Rattle.ip_headers.specs.Written.{first_option}

-- a packet of version 4 with these fields, this label option or none, these other options and this payload
abbrev pub packet4 : Fields4 → Option (List ℕ) → List Placed → List ℕ → Headers
packet4 f option others payload = record {
  version = V4;
  class = f.tos;
  identification = f.id;
  flags_offset = f.flags_offset;
  flow_label = 0;
  hops = f.hops;
  protocol = f.protocol;
  source = f.source;
  destination = f.destination;
  label = first_option V4 option;
  others = others;
  payload = payload;
}

-- the same of version 6
abbrev pub packet6 : Fields6 → Option (List ℕ) → List Placed → List ℕ → Headers
packet6 f option others payload = record {
  version = V6;
  class = f.class;
  identification = 0;
  flags_offset = 0;
  flow_label = f.flow_label;
  hops = f.hops;
  protocol = f.protocol;
  source = f.source;
  destination = f.destination;
  label = first_option V6 option;
  others = others;
  payload = payload;
}
