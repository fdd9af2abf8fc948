-- What a packet says, in both versions.
use Rattle.std.specs.Prelude.{ℕ, List, Option}
use Rattle.ip_headers.specs.declared.version.Version.{Version}
use Rattle.ip_headers.specs.Options.{Placed}

-- A parsed packet, whose label option is kept as an L. A field that its version lacks is 0.
pub record ParsedPacket (L : Type 0) : Type 0 where
  pub version : Version
  -- type of service in version 4, traffic class in version 6
  pub class : ℕ
  -- version 4: identification, and the 16 bits of flags and fragment offset
  pub identification : ℕ
  pub flags_offset : ℕ
  -- version 6
  pub flow_label : ℕ
  -- time to live, or hop limit
  pub hops : ℕ
  -- of what the payload is; in version 6 the next header after Hop-by-Hop
  pub protocol : ℕ
  pub source : List ℕ
  pub destination : List ℕ
  -- the first label option
  pub label : Option L
  -- the options that are neither padding nor labels, in order; in version 6 each with its place modulo 8
  pub others : List Placed
  pub payload : List ℕ

-- A packet as far as its headers are read: of a label option there are the octets, with their place in the packet.
abbrev pub Headers : Type 0
Headers = ParsedPacket Placed

-- the packet with another label option, or none, and other hops
abbrev pub relabelled : {L M : Type 0} → ParsedPacket L → Option M → ℕ → ParsedPacket M
relabelled p label hops = record {
  version = p.version;
  class = p.class;
  identification = p.identification;
  flags_offset = p.flags_offset;
  flow_label = p.flow_label;
  hops = hops;
  protocol = p.protocol;
  source = p.source;
  destination = p.destination;
  label = label;
  others = p.others;
  payload = p.payload;
}
