-- Why commands are refused.
use Rattle.std.specs.Prelude.{ℕ, List, codes}
use Rattle.doi_table.specs.declared.fault.DoiFault.{DoiFault}
use Rattle.doi_table.specs.declared.fault.DoiFault.TheVariants as Doi
use Rattle.domain_map.specs.declared.fault.MapFault.{MapFault}
use Rattle.domain_map.specs.declared.fault.MapFault.TheVariants as Map
use Rattle.domain_map.specs.declared.fault.StaticFault.{StaticFault}
use Rattle.domain_map.specs.declared.fault.StaticFault.TheVariants as Static
use Rattle.node_tables.specs.declared.reply.Refusal.{Refusal}
use Rattle.node_tables.specs.declared.reply.Refusal.TheVariants.{DoiExists, DoiUnknown, DoiInUse, NotOneToOne, TooManyPairs, MapExists, MapUnknown, MapPlain, MapHasAddresses, StaticExists, StaticUnknown, ReceiverExists, ReceiverUnknown, RangeExists, RangeUnknown, PairExists, PairUnknown, TableFull}

-- the names under which they are reported
abbrev pub refusal_name : Refusal → List ℕ
refusal_name DoiExists = codes "DoiExists"
refusal_name DoiUnknown = codes "DoiUnknown"
refusal_name DoiInUse = codes "DoiInUse"
refusal_name NotOneToOne = codes "NotOneToOne"
refusal_name TooManyPairs = codes "TooManyPairs"
refusal_name MapExists = codes "MapExists"
refusal_name MapUnknown = codes "MapUnknown"
refusal_name MapPlain = codes "MapPlain"
refusal_name MapHasAddresses = codes "MapHasAddresses"
refusal_name StaticExists = codes "StaticExists"
refusal_name StaticUnknown = codes "StaticUnknown"
refusal_name ReceiverExists = codes "ReceiverExists"
refusal_name ReceiverUnknown = codes "ReceiverUnknown"
refusal_name RangeExists = codes "RangeExists"
refusal_name RangeUnknown = codes "RangeUnknown"
refusal_name PairExists = codes "PairExists"
refusal_name PairUnknown = codes "PairUnknown"
refusal_name TableFull = codes "TableFull"

-- the fault of a table of definitions; what isn't named is that it is full
abbrev pub doi_refusal : DoiFault → Refusal
doi_refusal Doi.Exists = DoiExists
doi_refusal Doi.TooManyPairs = TooManyPairs
doi_refusal Doi.NotOneToOne = NotOneToOne
doi_refusal fault = TableFull

-- the same of a map
abbrev pub map_refusal : MapFault → Refusal
map_refusal Map.Exists = MapExists
map_refusal Map.Plain = MapPlain
map_refusal Map.HasAddresses = MapHasAddresses
map_refusal fault = TableFull

-- and of static labels
abbrev pub static_refusal : StaticFault → Refusal
static_refusal Static.Exists = StaticExists
static_refusal fault = TableFull
