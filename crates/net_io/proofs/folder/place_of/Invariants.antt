use Rattle.std.proofs.Common.{take}
use Rattle.net_io.specs.inside.Place.{IsElsewhere}
use Rattle.net_io.proofs.folder.place_of.Given as goal

-- none of the files so far has the name
abbrev pub invariant-loop-place : goal.invariant-loop-place
invariant-loop-place l = IsElsewhere (take l.place l.files) l.name
