-- The reading of a flow's capture beside its report.
use Rattle.std.proofs.Common.{◌≡◌, ap}
use Rattle.std.specs.Prelude.{IsTrue}
use Rattle.net_io.specs.Depot.{DepotState, octets_of}
use Rattle.captures.specs.declared.reader.AnyFrames.{AnyFrames}
use Rattle.captures.specs.Reader.{file_name_of, left_of, IsReadable}
use Rattle.captures.proofs.Law.{a_reader_goes_on_in_a_kept_file}
use Rattle.label_audit.specs.inside.Flow.{left_by}
use Rattle.label_audit.proofs.Frames.{Unmoved}

-- a capture stays as it is while something else is read
pub reader_on : (a b : DepotState) (reader : AnyFrames) → Unmoved a b → IsReadable a reader → IsReadable b reader
reader_on a b reader same ready = a_reader_goes_on_in_a_kept_file a b reader same.told (λ tells. same.kept tells (file_name_of reader)) ready

pub left_same : (a b : DepotState) (reader : AnyFrames) → Unmoved a b → IsTrue a.tells → left_by b reader ≡ left_by a reader
left_same a b reader same tells = ap (λ h. left_of reader (octets_of h)) (same.kept tells (file_name_of reader))
