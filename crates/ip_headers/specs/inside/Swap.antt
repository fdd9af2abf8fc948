-- What the functions that go over a list of options for those of one type say.
use Rattle.std.specs.Prelude.{ℕ, not, ◌==◌, ◌&&◌, List, [], map, if◌then◌else◌}
use Rattle.std.specs.List.{concat}
use Rattle.ip_headers.specs.declared.version.Version.TheVariants.{V4}
use Rattle.ip_headers.specs.Options.{Placed, type_octet, is_other_type}
use Rattle.ip_headers.specs.Swapped.{without_kind}
use Rattle.ip_headers.specs.inside.Write.{others_in}

-- the octets of options, one after another
abbrev pub joined : List Placed → List ℕ
joined options = concat (map (λ (o : Placed). o.octets) options)

-- what is kept of one option
abbrev pub part_without : ℕ → List ℕ → List ℕ
part_without kind option = if is_other_type V4 (type_octet option) && not (type_octet option == kind) then option else []

-- what is kept of a list where the options of this type go too
abbrev pub kept_without : ℕ → List ℕ → List ℕ
kept_without kind area = joined (without_kind kind (others_in V4 area))
