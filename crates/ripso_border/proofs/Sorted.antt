-- Option 130, by its type.
use Rattle.std.specs.Prelude.{Bool, ◌==◌}
use Rattle.ip_headers.specs.Options.{Placed, type_octet}

abbrev pub is_ripso_option : Placed → Bool
is_ripso_option option = type_octet option.octets == 130
