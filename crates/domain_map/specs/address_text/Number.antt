-- Decimal numbers.
use Rattle.std.specs.Prelude.{ℕ, ◌&&◌, nat_le, List, Option, Some, None, if◌then◌else◌}
use Rattle.std.specs.Fmt.{decimal}
use Rattle.std.specs.Str.{bytes_eq}
use Rattle.std.specs.Str.Parse.{digits_value}

-- The number up to `most` whose decimal text this is: the text is the one that is written for what its digits make, so
-- neither a sign nor a leading zero is in it.
abbrev pub number_of_text : ℕ → List ℕ → Option ℕ
number_of_text most text = let n = digits_value 10 text in if bytes_eq (decimal n) text && nat_le n most then Some n else None
