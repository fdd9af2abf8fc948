-- Numbers in either order of octets, as a file's magic names one.
use Rattle.std.specs.Prelude.{ℕ, List}
use Rattle.byteorder.specs.Endian.{big_number, little_number}
use Rattle.net_io.specs.declared.file_window.order.OctetOrder.{OctetOrder}
use Rattle.net_io.specs.declared.file_window.order.OctetOrder.TheVariants.{Little, Big}

-- the number in the first n octets
unfoldable pub ordered_number : OctetOrder → ℕ → List ℕ → ℕ
ordered_number Little n octets = little_number n octets
ordered_number Big n octets = big_number n octets
