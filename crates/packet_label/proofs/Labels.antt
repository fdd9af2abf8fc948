-- What a label option says is a label.
use Rattle.std.proofs.Common.{◌≡◌, List, ℕ, Option, None, Some, sym, subst}
use Rattle.mls_label.specs.octet_grammar.Octets.{IsOctets}
use Rattle.mls_label.specs.declared.label.Tag.{Tag}
use Rattle.mls_label.specs.declared.label.Tag.TheVariants.{One, Two, Five}
use Rattle.mls_label.specs.Cats.{IsCats}
use Rattle.mls_label.specs.Label.{IsLabel}
use Rattle.mls_label.proofs.Law.{tests_give_sets}
use Rattle.mls_label.specs.category_bitmap.Bitmap.{has_bit}
use Rattle.cipso_tags.specs.Body.{IsBody, covers}
use Rattle.cipso_option.specs.declared.cipso.Cipso.{Cipso}
use Rattle.cipso_option.specs.Cipso.{IsCipso}
use Rattle.calipso_option.specs.declared.calipso.Calipso.{Calipso}
use Rattle.calipso_option.specs.Calipso.{IsCalipso}
use Rattle.ip_headers.specs.declared.version.Version.{Version}
use Rattle.ip_headers.specs.declared.version.Version.TheVariants.{V4, V6}
use Rattle.ip_headers.specs.Options.{Placed}
use Rattle.ip_headers.specs.Packet.{ParsedPacket}
use Rattle.packet_label.specs.declared.packet.Wire.{Wire}
use Rattle.packet_label.specs.declared.packet.Wire.TheVariants as wire
use Rattle.packet_label.specs.Packet.{IsPacket}
use Rattle.packet_label.specs.Wire.{label_said, IsWire, OptionSays}

bodies_have_sets : (tag : Tag) (body cats : List ℕ) → IsBody tag body cats → IsCats cats
bodies_have_sets One body cats is = subst IsCats (sym is.carries) (tests_give_sets (has_bit body))
bodies_have_sets Two body cats is = subst IsCats (sym is.carries) is.ordered
bodies_have_sets Five body cats is = subst IsCats (sym is.carries) (tests_give_sets (covers is.numbers))

cipso_label : (octets : List ℕ) (value : Cipso) → IsCipso octets value → IsLabel value.label
cipso_label octets value is = record { level = is.carries.level; cats = bodies_have_sets value.tag is.carries.body value.label.cats is.carries.carries }

calipso_label : (octets : List ℕ) (value : Calipso) → IsCalipso octets value → IsLabel value.label
calipso_label octets value is = record {
  level = (subst IsOctets is.shape.is is.shape.octets).at 7;
  cats = subst IsCats (sym is.shape.carries) (tests_give_sets (has_bit is.shape.bitmap));
}

option_label : (version : Version) (option : Placed) (said : Wire) → IsWire version option said → IsLabel (label_said said)
option_label V4 option (wire.Cipso at doi tag label) is = cipso_label option.octets (record { doi = doi; tag = tag; label = label }) is.1
option_label V6 option (wire.Calipso at doi label) is = calipso_label option.octets (record { doi = doi; label = label }) is.1
option_label V4 option (wire.Calipso at doi label) is = absurd is
option_label V6 option (wire.Cipso at doi tag label) is = absurd is

some_label : (version : Version) (option : Option Placed) (said : Wire) → OptionSays version option (Some said) → IsLabel (label_said said)
some_label version None said is = absurd is
some_label version (Some option) said is = option_label version option said is

pub said_label : (octets : List ℕ) (p : ParsedPacket Wire) (said : Wire) → IsPacket octets p → p.label ≡ Some said → IsLabel (label_said said)
said_label octets p said is e = some_label is.headers.version is.headers.label said (subst (OptionSays is.headers.version is.headers.label) e is.option)
