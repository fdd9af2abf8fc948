-- Parts of a crossing.
use Rattle.std.specs.Prelude.{◌≡◌, ℕ, ◌+◌, ◌^◌, ◌<◌, ◌==◌, nat_lt, true, false, not, if◌then◌else◌, List, [], ◌∷◌, length, Option, Some, None, Result, Ok, Err}
use Rattle.std.specs.List.{All}
use Rattle.mls_label.specs.declared.octet_grammar.fault.WireFault.{WireFault}
use Rattle.mls_label.specs.declared.label.Label.{Label}
use Rattle.mls_label.specs.declared.label.Tag.{Tag}
use Rattle.cipso_tags.specs.Text.{first_tag_of}
use Rattle.cipso_option.specs.Text.{cipso_text}
use Rattle.ripso_option.specs.Reading.{ripso_of}
use Rattle.ripso_option.specs.Text.{fits_ripso, ripso_text}
use Rattle.ip_headers.specs.Options.{Placed}
use Rattle.ip_headers.specs.Packet.{ParsedPacket, Headers}
use Rattle.ip_headers.specs.Swapped.{IsWholeOption, led_by}
use Rattle.ip_headers.specs.Written.{packet_octets, rebuilt_room, rebuilt_length}
use Rattle.packet_label.specs.declared.packet.Wire.{Wire}
use Rattle.packet_label.specs.declared.denial.Denial.{Denial}
use Rattle.packet_label.specs.declared.denial.Denial.TheVariants.{BadOption, Unlabelled, AlreadyLabelled, UnknownDoi, TagNotAllowed, LevelUnmapped, CategoryUnmapped, NoRoom, TooLong}
use Rattle.packet_label.specs.declared.denial.Stop.{Stop}
use Rattle.packet_label.specs.declared.denial.Stop.TheVariants.{Denied, OutOfMemory}
use Rattle.doi_table.specs.declared.plan.DoiPlan.{DoiPlan}
use Rattle.doi_table.specs.declared.unmapped.Unmapped.{Unmapped}
use Rattle.doi_table.specs.declared.unmapped.Unmapped.TheVariants.{Level, Category}
use Rattle.doi_table.specs.Translation.{wire_label}
use Rattle.label_receive.specs.Incoming.{lists_tag}
use Rattle.label_send.specs.Room.{within_room}
use Rattle.ripso_border.specs.Options.{ripso_options}
use Rattle.ripso_border.specs.In.{in_unless, in_packet}
use Rattle.ripso_border.specs.Out.{out_said}

-- what a call that has filled a lent label answers
abbrev pub lent : Label → Result (Unit {0}) Denial → Result Label Denial
lent label (Ok done) = Ok label
lent label (Err why) = Err why

-- what an option says, with its fault counted in the packet
abbrev pub said_at : ℕ → Result (Label × ℕ) WireFault → Result Label Denial
said_at place (Err fault) = Err (BadOption (place + fault.octet))
said_at place (Ok said) = Ok said.0

-- what the only option among these says
abbrev pub said_in : List Placed → Result Label Denial
said_in [] = Err Unlabelled
said_in (option ∷ second ∷ more) = Err (BadOption second.place)
said_in (option ∷ []) = said_at option.place (ripso_of option.octets)

-- a label in the border's own numbers, or what of it has none
abbrev pub local_of : Result Label Unmapped → Result Label Denial
local_of (Err Level) = Err LevelUnmapped
local_of (Err (Category c)) = Err (CategoryUnmapped c)
local_of (Ok label) = Ok label

-- the option of this label in the first tag that can say it, and it may stand in a header
pub record IsTagged (tags : List Tag) (doi : ℕ) (label : Label) (option : List ℕ) : Type 0 where
  pub tag : Tag
  pub first : first_tag_of tags label ≡ Some tag
  pub text : option ≡ cipso_text doi tag label
  pub whole : IsWholeOption option

-- the option with which a packet goes in, if it has room
pub record IsLocalOption (plan : DoiPlan) (doi : ℕ) (h : Headers) (option : List ℕ) : Type 0 where
  pub tag : Tag
  pub label : Label
  pub text : option ≡ cipso_text doi tag label
  pub whole : IsWholeOption option
  pub goes : in_unless plan doi h h.label ≡ within_room (in_packet doi tag label h)

-- no option 130 is there
abbrev pub free_of : List Placed → Result (Unit {0}) Denial
free_of [] = Ok tt
free_of (option ∷ more) = Err (AlreadyLabelled option.place)

-- the DOI is the border's, and its definition has the tag
abbrev pub defined_for : DoiPlan → ℕ → ℕ → ℕ → Tag → Result (Unit {0}) Denial
defined_for plan doi place said tag =
    if not (said == doi) then Err (UnknownDoi (place + 2))
    else (if not (lists_tag plan.tags tag) then Err (TagNotAllowed (place + 6))
    else Ok tt)

-- option 130 can't say what the definition gives for a label, if it gives something
abbrev pub IsInexpressible : Result Label Unmapped → Type 0
IsInexpressible (Err why) = Unit {0}
IsInexpressible (Ok label) = fits_ripso label ≡ false

-- the option of what a definition gives for a label, and it may stand in a header
pub record IsWireText (plan : DoiPlan) (label : Label) (option : List ℕ) : Type 0 where
  pub wire : Label
  pub translates : wire_label plan label ≡ Ok wire
  pub fits : fits_ripso wire ≡ true
  pub text : option ≡ ripso_text wire
  pub whole : IsWholeOption option

-- the option with which a packet goes out, if it has room
pub record IsWireOption (plan : DoiPlan) (doi : ℕ) (p : ParsedPacket Wire) (option : List ℕ) : Type 0 where
  pub label : Label
  pub text : option ≡ ripso_text label
  pub whole : IsWholeOption option
  pub free : ripso_options p.others ≡ []
  pub goes : out_said plan doi p p.label ≡ within_room (led_by option p)

-- options of which each stands in octets that have a number of 64 bits
abbrev pub ArePlaced : List Placed → Type 0
ArePlaced others = All (λ (o : Placed). o.place + length o.octets < 2 ^ 64) others

-- why headers can't be written, in version 4
abbrev pub room_fault : Headers → Option Denial
room_fault h = if nat_lt 40 (rebuilt_room h) then Some NoRoom else (if nat_lt 65535 (rebuilt_length h) then Some TooLong else None)

-- they were written, or not for that reason, or for want of memory
abbrev pub Swaps : Headers → Result (Unit {0}) Stop → List ℕ → Type 0
Swaps h (Ok done) out = (room_fault h ≡ None) × (out ≡ packet_octets h)
Swaps h (Err (Denied why)) out = (room_fault h ≡ Some why) × (out ≡ [])
Swaps h (Err OutOfMemory) out = out ≡ []
