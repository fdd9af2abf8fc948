-- A label option in its place is written as the same octets in front of the other options.
use Rattle.std.proofs.Common.{◌≡◌, ℕ, Bool, true, false, not, List, [], ◌∷◌, cond, refl, sym, ap, ◌∙◌}
use Rattle.std.specs.Prelude.{Option, Some, None, Result, Ok, Err, nat_lt, if◌then◌else◌, filter}
use Rattle.mls_label.specs.declared.label.Label.{Label}
use Rattle.mls_label.specs.declared.label.Tag.{Tag}
use Rattle.cipso_option.specs.Text.{cipso_text}
use Rattle.ripso_option.specs.Text.{ripso_text}
use Rattle.ip_headers.specs.declared.version.Version.{Version}
use Rattle.ip_headers.specs.declared.version.Version.TheVariants.{V4, V6}
use Rattle.ip_headers.specs.Options.{Placed}
use Rattle.ip_headers.specs.Packet.{ParsedPacket, Headers}
use Rattle.ip_headers.specs.Reading.{first_place}
use Rattle.ip_headers.specs.Written.{packed, kept_options, packet_octets, rebuilt_room, rebuilt_length, room_limit}
use Rattle.packet_label.specs.declared.packet.Wire.{Wire}
use Rattle.packet_label.specs.declared.denial.Denial.{Denial}
use Rattle.packet_label.specs.declared.denial.Denial.TheVariants.{NoRoom, TooLong}
use Rattle.packet_label.specs.declared.denial.Stop.{Stop}
use Rattle.packet_label.specs.declared.denial.Stop.TheVariants.{Denied, OutOfMemory}
use Rattle.packet_label.specs.Written.{written}
use Rattle.label_send.specs.Answer.{Answers, packet_alone}
use Rattle.label_send.specs.Room.{within_room}
use Rattle.ripso_border.specs.Options.{ripso_options}
use Rattle.ripso_border.proofs.Sorted.{is_ripso_option}
use Rattle.ripso_border.specs.In.{in_packet}
use Rattle.ripso_border.specs.inside.Steps.{room_fault, Swaps}
use Rattle.ip_headers.specs.Swapped.{led_by}
use Rattle.ip_headers.specs.Swapped.{swapped_kind}

-- the packet with this label option, and these others
abbrev with_options : Headers → Version → Option Placed → List Placed → Headers
with_options h version label others = record h { version = version; label = label; others = others }

led_octets : (h : Headers) (version : Version) (option : List ℕ) (others : List Placed) → version ≡ V4 → packet_octets (with_options h version (Some (record { place = 20; octets = option })) others) ≡ packet_octets (with_options h version None (record { place = 20; octets = option } ∷ others))
unfolding packed kept_options packet_octets
led_octets h V4 option others is = refl
led_octets h V6 option others is = absurd (cc)

led_room : (h : Headers) (version : Version) (option : List ℕ) (others : List Placed) → version ≡ V4 → rebuilt_room (with_options h version (Some (record { place = 20; octets = option })) others) ≡ rebuilt_room (with_options h version None (record { place = 20; octets = option } ∷ others))
unfolding packed kept_options rebuilt_room
led_room h V4 option others is = refl
led_room h V6 option others is = absurd (cc)

led_length : (h : Headers) (version : Version) (option : List ℕ) (others : List Placed) → version ≡ V4 → rebuilt_length (with_options h version (Some (record { place = 20; octets = option })) others) ≡ rebuilt_length (with_options h version None (record { place = 20; octets = option } ∷ others))
unfolding packed kept_options rebuilt_length
led_length h V4 option others is = refl
led_length h V6 option others is = absurd (cc)

-- without options of this type nothing is left out
keep_all : (p : Placed → Bool) (others : List Placed) → filter p others ≡ [] → filter (λ o. not (p o)) others ≡ others
keep_all p [] none = refl
keep_all p (o ∷ others) none = keep_step (p o) o (filter p others) (filter (λ o. not (p o)) others) others none (keep_all p others)
  where
    keep_step : (b : Bool) (o : Placed) (found kept others : List Placed) → cond b (o ∷ found) found ≡ [] → (found ≡ [] → kept ≡ others) → cond (not b) (o ∷ kept) kept ≡ o ∷ others
    keep_step true o found kept others none rest = absurd (cc)
    keep_step false o found kept others none rest = ap (λ xs. o ∷ xs) (rest none)

pub record OneWriterServesBothWays : Type 0 where
  pub into : (doi : ℕ) (tag : Tag) (label : Label) (h : Headers) → h.version ≡ V4 → packet_octets (written (in_packet doi tag label h)) ≡ packet_octets (swapped_kind 130 (cipso_text doi tag label) h)
  pub out : (label : Label) (p : ParsedPacket Wire) → ripso_options p.others ≡ [] → packet_octets (written (led_by (ripso_text label) p)) ≡ packet_octets (swapped_kind 130 (ripso_text label) (written p))

pub one_writer_serves_both_ways : OneWriterServesBothWays
one_writer_serves_both_ways = record {
  into = λ doi tag label h is.
      ap (λ v. packet_octets (with_options h h.version (Some (record { place = first_place v; octets = cipso_text doi tag label })) (filter (λ o. not (is_ripso_option o)) h.others))) is
      ∙ led_octets h h.version (cipso_text doi tag label) (filter (λ o. not (is_ripso_option o)) h.others) is;
  out = λ label p none.
      ap (λ others. packet_octets (with_options (written p) p.version None (record { place = 20; octets = ripso_text label } ∷ others))) (sym (keep_all is_ripso_option p.others none));
}

-- ---- what a writer of the swapped headers gives

-- a packet of version 4 is written as these headers are
pub record IsWrittenAs (h : Headers) (p : ParsedPacket Wire) : Type 0 where
  pub version : p.version ≡ V4
  pub octets : packet_octets (written p) ≡ packet_octets h
  pub room : rebuilt_room (written p) ≡ rebuilt_room h
  pub long : rebuilt_length (written p) ≡ rebuilt_length h

pub in_as : (doi : ℕ) (tag : Tag) (label : Label) (h : Headers) → h.version ≡ V4 → IsWrittenAs (swapped_kind 130 (cipso_text doi tag label) h) (in_packet doi tag label h)
in_as doi tag label h is =
    let kept = filter (λ o. not (is_ripso_option o)) h.others in
    record {
      version = is;
      octets = one_writer_serves_both_ways.into doi tag label h is;
      room = ap (λ v. rebuilt_room (with_options h h.version (Some (record { place = first_place v; octets = cipso_text doi tag label })) kept)) is ∙ led_room h h.version (cipso_text doi tag label) kept is;
      long = ap (λ v. rebuilt_length (with_options h h.version (Some (record { place = first_place v; octets = cipso_text doi tag label })) kept)) is ∙ led_length h h.version (cipso_text doi tag label) kept is;
    }

pub out_as : (text : List ℕ) (p : ParsedPacket Wire) (h : Headers) → p.version ≡ V4 → ripso_options p.others ≡ [] → swapped_kind 130 text (written p) ≡ swapped_kind 130 text h
    → IsWrittenAs (swapped_kind 130 text h) (led_by text p)
out_as text p h is none same =
    let kept = keep_all is_ripso_option p.others none in
    let all : written (led_by text p) ≡ swapped_kind 130 text h =
    ap (λ others. with_options (written p) p.version None (record { place = 20; octets = text } ∷ others)) (sym kept) ∙ same in
    record { version = is; octets = ap packet_octets all; room = ap rebuilt_room all; long = ap rebuilt_length all }

-- ---- within the room, or why not

fits_by : (p : ParsedPacket Wire) (a b : Bool) → (if a then Some NoRoom else (if b then Some TooLong else None)) ≡ None → (if a then Err NoRoom else (if b then Err TooLong else Ok p)) ≡ Ok p
fits_by p true b e = absurd (cc)
fits_by p false true e = absurd (cc)
fits_by p false false e = refl

refused_by : (p : ParsedPacket Wire) (why : Denial) (a b : Bool) → (if a then Some NoRoom else (if b then Some TooLong else None)) ≡ Some why
    → (if a then Err NoRoom else (if b then Err TooLong else Ok p)) ≡ Err why
refused_by p why true b e = let same : NoRoom ≡ why = cc in ap Err same
refused_by p why false true e = let same : TooLong ≡ why = cc in ap Err same
refused_by p why false false e = absurd (cc)

fault_of : (h : Headers) (p : ParsedPacket Wire) (like : IsWrittenAs h p) → (if nat_lt (room_limit p.version) (rebuilt_room (written p)) then Some NoRoom else (if nat_lt 65535 (rebuilt_length (written p)) then Some TooLong else None)) ≡ room_fault h
fault_of h p like =
    ap (λ v. if nat_lt (room_limit v) (rebuilt_room (written p)) then Some NoRoom else (if nat_lt 65535 (rebuilt_length (written p)) then Some TooLong else None)) like.version
    ∙ ap (λ n. if nat_lt 40 n then Some NoRoom else (if nat_lt 65535 (rebuilt_length (written p)) then Some TooLong else None)) like.room
    ∙ ap (λ n. if nat_lt 40 (rebuilt_room h) then Some NoRoom else (if nat_lt 65535 n then Some TooLong else None)) like.long

-- what the call that swaps answers is the answer of a rule that gives this packet within its room
pub swap_answers : (h : Headers) (p : ParsedPacket Wire) (rule : Result (ParsedPacket Wire) Denial) (result : Result (Unit {0}) Stop) (out : List ℕ)
    → IsWrittenAs h p → rule ≡ within_room p → Swaps h result out → Answers packet_alone rule result out
swap_answers h p rule (Ok done) out like is swaps =
    (p, is ∙ fits_by p (nat_lt (room_limit p.version) (rebuilt_room (written p))) (nat_lt 65535 (rebuilt_length (written p))) (fault_of h p like ∙ swaps.0), swaps.1 ∙ sym like.octets)
swap_answers h p rule (Err (Denied why)) out like is swaps =
    (is ∙ refused_by p why (nat_lt (room_limit p.version) (rebuilt_room (written p))) (nat_lt 65535 (rebuilt_length (written p))) (fault_of h p like ∙ swaps.0), swaps.1)
swap_answers h p rule (Err OutOfMemory) out like is swaps = swaps
