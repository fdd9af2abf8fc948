-- The steps of a packet that comes in, one behind another.
use Rattle.std.proofs.Common.{◌≡◌, ℕ, ◌+◌, ◌<◌, ◌≤◌, ◌^◌, List, [], ◌∷◌, length, refl, sym, ap, subst, ◌∙◌, arith}
use Rattle.std.specs.Prelude.{Option, Some, None, Result, Ok, Err, slice_get}
use Rattle.std.specs.Option.{option_map}
use Rattle.std.proofs.lemmas.List.Elements.{All-head, All-filter}
use Rattle.mls_label.specs.declared.octet_grammar.fault.WireFault.{WireFault}
use Rattle.mls_label.specs.declared.octet_grammar.fault.WireKind.{WireKind}
use Rattle.mls_label.specs.declared.octet_grammar.fault.WireKind.TheVariants.{Octet, End}
use Rattle.mls_label.specs.octet_grammar.Fault.{StopsAt, FailsFront}
use Rattle.mls_label.specs.declared.label.Label.{Label}
use Rattle.mls_label.specs.declared.label.Tag.{Tag}
use Rattle.mls_label.specs.Label.{IsLabel}
use Rattle.cipso_tags.specs.Text.{Fits, first_tag_of}
use Rattle.cipso_option.specs.Text.{cipso_text}
use Rattle.cipso_option.proofs.Law.{written_option_reads_back, options_have_10_to_40_octets, second_octet_is_the_length}
use Rattle.ripso_option.specs.Ripso.{IsRipso}
use Rattle.ripso_option.specs.Reading.{ripso_of}
use Rattle.ip_headers.specs.Options.{Placed}
use Rattle.ip_headers.specs.Packet.{ParsedPacket, Headers}
use Rattle.ip_headers.specs.declared.version.Version.TheVariants.{V4}
use Rattle.ip_headers.specs.Swapped.{IsWholeOption, swapped_kind}
use Rattle.packet_label.specs.declared.packet.Wire.{Wire}
use Rattle.packet_label.specs.declared.denial.Denial.{Denial}
use Rattle.packet_label.specs.declared.denial.Stop.{Stop}
use Rattle.packet_label.specs.declared.denial.Denial.TheVariants.{AlreadyLabelled, Inexpressible}
use Rattle.doi_table.specs.declared.plan.DoiPlan.{DoiPlan}
use Rattle.doi_table.specs.declared.unmapped.Unmapped.{Unmapped}
use Rattle.doi_table.specs.declared.unmapped.Unmapped.TheVariants.{Level, Category}
use Rattle.doi_table.specs.Translation.{local_label}
use Rattle.label_send.specs.Answer.{Answers, packet_alone}
use Rattle.ripso_border.specs.Options.{ripso_options}
use Rattle.ripso_border.specs.In.{in_by, in_said, in_local, in_tagged, in_unless, in_packet}
use Rattle.ripso_border.specs.inside.Steps.{said_at, said_in, local_of, IsTagged, IsLocalOption, ArePlaced, Swaps}
use Rattle.ripso_border.proofs.Swaps.{in_as, swap_answers}
use Rattle.ripso_border.proofs.Sorted.{is_ripso_option}
use Rattle.ripso_border.proofs.Back.{found_fits}

-- the first of some options that are placed
first_placed : (xs : List Placed) (x : Placed) → ArePlaced xs → Some x ≡ slice_get xs 0 → x.place + length x.octets < 2 ^ 64
first_placed [] x all e = absurd (cc)
first_placed (y ∷ ys) x all e = let same : y ≡ x = cc in subst (λ (o : Placed). o.place + length o.octets < 2 ^ 64) same (All-head (λ (o : Placed). o.place + length o.octets < 2 ^ 64) y ys all)

stops_low : {V : Type 0} (G : List ℕ → V → Type 0) (s : List ℕ) (octet : ℕ) (kind : WireKind) → StopsAt G s octet kind → octet ≤ length s
stops_low G s octet Octet stops = omega (arith, stops.0)
stops_low G s octet End stops = omega (arith, stops.0)

-- a fault of the first option 130 stands in it, or behind it
pub fault_at : (others : List Placed) (place : ℕ) (option : List ℕ) (fault : WireFault) → ArePlaced others → Some (record { place = place; octets = option }) ≡ slice_get (ripso_options others) 0
    → FailsFront IsRipso option fault → place + fault.octet < 2 ^ 64
fault_at others place option fault placed first fails =
    let low = stops_low IsRipso option fault.octet fault.kind fails.fault.stops in
    let here = first_placed (ripso_options others) (record { place = place; octets = option }) (All-filter is_ripso_option (λ (o : Placed). o.place + length o.octets < 2 ^ 64) others placed) first in
    omega (arith, low, here)

-- an option of this label may stand in a header
pub cipso_whole : (doi : ℕ) (tag : Tag) (label : Label) → 0 < doi → doi < 2 ^ 32 → IsLabel label → Fits tag label → IsWholeOption (cipso_text doi tag label)
cipso_whole doi tag label named small is fit =
    let member = written_option_reads_back doi tag label named small is.level is.cats fit in
    let size = options_have_10_to_40_octets (cipso_text doi tag label) _ member in
    record { long = omega (arith, size.0); short = size.1; exact = second_octet_is_the_length (cipso_text doi tag label) _ member }

pub tagged : (tags : List Tag) (doi : ℕ) (label : Label) (tag : Tag) (option : List ℕ) → 0 < doi → doi < 2 ^ 32 → IsLabel label → first_tag_of tags label ≡ Some tag → option ≡ cipso_text doi tag label → IsTagged tags doi label option
tagged tags doi label tag option named small is first text =
    record { tag = tag; first = first; text = text; whole = subst IsWholeOption (sym text) (cipso_whole doi tag label named small is (found_fits tags label tag first)) }

module _ (plan : DoiPlan) (doi : ℕ) (h : Headers) where
  -- behind what the option says
  abbrev behind_said : Result Label Denial → Result (ParsedPacket Wire) Denial
  behind_said (Ok wire) = in_local plan doi h (local_label plan wire)
  behind_said (Err why) = Err why

  by_said : (place : ℕ) (said : Result (Label × ℕ) WireFault) → in_said plan doi h place said ≡ behind_said (said_at place said)
  by_said place (Ok said) = refl
  by_said place (Err fault) = refl

  by_options : (options : List Placed) → in_by plan doi h options ≡ behind_said (said_in options)
  by_options [] = refl
  by_options (option ∷ second ∷ more) = refl
  by_options (option ∷ []) = by_said option.place (ripso_of option.octets)

  abbrev behind_local : Result Label Denial → Result (ParsedPacket Wire) Denial
  behind_local (Ok label) = in_tagged doi h label (first_tag_of plan.tags label)
  behind_local (Err why) = Err why

  by_local : (found : Result Label Unmapped) → in_local plan doi h found ≡ behind_local (local_of found)
  by_local (Ok label) = refl
  by_local (Err Level) = refl
  by_local (Err (Category c)) = refl

  -- what comes of a packet without a label option
  unlabelled : (said : Result Label Denial) → h.label ≡ None → said_in (ripso_options h.others) ≡ said → in_unless plan doi h h.label ≡ behind_said said
  unlabelled said free is = ap (in_unless plan doi h) free ∙ by_options (ripso_options h.others) ∙ ap behind_said is

  translated : (wire : Label) (local : Result Label Denial) → h.label ≡ None → said_in (ripso_options h.others) ≡ Ok wire → local_of (local_label plan wire) ≡ local → in_unless plan doi h h.label ≡ behind_local local
  translated wire local free said is = unlabelled (Ok wire) free said ∙ by_local (local_label plan wire) ∙ ap behind_local is

  pub says_nothing : (why : Denial) → h.label ≡ None → said_in (ripso_options h.others) ≡ Err why → in_unless plan doi h h.label ≡ Err why
  says_nothing why free is = unlabelled (Err why) free is

  pub has_no_number : (wire : Label) (why : Denial) → h.label ≡ None → said_in (ripso_options h.others) ≡ Ok wire → local_of (local_label plan wire) ≡ Err why → in_unless plan doi h h.label ≡ Err why
  has_no_number wire why free said is = translated wire (Err why) free said is

  pub has_no_tag : (wire local : Label) (why : Denial) → h.label ≡ None → said_in (ripso_options h.others) ≡ Ok wire → local_of (local_label plan wire) ≡ Ok local
      → why ≡ Inexpressible → first_tag_of plan.tags local ≡ None → in_unless plan doi h h.label ≡ Err why
  has_no_tag wire local why free said is what none = translated wire (Ok local) free said is ∙ ap (in_tagged doi h local) none ∙ ap Err (sym what)

  pub has_option : (wire local : Label) (option : List ℕ) → h.label ≡ None → said_in (ripso_options h.others) ≡ Ok wire → local_of (local_label plan wire) ≡ Ok local
      → IsTagged plan.tags doi local option → IsLocalOption plan doi h option
  has_option wire local option free said is t =
      record { tag = t.tag; label = local; text = t.text; whole = t.whole; goes = translated wire (Ok local) free said is ∙ ap (in_tagged doi h local) t.first }

-- a label option that stands somewhere is there
pub label_there : (place : ℕ) (label : Option Placed) → Some place ≡ option_map (λ (o : Placed). o.place) label → (plan : DoiPlan) (doi : ℕ) (h : Headers) → in_unless plan doi h label ≡ Err (AlreadyLabelled place)
label_there place None e plan doi h = absurd (cc)
label_there place (Some o) e plan doi h = let same : place ≡ o.place = cc in ap (λ n. Err (AlreadyLabelled n)) (sym same)

pub label_absent : (label : Option Placed) → None ≡ option_map (λ (o : Placed). o.place) label → label ≡ None
label_absent None e = refl
label_absent (Some o) e = absurd (cc)

-- what is answered where the option was swapped
pub in_answers : (plan : DoiPlan) (doi : ℕ) (h : Headers) (option given : List ℕ) (result : Result (Unit {0}) Stop) (out : List ℕ) → h.version ≡ V4 → IsLocalOption plan doi h option → given ≡ option
    → Swaps (swapped_kind 130 given h) result out → Answers packet_alone (in_unless plan doi h h.label) result out
in_answers plan doi h option given result out version o is swaps =
    swap_answers (swapped_kind 130 (cipso_text doi o.tag o.label) h) (in_packet doi o.tag o.label h) (in_unless plan doi h h.label) result out (in_as doi o.tag o.label h version) o.goes
    (subst (λ (t : List ℕ). Swaps (swapped_kind 130 t h) result out) (is ∙ o.text) swaps)
