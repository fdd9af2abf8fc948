-- The steps of a packet that goes out, one behind another.
use Rattle.std.proofs.Common.{◌≡◌, ℕ, ◌+◌, Bool, true, false, not, ◌==◌, List, [], ◌∷◌, refl, sym, ap, subst, ◌∙◌, arith}
use Rattle.std.specs.Prelude.{Option, Some, None, Result, Ok, Err, if◌then◌else◌}
use Rattle.mls_label.specs.declared.label.Label.{Label}
use Rattle.mls_label.specs.declared.label.Tag.{Tag}
use Rattle.mls_label.specs.Label.{IsLabel}
use Rattle.ripso_option.specs.Text.{fits_ripso, ripso_text}
use Rattle.ripso_option.proofs.Law.{written_option_reads_back, options_have_3_to_7_octets, second_octet_is_the_length}
use Rattle.ip_headers.specs.Options.{Placed}
use Rattle.ip_headers.specs.Packet.{ParsedPacket, Headers}
use Rattle.ip_headers.specs.declared.version.Version.TheVariants.{V4}
use Rattle.ip_headers.specs.Swapped.{IsWholeOption, led_by, swapped_kind}
use Rattle.packet_label.specs.declared.packet.Mark.{Mark}
use Rattle.packet_label.specs.declared.packet.Mark.TheVariants as mark
use Rattle.packet_label.specs.declared.packet.Wire.{Wire}
use Rattle.packet_label.specs.Wire.{wire_with}
use Rattle.packet_label.specs.declared.packet.Wire.TheVariants.{Cipso}
use Rattle.packet_label.specs.declared.fault.CarryFault.{CarryFault}
use Rattle.packet_label.specs.Fault.{IsPacketFault}
use Rattle.packet_label.specs.Packet.{IsPacket, labelled}
use Rattle.packet_label.specs.declared.denial.Denial.{Denial}
use Rattle.packet_label.specs.declared.denial.Stop.{Stop}
use Rattle.packet_label.specs.declared.denial.Stop.TheVariants.{Denied}
use Rattle.packet_label.specs.declared.denial.Denial.TheVariants.{AlreadyLabelled, UnknownDoi, TagNotAllowed, Inexpressible, NotIp}
use Rattle.doi_table.specs.declared.plan.DoiPlan.{DoiPlan}
use Rattle.doi_table.specs.declared.unmapped.Unmapped.{Unmapped}
use Rattle.doi_table.specs.Translation.{wire_label}
use Rattle.label_receive.specs.Incoming.{lists_tag}
use Rattle.label_receive.specs.Judged.{fault_denial, judged_by}
use Rattle.label_send.specs.Answer.{Answers, packet_alone}
use Rattle.label_send.specs.Room.{within_room}
use Rattle.ripso_border.specs.Options.{ripso_options}
use Rattle.ripso_border.specs.declared.border.Way.{Way}
use Rattle.ripso_border.specs.declared.border.Way.TheVariants as way
use Rattle.ripso_border.specs.Crossing.{Crossed, Crosses, HasCrossed}
use Rattle.ripso_border.specs.Out.{Out, border_out, out_said, out_unless, out_by, out_wire}
use Rattle.ripso_border.specs.inside.Steps.{free_of, defined_for, IsInexpressible, IsWireText, IsWireOption, Swaps}
use Rattle.ripso_border.proofs.Back.{same_answer}
use Rattle.ripso_border.proofs.Swaps.{out_as, swap_answers}

pub wire_text_of : (plan : DoiPlan) (label wire : Label) (option : List ℕ) → wire_label plan label ≡ Ok wire → fits_ripso wire ≡ true → IsLabel wire → option ≡ ripso_text wire → IsWireText plan label option
wire_text_of plan label wire option translates fits is text =
    let member = written_option_reads_back wire is.cats fits in
    let size = options_have_3_to_7_octets (ripso_text wire) wire member in
    let whole : IsWholeOption (ripso_text wire) = record { long = omega (arith, size.0); short = omega (arith, size.1); exact = second_octet_is_the_length (ripso_text wire) wire member } in
    record { wire = wire; translates = translates; fits = fits; text = text; whole = subst IsWholeOption (sym text) whole }

is_free : (others : List Placed) (goes : Result (ParsedPacket Wire) Denial) → free_of others ≡ Ok tt → out_unless others goes ≡ goes
is_free [] goes e = refl
is_free (option ∷ more) goes e = absurd (cc)

none_there : (others : List Placed) → free_of others ≡ Ok tt → others ≡ []
none_there [] e = refl
none_there (option ∷ more) e = absurd (cc)

pub one_there : (others : List Placed) (why : Denial) (goes : Result (ParsedPacket Wire) Denial) → free_of others ≡ Err why → out_unless others goes ≡ Err why
one_there [] why goes e = absurd (cc)
one_there (option ∷ more) why goes e = let same : AlreadyLabelled option.place ≡ why = cc in ap Err same

abbrev tests : Bool → Bool → ℕ → ℕ → Result (Unit {0}) Denial
tests a b x y = if a then Err (UnknownDoi x) else (if b then Err (TagNotAllowed y) else Ok tt)

passes : (a b : Bool) (x y : ℕ) (goes : Result (ParsedPacket Wire) Denial) → tests a b x y ≡ Ok tt → (if a then Err (UnknownDoi x) else (if b then Err (TagNotAllowed y) else goes)) ≡ goes
passes true b x y goes e = absurd (cc)
passes false true x y goes e = absurd (cc)
passes false false x y goes e = refl

fails : (a b : Bool) (x y : ℕ) (why : Denial) (goes : Result (ParsedPacket Wire) Denial) → tests a b x y ≡ Err why → (if a then Err (UnknownDoi x) else (if b then Err (TagNotAllowed y) else goes)) ≡ Err why
fails true b x y why goes e = let same : UnknownDoi x ≡ why = cc in ap Err same
fails false true x y why goes e = let same : TagNotAllowed y ≡ why = cc in ap Err same
fails false false x y why goes e = absurd (cc)

cannot : (p : ParsedPacket Wire) (found : Result Label Unmapped) → IsInexpressible found → out_wire p found ≡ Err Inexpressible
cannot p (Err why) is = refl
cannot p (Ok label) is = rw is refl

can : (p : ParsedPacket Wire) (wire : Label) → fits_ripso wire ≡ true → out_wire p (Ok wire) ≡ within_room (led_by (ripso_text wire) p)
can p wire is = rw is refl

module _ (plan : DoiPlan) (doi : ℕ) (p : ParsedPacket Wire) (at said : ℕ) (tag : Tag) (label : Label) where
  abbrev Goes : Result (ParsedPacket Wire) Denial
  Goes = out_said plan doi p (Some (Cipso at said tag label))

  pub has_ripso : (why : Denial) → free_of (ripso_options p.others) ≡ Err why → Goes ≡ Err why
  has_ripso why e = one_there (ripso_options p.others) why (out_by plan doi p at said tag label) e

  pub is_other : (why : Denial) → free_of (ripso_options p.others) ≡ Ok tt → defined_for plan doi at said tag ≡ Err why → Goes ≡ Err why
  is_other why free e =
      is_free (ripso_options p.others) (out_by plan doi p at said tag label) free
      ∙ fails (not (said == doi)) (not (lists_tag plan.tags tag)) (at + 2) (at + 6) why (out_wire p (wire_label plan label)) e

  goes_on : free_of (ripso_options p.others) ≡ Ok tt → defined_for plan doi at said tag ≡ Ok tt → Goes ≡ out_wire p (wire_label plan label)
  goes_on free e =
      is_free (ripso_options p.others) (out_by plan doi p at said tag label) free
      ∙ passes (not (said == doi)) (not (lists_tag plan.tags tag)) (at + 2) (at + 6) (out_wire p (wire_label plan label)) e

  pub has_no_option : (why : Denial) → free_of (ripso_options p.others) ≡ Ok tt → defined_for plan doi at said tag ≡ Ok tt → why ≡ Inexpressible → IsInexpressible (wire_label plan label) → Goes ≡ Err why
  has_no_option why free e what is = goes_on free e ∙ cannot p (wire_label plan label) is ∙ ap Err (sym what)

  pub has_wire_option : (option : List ℕ) → p.label ≡ Some (Cipso at said tag label) → free_of (ripso_options p.others) ≡ Ok tt → defined_for plan doi at said tag ≡ Ok tt → IsWireText plan label option → IsWireOption plan doi p option
  has_wire_option option is free e t = record {
    label = t.wire;
    text = t.text;
    whole = t.whole;
    free = none_there (ripso_options p.others) free;
    goes = ap (out_said plan doi p) is ∙ goes_on free e ∙ ap (out_wire p) t.translates ∙ can p t.wire t.fits ∙ ap (λ text. within_room (led_by text p)) (sym t.text);
  }

-- the same by what was marked
pub is_marked_other : (plan : DoiPlan) (doi : ℕ) (h : Headers) (given : Option Mark) (label : Label) (at said : ℕ) (tag : Tag) (why : Denial) → given ≡ Some (mark.Cipso at said tag)
    → free_of (ripso_options h.others) ≡ Ok tt → defined_for plan doi at said tag ≡ Err why → out_said plan doi (labelled h (wire_with given label)) (wire_with given label) ≡ Err why
is_marked_other plan doi h given label at said tag why is free e =
    subst (λ (m : Option Mark). out_said plan doi (labelled h (wire_with m label)) (wire_with m label) ≡ Err why) (sym is)
    (is_other plan doi (labelled h (Some (Cipso at said tag label))) at said tag label why free e)

-- what is answered where the option was swapped
pub out_answers : (plan : DoiPlan) (doi : ℕ) (h : Headers) (wire : Option Wire) (option given : List ℕ) (result : Result (Unit {0}) Stop) (out : List ℕ) → h.version ≡ V4
    → IsWireOption plan doi (labelled h wire) option → given ≡ option → Swaps (swapped_kind 130 given h) result out → Answers packet_alone (out_said plan doi (labelled h wire) wire) result out
out_answers plan doi h wire option given result out version o is swaps =
    swap_answers (swapped_kind 130 option h) (led_by option (labelled h wire)) (out_said plan doi (labelled h wire) wire) result out (out_as option (labelled h wire) h version o.free refl) o.goes
    (subst (λ (t : List ℕ). Swaps (swapped_kind 130 t h) result out) is swaps)

-- ---- of octets

pub crosses_read : (plan : DoiPlan) (doi : ℕ) (octets : List ℕ) (packet : ParsedPacket Wire) (result : Result (Unit {0}) Stop) (out : List ℕ) → IsPacket octets packet
    → Answers packet_alone (border_out plan doi packet) result out → HasCrossed way.Out plan doi (Some octets) result out
crosses_read plan doi octets packet result out reads answers = record {
  verdict = border_out plan doi packet;
  crosses = record { read = Ok packet; reads = reads; is = refl };
  answers = answers;
}

pub crosses_fault : (plan : DoiPlan) (doi : ℕ) (octets : List ℕ) (fault : CarryFault) (out : List ℕ) → IsPacketFault octets fault → out ≡ []
    → HasCrossed way.Out plan doi (Some octets) (Err (Denied (fault_denial fault))) out
crosses_fault plan doi octets fault out breaks empty = record {
  verdict = Err (fault_denial fault);
  crosses = record { read = Err fault; reads = breaks; is = refl };
  answers = (refl, empty);
}

no_part : (w : Way) (plan : DoiPlan) (doi : ℕ) → Crosses w plan doi None (Err NotIp)
no_part way.In plan doi = refl
no_part way.Out plan doi = refl

pub not_ip : (w : Way) (plan : DoiPlan) (doi : ℕ) (out : List ℕ) → out ≡ [] → HasCrossed w plan doi None (Err (Denied NotIp)) out
not_ip w plan doi out empty = record { verdict = Err NotIp; crosses = no_part w plan doi; answers = (refl, empty) }

-- ---- one verdict

out_once : (plan : DoiPlan) (doi : ℕ) (part : Option (List ℕ)) (a b : Result (ParsedPacket Wire) Denial) → Out plan doi part a → Out plan doi part b → a ≡ b
out_once plan doi None a b x y = x ∙ sym y
out_once plan doi (Some octets) a b x y = x.is ∙ ap (judged_by (border_out plan doi)) (same_answer octets x.read y.read x.reads y.reads) ∙ sym y.is

pub packets_have_one_verdict : (w : Way) (plan : DoiPlan) (doi : ℕ) (part : Option (List ℕ)) (a b : Crossed) → Crosses w plan doi part a → Crosses w plan doi part b → a ≡ b
packets_have_one_verdict way.In plan doi part a b x y = x ∙ sym y
packets_have_one_verdict way.Out plan doi part a b x y = out_once plan doi part a b x y
