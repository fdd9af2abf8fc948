-- What goes in comes out with the label that it had.
use Rattle.std.proofs.Common.{◌≡◌, ℕ, ◌+◌, ◌^◌, ◌<◌, ◌≤◌, Bool, true, false, not, ◌==◌, nat_le, List, [], ◌∷◌, length, take, refl, sym, ap, subst, ◌∙◌, arith}
use Rattle.std.specs.Prelude.{Option, Some, None, Result, Ok, Err, MatchResult, MatchBool, slice_index, if◌then◌else◌}
use Rattle.std.specs.List.{All}
use Rattle.std.proofs.lemmas.Bool.{le-leb, and_from}
use Rattle.std.proofs.lemmas.List.Elements.{All-filter, All-cons, All-head, All-tail}
use Rattle.mls_label.specs.octet_grammar.Octets.{IsOctets}
use Rattle.mls_label.specs.octet_grammar.Front.{ReadsFront}
use Rattle.mls_label.specs.octet_grammar.Fault.{FailsFront}
use Rattle.mls_label.proofs.octet_grammar.Octets.{octets-take}
use Rattle.mls_label.specs.declared.label.Label.{Label}
use Rattle.mls_label.specs.declared.label.Tag.{Tag}
use Rattle.mls_label.specs.Cats.{IsCats}
use Rattle.mls_label.specs.Label.{IsLabel}
use Rattle.cipso_tags.specs.Text.{fits, Fits, first_tag_of}
use Rattle.ripso_option.specs.Ripso.{IsRipso}
use Rattle.ripso_option.specs.Reading.{ripso_of}
use Rattle.ripso_option.specs.Text.{fits_ripso, FitsRipso, ripso_text}
use Rattle.ripso_option.proofs.Law.{rules_give_the_first_fault, written_option_reads_back, each_option_is_read, options_say_labels, options_hold_octets}
use Rattle.ip_headers.specs.declared.version.Version.{Version}
use Rattle.ip_headers.specs.declared.version.Version.TheVariants.{V4, V6}
use Rattle.ip_headers.specs.declared.fault.HeadFault.{HeadFault}
use Rattle.ip_headers.specs.Options.{Placed}
use Rattle.ip_headers.specs.Packet.{ParsedPacket, Headers, relabelled}
use Rattle.ip_headers.specs.Reading.{packet_of, front_of, unless}
use Rattle.ip_headers.specs.Written.{IsKept, FitsFields, in_turn, others_at, rewritten, room_limit, rebuilt_room, rebuilt_length, packet_octets, hides_payload}
use Rattle.packet_label.specs.declared.packet.Wire.{Wire}
use Rattle.packet_label.specs.declared.packet.Wire.TheVariants.{Cipso}
use Rattle.packet_label.specs.declared.fault.CarryFault.{CarryFault}
use Rattle.packet_label.specs.declared.denial.Denial.{Denial}
use Rattle.packet_label.specs.declared.denial.Denial.TheVariants.{UnknownDoi, TagNotAllowed, Inexpressible}
use Rattle.packet_label.specs.Choice.{chosen, read_in, front_in}
use Rattle.packet_label.specs.Written.{written, IsWritable, CanSay, IsReadAs, settled_packet}
use Rattle.packet_label.specs.Packet.{IsPacket}
use Rattle.ip_headers.proofs.Law.{packets_are_fronts}
use Rattle.packet_label.proofs.Law.{octets_are_a_packet_or_have_one_fault, read_packets_may_be_written, written_packet_reads_back}
use Rattle.doi_table.specs.declared.plan.DoiPlan.{DoiPlan}
use Rattle.doi_table.specs.declared.unmapped.Unmapped.{Unmapped}
use Rattle.doi_table.specs.Definition.{IsDefinition}
use Rattle.doi_table.specs.Translation.{wire_label}
use Rattle.doi_table.proofs.Law.{wire_undoes_local, local_labels_are_labels}
use Rattle.label_receive.specs.Incoming.{lists_tag}
use Rattle.label_receive.specs.Judged.{judged_by}
use Rattle.label_send.specs.Room.{within_room}
use Rattle.ripso_border.specs.Options.{ripso_options}
use Rattle.ripso_border.proofs.Sorted.{is_ripso_option}
use Rattle.ripso_border.specs.In.{border_in, in_packet}
use Rattle.ripso_border.specs.Out.{Out, border_out, out_version, out_said, out_unless, out_by, out_wire}
use Rattle.ip_headers.specs.Swapped.{led_by}
use Rattle.ripso_border.specs.Laws.{ComesBack}
use Rattle.ripso_border.specs.Border.{label_read, first_said, ripso_said, front_said, border_label}
use Rattle.ripso_border.proofs.Going.{IsWithin, within, GoesIn, goes_in}

-- ---- what was written is read as itself

pub same_answer : (octets : List ℕ) (a b : Result (ParsedPacket Wire) CarryFault) → IsReadAs octets a → IsReadAs octets b → a ≡ b
same_answer octets a b x y = (octets_are_a_packet_or_have_one_fault octets).one a b x y

pub reads_itself : (p : ParsedPacket Wire) → p.version ≡ V4 → IsWritable p → rebuilt_room (written p) ≤ room_limit p.version → rebuilt_length (written p) ≤ 65535 → IsReadAs (packet_octets (written p)) (Ok (settled_packet p))
reads_itself p v can room long =
    written_packet_reads_back p (Ok (settled_packet p)) can room long
    (subst (λ v. MatchBool (hides_payload v (written p)) (IsReadAs (packet_octets (written p)) (Ok (settled_packet p))) (◌≡◌ {A = Result (ParsedPacket Wire) CarryFault} (Ok (settled_packet p)) (Ok (settled_packet p)))) (sym v) refl)

pub out_of_written : (plan : DoiPlan) (doi : ℕ) (p : ParsedPacket Wire) (verdict : Result (ParsedPacket Wire) Denial) → IsReadAs (packet_octets (written p)) (Ok (settled_packet p)) → Out plan doi (Some (packet_octets (written p))) verdict → verdict ≡ border_out plan doi (settled_packet p)
out_of_written plan doi p verdict reads out =
    out.is ∙ ap (judged_by (border_out plan doi)) (same_answer (packet_octets (written p)) out.read (Ok (settled_packet p)) out.reads reads)

-- ---- out

pub record GoesOut (plan : DoiPlan) (p q : ParsedPacket Wire) (label : Label) : Type 0 where
  pub wire : Label
  pub translates : wire_label plan label ≡ Ok wire
  pub fits : fits_ripso wire ≡ true
  pub goes : IsWithin (led_by (ripso_text wire) p) q

fits_step : (plan : DoiPlan) (p q : ParsedPacket Wire) (label wire : Label) (found : Bool) → wire_label plan label ≡ Ok wire → fits_ripso wire ≡ found → (if found then within_room (led_by (ripso_text wire) p) else Err Inexpressible) ≡ Ok q → GoesOut plan p q label
fits_step plan p q label wire true translates fits e =
    record { wire = wire; translates = translates; fits = fits; goes = within (led_by (ripso_text wire) p) q e }
fits_step plan p q label wire false translates fits e = absurd (cc)

wire_step : (plan : DoiPlan) (p q : ParsedPacket Wire) (label : Label) (found : Result Label Unmapped) → wire_label plan label ≡ found → out_wire p found ≡ Ok q → GoesOut plan p q label
wire_step plan p q label (Err why) is e = absurd (cc)
wire_step plan p q label (Ok wire) is e = fits_step plan p q label wire (fits_ripso wire) is refl e

tests_step : (plan : DoiPlan) (p q : ParsedPacket Wire) (label : Label) (unknown unlisted : Bool) (doi_octet tag_octet : ℕ) → (if unknown then Err (UnknownDoi doi_octet) else (if unlisted then Err (TagNotAllowed tag_octet) else out_wire p (wire_label plan label))) ≡ Ok q → GoesOut plan p q label
tests_step plan p q label true unlisted d t e = absurd (cc)
tests_step plan p q label false true d t e = absurd (cc)
tests_step plan p q label false false d t e = wire_step plan p q label (wire_label plan label) refl e

unless_step : (found : List Placed) (goes_out : Result (ParsedPacket Wire) Denial) (q : ParsedPacket Wire) → out_unless found goes_out ≡ Ok q → goes_out ≡ Ok q
unless_step (option ∷ more) goes_out q e = absurd (cc)
unless_step [] goes_out q e = e

pub goes_out : (plan : DoiPlan) (doi : ℕ) (p q : ParsedPacket Wire) (place said : ℕ) (tag : Tag) (label : Label) → p.version ≡ V4 → p.label ≡ Some (Cipso place said tag label) → border_out plan doi p ≡ Ok q → GoesOut plan p q label
goes_out plan doi p q place said tag label version is e =
    let by_version : out_version plan doi p V4 ≡ Ok q = subst (λ v. out_version plan doi p v ≡ Ok q) version e in
    let by_label : out_said plan doi p (Some (Cipso place said tag label)) ≡ Ok q = subst (λ l. out_said plan doi p l ≡ Ok q) is by_version in
    tests_step plan p q label (not (said == doi)) (not (lists_tag plan.tags tag)) (place + 2) (place + 6)
    (unless_step (ripso_options p.others) (out_by plan doi p place said tag label) q by_label)

-- ---- what goes in may be written

pub unless_is : (fault : Option HeadFault) (p h : Headers) → unless fault p ≡ Ok h → p ≡ h
unless_is None p h e = cc
unless_is (Some fault) p h e = absurd (cc)

hops_by : (octets : List ℕ) (h : Headers) (version : Option Version) → IsOctets octets → h.version ≡ V4 → read_in front_of version octets ≡ Ok h → h.hops < 256
unfolding front_of
hops_by octets h None are v e = absurd (cc)
hops_by octets h (Some V4) are v e =
    let is = unless_is _ _ h e in
    subst (λ (x : Headers). x.hops < 256) is ((octets-take _ octets are).at 8)
hops_by octets h (Some V6) are v e =
    let is = unless_is _ _ h e in
    let six : V6 ≡ V4 = ap (λ (x : Headers). x.version) is ∙ v in
    absurd (cc)

hops_low : (octets : List ℕ) (h : Headers) → IsOctets octets → h.version ≡ V4 → front_in octets ≡ Ok h → h.hops < 256
hops_low octets h are v e = hops_by octets h (chosen octets) are v e

found_step : (b : Bool) (first tag : Tag) (label : Label) (rest : Option Tag) → fits first label ≡ b → (rest ≡ Some tag → fits tag label ≡ true) → (if b then Some first else rest) ≡ Some tag → fits tag label ≡ true
found_step true first tag label rest h later e =
    let same : first ≡ tag = cc in
    subst (λ t. fits t label ≡ true) same h
found_step false first tag label rest h later e = later e

pub found_fits : (tags : List Tag) (label : Label) (tag : Tag) → first_tag_of tags label ≡ Some tag → fits tag label ≡ true
found_fits [] label tag e = absurd (cc)
found_fits (first ∷ tags) label tag e =
    found_step (fits first label) first tag label (first_tag_of tags label) refl (found_fits tags label tag) e

-- the option that was read is kept
kept_option : (octets : List ℕ) (h : Headers) (option : Placed) → IsOctets octets → front_in octets ≡ Ok h → ripso_options h.others ≡ option ∷ [] → IsKept h.version option
kept_option octets h option are reads only =
    let parsed = (read_packets_may_be_written.fronts octets h None 0 are reads (omega arith) tt).headers in
    let kept = All-filter is_ripso_option (IsKept h.version) h.others parsed.others in
    All-head (IsKept h.version) option [] (subst (All (IsKept h.version)) only kept)

said_label : (octets : List ℕ) (said : Label × ℕ) → IsOctets octets → ripso_of octets ≡ Ok said → IsLabel said.0
said_label octets said are is =
    let told : ReadsFront IsRipso octets said.0 said.1 = subst (λ x. MatchResult x (λ read. ReadsFront IsRipso octets read.0 read.1) (λ fault. FailsFront IsRipso octets fault)) is (rules_give_the_first_fault octets are) in
    options_say_labels (take said.1 octets) said.0 told.member

pub may_be_written : (octets : List ℕ) (h : Headers) (doi : ℕ) (tag : Tag) (local : Label) → IsOctets octets → front_in octets ≡ Ok h → h.version ≡ V4 → 0 < doi → doi < 2 ^ 32 → IsLabel local → Fits tag local → IsWritable (in_packet doi tag local h)
may_be_written octets h doi tag local are reads version named small label fit =
    let wire = Cipso 20 doi tag local in
    let can : CanSay h.version wire = subst (λ v. CanSay v wire) (sym version) (named, small, label, fit) in
    let all = read_packets_may_be_written.fronts octets h (Some wire) h.hops are reads (hops_low octets h are version reads) can in
    let parsed = all.headers in
    let fields : FitsFields V4 (rewritten (in_packet doi tag local h) None h.hops) = subst (λ v. FitsFields v (rewritten (relabelled h (Some wire) h.hops) None h.hops)) version parsed.fields in
    record {
      headers = record {
        class = parsed.class;
        hops = parsed.hops;
        protocol = parsed.protocol;
        fields = subst (λ v. FitsFields v (rewritten (in_packet doi tag local h) None h.hops)) (sym version) fields;
        source = parsed.source;
        destination = parsed.destination;
        label = tt;
        others = All-filter (λ o. not (is_ripso_option o)) (IsKept h.version) h.others parsed.others;
      };
      label = all.label;
    }

-- ---- and back

one_label : (x y : Label) → ◌≡◌ {A = Result Label Unmapped} (Ok x) (Ok y) → x ≡ y
one_label x y e = cc

-- ---- what goes out may be written, and is read with its option 130

led_kept : (wire : Label) → IsCats wire.cats → FitsRipso wire → IsKept V4 (record { place = 20; octets = ripso_text wire })
led_kept wire cats fits =
    let text = ripso_text wire in
    let member = written_option_reads_back wire cats fits in
    let counted = slice_index text 1 + 0 in
    record {
      is = record {
        goes_on = refl;
        whole = and_from (nat_le 2 counted) (nat_le counted (length text)) (le-leb 2 counted (omega arith)) (le-leb counted (length text) (omega arith));
        exact = omega arith;
      };
      octets = options_hold_octets text wire member;
      other = refl;
      no_jumbo = refl;
      place = refl;
    }

kept_turn : (free : ℕ) (others : List Placed) → All (IsKept V4) others → All (IsKept V4) (in_turn free others)
kept_turn free [] all = all
kept_turn free (option ∷ others) all =
    let first = All-head (IsKept V4) option others all in
    All-cons (IsKept V4) (record { place = free; octets = option.octets }) (in_turn (free + length option.octets) others) (record { is = first.is; octets = first.octets; other = first.other; no_jumbo = first.no_jumbo; place = refl })
    (kept_turn (free + length option.octets) others (All-tail (IsKept V4) option others all))

kept_at : (version : Version) (free : ℕ) (others : List Placed) → All (IsKept version) others → All (IsKept version) (others_at version free others)
kept_at V4 free others all = kept_turn free others all
kept_at V6 free others all = all

led_written : (p : ParsedPacket Wire) (wire : Label) → p.version ≡ V4 → IsWritable p → IsCats wire.cats → FitsRipso wire → IsWritable (led_by (ripso_text wire) (settled_packet p))
led_written p wire version can cats fits =
    let parsed = can.headers in
    let first : IsKept p.version (record { place = 20; octets = ripso_text wire }) = subst (λ v. IsKept v (record { place = 20; octets = ripso_text wire })) (sym version) (led_kept wire cats fits) in
    let q : ParsedPacket Wire = led_by (ripso_text wire) (settled_packet p) in
    let fields : FitsFields V4 (rewritten q None q.hops) = subst (λ v. FitsFields v (rewritten p None p.hops)) version parsed.fields in
    record {
      headers = record {
        class = parsed.class;
        hops = parsed.hops;
        protocol = parsed.protocol;
        fields = subst (λ v. FitsFields v (rewritten q None q.hops)) (sym version) fields;
        source = parsed.source;
        destination = parsed.destination;
        label = tt;
        others = All-cons (IsKept p.version) (record { place = 20; octets = ripso_text wire }) (settled_packet p).others first (kept_at p.version _ p.others parsed.others);
      };
      label = tt;
    }

pub front_same : (octets : List ℕ) (h : Headers) (version : Option Version) → read_in packet_of version octets ≡ Ok h → read_in front_of version octets ≡ Ok h
front_same octets h None e = e
front_same octets h (Some version) e = packets_are_fronts version octets h e

-- what a packet that was read says
packet_says : (octets : List ℕ) (p : ParsedPacket Wire) → IsPacket octets p → border_label octets ≡ ripso_said p.others
packet_says octets p m =
    ap front_said (front_same octets m.headers (chosen octets) m.reads) ∙ ap ripso_said (sym (ap (λ (x : ParsedPacket Wire). x.others) m.is))

first_there : (version : Version) (free place : ℕ) (wire : Label) (others : List Placed) → ripso_said (others_at version free (record { place = place; octets = ripso_text wire } ∷ others)) ≡ label_read (ripso_of (ripso_text wire))
first_there V4 free place wire others = refl
first_there V6 free place wire others = refl

led_says : (p : ParsedPacket Wire) (wire : Label) → p.version ≡ V4 → IsWritable p → IsCats wire.cats → FitsRipso wire → rebuilt_room (written (led_by (ripso_text wire) (settled_packet p))) ≤ room_limit p.version → rebuilt_length (written (led_by (ripso_text wire) (settled_packet p))) ≤ 65535 → border_label (packet_octets (written (led_by (ripso_text wire) (settled_packet p)))) ≡ Some wire
led_says p wire version can cats fits room long =
    let q : ParsedPacket Wire = led_by (ripso_text wire) (settled_packet p) in
    packet_says (packet_octets (written q)) (settled_packet q) (reads_itself q version (led_written p wire version can cats fits) room long)
    ∙ first_there p.version _ _ wire _
    ∙ ap label_read (each_option_is_read (ripso_text wire) wire (written_option_reads_back wire cats fits))

-- what went in may be written, and had this label
pub came_as : (plan : DoiPlan) (doi : ℕ) (octets : List ℕ) (p : ParsedPacket Wire) → IsOctets octets → (g : GoesIn plan doi octets p) → IsLabel g.said.0
came_as plan doi octets p are g =
    said_label g.option.octets g.said (kept_option octets g.headers g.option are g.reads g.only).octets g.says

pub came_with : (plan : DoiPlan) (doi : ℕ) (octets : List ℕ) (p : ParsedPacket Wire) (g : GoesIn plan doi octets p) → border_label octets ≡ Some g.said.0
came_with plan doi octets p g = ap front_said g.reads ∙ ap first_said g.only ∙ ap label_read g.says

pub may_go : (plan : DoiPlan) (doi : ℕ) (octets : List ℕ) (p : ParsedPacket Wire) → IsDefinition plan → 0 < doi → doi < 2 ^ 32 → IsOctets octets → (g : GoesIn plan doi octets p) → IsWritable (in_packet doi g.tag g.local g.headers)
may_go plan doi octets p is named small are g =
    let label = came_as plan doi octets p are g in
    let made = local_labels_are_labels plan g.said.0 g.local is label.level label.cats g.translates in
    may_be_written octets g.headers doi g.tag g.local are g.reads g.version named small (record { level = made.0; cats = made.1 }) (found_fits plan.tags g.local g.tag g.tags)

back : (plan : DoiPlan) (doi : ℕ) (octets : List ℕ) (p q : ParsedPacket Wire) → IsDefinition plan → 0 < doi → doi < 2 ^ 32 → IsOctets octets → GoesIn plan doi octets p → Out plan doi (Some (packet_octets (written p))) (Ok q) → ComesBack octets q
back plan doi octets p q is named small are g out =
    let p0 = in_packet doi g.tag g.local g.headers in
    let label = came_as plan doi octets p are g in
    let can = may_go plan doi octets p is named small are g in
    let out0 : Out plan doi (Some (packet_octets (written p0))) (Ok q) = subst (λ (x : ParsedPacket Wire). Out plan doi (Some (packet_octets (written x))) (Ok q)) g.goes.is out in
    let judged = out_of_written plan doi p0 (Ok q) (reads_itself p0 g.version can g.goes.room g.goes.long) out0 in
    let o = goes_out plan doi (settled_packet p0) q _ doi g.tag g.local g.version refl (sym judged) in
    let same : o.wire ≡ g.said.0 = one_label o.wire g.said.0 (sym o.translates ∙ wire_undoes_local plan g.said.0 g.local is label.cats g.translates) in
    record {
      label = g.said.0;
      came = came_with plan doi octets p g;
      goes = ap (λ (x : ParsedPacket Wire). border_label (packet_octets (written x))) o.goes.is
          ∙ led_says p0 o.wire g.version can (subst (λ (x : Label). IsCats x.cats) (sym same) label.cats) o.fits o.goes.room o.goes.long
          ∙ ap Some same;
    }

pub label_comes_back : (plan : DoiPlan) (doi : ℕ) (octets : List ℕ) (p q : ParsedPacket Wire) → IsDefinition plan → 0 < doi → doi < 2 ^ 32 → IsOctets octets → border_in plan doi (Some octets) ≡ Ok p → Out plan doi (Some (packet_octets (written p))) (Ok q) → ComesBack octets q
label_comes_back plan doi octets p q is named small are goes out = back plan doi octets p q is named small are (goes_in plan doi octets p goes) out
