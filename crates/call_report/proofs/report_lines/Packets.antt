-- Lines of packets that are written, by their words.
use Rattle.std.proofs.Common.{◌≡◌, ◌≢◌, ◌∙◌, inl, inr, ℕ, ◌<◌, ◌^◌, true, not, List, [], ◌∷◌, ◌++◌, length, map, codes, decimal, append_assoc, Some, None, refl, sym, ap, subst, arith}
use Rattle.std.specs.Prelude.{◌==◌, nat_le, IsTrue}
use Rattle.std.specs.Fmt.{digits}
use Rattle.std.specs.List.{list_all, join_with_byte, slice_split, before_first, after_first}
use Rattle.std.specs.Str.{bytes_eq}
use Rattle.std.proofs.lemmas.Bool.{and_parts, leb-true}
use Rattle.std.proofs.lemmas.List.Elements.{All-nil, All-head, All-tail}
use Rattle.std.proofs.lemmas.List.Splits.{slice_split_none, slice_split_at}
use Rattle.std.proofs.lemmas.Slice.Eq.{bytes_eq-Decides}
use Rattle.ip_headers.specs.declared.cause.Cause.TheVariants as cause
use Rattle.mls_label.specs.declared.label.Label.{Label}
use Rattle.mls_range.specs.LabelText.{comma, dot, label_text}
use Rattle.mls_range.specs.Computed.{label_of_text}
use Rattle.mls_range.proofs.Law.{written_label_computes}
use Rattle.script_lines.specs.command_values.Doi.{is_doi}
use Rattle.script_lines.specs.command_values.Ranges.{IsMlsLabel}
use Rattle.script_lines.proofs.command_values.Law.{written_doi_reads_back}
use Rattle.domain_map.specs.declared.address_text.address.Address.{Address}
use Rattle.domain_map.specs.address_text.Address.{IsAddress, address_text, address_of_text}
use Rattle.domain_map.specs.address_text.Name.{is_name}
use Rattle.domain_map.proofs.address_text.Law.{address_texts_compute, written_address_reads_back}
use Rattle.packet_label.specs.declared.denial.Carrier.{Carrier}
use Rattle.packet_label.specs.declared.denial.Carrier.TheVariants.{Unlabelled, Cipso, Calipso}
use Rattle.packet_label.specs.declared.denial.Denial.{Denial}
use Rattle.packet_label.specs.declared.denial.Denial.TheVariants as why
use Rattle.packet_label.specs.Denial.{number_of, name_of}
use Rattle.label_flow.specs.declared.packet_walk.walked.End.{End}
use Rattle.label_flow.specs.declared.packet_walk.walked.End.TheVariants.{Delivered, Sent, Denied}
use Rattle.label_flow.specs.declared.packet_walk.walked.Walked.{Walked}
use Rattle.label_commands.specs.declared.flow_lines.hop.Hop.{Hop}
use Rattle.call_report.specs.Lines.Denial.{denial_text, delivered_text}
use Rattle.call_report.specs.Lines.Flow.{carrier_text, hop_node, versions_text, end_text, walked_line}
use Rattle.call_report.specs.declared.report_lines.form.Form.{Form}
use Rattle.call_report.specs.declared.report_lines.form.Form.TheVariants as form
use Rattle.call_report.specs.declared.report_lines.slot.Field.{Field}
use Rattle.call_report.specs.declared.report_lines.slot.Field.TheVariants as field
use Rattle.call_report.specs.report_lines.Slot.{may_stand, is_number, is_place, is_versions, is_carrier, is_one_of, is_pair_of, plain_denials, octet_denials, category_denials, cause_denials, frame_denials, causes}
use Rattle.call_report.specs.report_lines.Form.{slots_of}
use Rattle.call_report.specs.report_lines.Line.{misfit_of, AreWords}
use Rattle.call_report.specs.report_lines.Told.{IsToldAs}
use Rattle.call_report.specs.report_lines.Written.{denial_told, end_told, IsBoundedDenial, IsBoundedCarrier, IsFrameDenied, IsBoundedEnd}
use Rattle.call_report.proofs.report_lines.Numbers.{a_number, digits_but}
use Rattle.call_report.proofs.report_lines.Parts.{before_it, behind_it}
use Rattle.call_report.proofs.report_lines.Blanks.{BlankFree, Small, fixed, number_word, name_word, label_word, with_number, place_word, numbers_word, address_word}
use Rattle.call_report.proofs.report_lines.Written.{left_join, right_join, left_right, ended, Tell, by_words}

-- ---- versions, and the place of a packet

numbers_are : (vs : List ℕ) → Small vs → list_all is_number (map decimal vs) ≡ true
numbers_are [] small = refl
numbers_are (v ∷ vs) small = rw (a_number v (decimal v) (All-head (λ n. n < 2 ^ 64) v vs small) refl, numbers_are vs (All-tail (λ n. n < 2 ^ 64) v vs small)) refl

split_numbers : (v : ℕ) (vs : List ℕ) → Small (v ∷ vs) → slice_split (λ c. c == comma) (join_with_byte comma (map decimal (v ∷ vs))) ≡ map decimal (v ∷ vs)
split_numbers v [] small = slice_split_none (λ c. c == comma) (decimal v) (digits_but comma v (omega arith) (All-head (λ n. n < 2 ^ 64) v [] small))
split_numbers v (w ∷ vs) small =
    slice_split_at (λ c. c == comma) (decimal v) comma (join_with_byte comma (map decimal (w ∷ vs))) (digits_but comma v (omega arith) (All-head (λ n. n < 2 ^ 64) v (w ∷ vs) small)) refl
    ∙ ap (λ ws. decimal v ∷ ws) (split_numbers w vs (All-tail (λ n. n < 2 ^ 64) v (w ∷ vs) small))

versions_fit : (vs : List ℕ) → 0 < length vs → Small vs → is_versions (versions_text vs) ≡ true
versions_fit [] some small = absurd (omega (arith, some))
versions_fit (v ∷ vs) some small = ap (list_all is_number) (split_numbers v vs small) ∙ numbers_are (v ∷ vs) small

versions_word : (vs : List ℕ) → Small vs → BlankFree (versions_text vs)
versions_word [] small = fixed (codes "-") refl
versions_word (v ∷ vs) small = numbers_word (v ∷ vs) small

abbrev place_text : ℕ → ℕ → List ℕ
place_text f n = decimal f ++ (46 ∷ decimal n)

place_fits : (f n : ℕ) → f < 2 ^ 64 → n < 2 ^ 64 → is_place (place_text f n) ≡ true
place_fits f n hf hn =
    let free = digits_but 46 f (omega arith) hf in
    rw (before_it 46 (decimal f) (decimal n) free, behind_it 46 (decimal f) (decimal n) free, a_number f (decimal f) hf refl, a_number n (decimal n) hn refl) refl

-- ---- carriers

carrier_fits : (c : Carrier) → IsBoundedCarrier c → is_carrier (carrier_text c) ≡ true
carrier_fits Unlabelled told = refl
carrier_fits (Cipso doi) told = rw (written_doi_reads_back doi told) refl
carrier_fits (Calipso doi) told = rw (written_doi_reads_back doi told) refl

small_doi : (doi : ℕ) → IsTrue (is_doi doi) → doi < 2 ^ 64
small_doi doi told = omega (arith, leb-true doi 4294967295 (and_parts (nat_le 1 doi) (nat_le doi 4294967295) told).1)

carrier_word : (c : Carrier) → IsBoundedCarrier c → BlankFree (carrier_text c)
carrier_word Unlabelled told = fixed (codes "unlbl") refl
carrier_word (Cipso doi) told = with_number (codes "cipsov4,") doi refl (small_doi doi told)
carrier_word (Calipso doi) told = with_number (codes "calipso,") doi refl (small_doi doi told)

-- ---- packets

module _ (f n : ℕ) (vs : List ℕ) (hf : f < 2 ^ 64) (hn : n < 2 ^ 64) (small : Small vs) where
  abbrev packet : List ℕ → List ℕ
  packet end = left_join (codes "packet ") (decimal f ∷ codes "." ∷ decimal n ∷ codes " " ∷ end ∷ codes " versions " ∷ versions_text vs ∷ (10 ∷ []) ∷ [])

  -- what its line tells whatever became of it, and what it tells further
  abbrev packet_told : List (Field × List ℕ) → List (Field × List ℕ)
  packet_told fields = (field.Flow, decimal f) ∷ (field.Number, decimal n) ∷ (field.Versions, versions_text vs) ∷ fields

  flow_told : before_first (λ c. c == dot) (place_text f n) ≡ decimal f
  flow_told = before_it 46 (decimal f) (decimal n) (digits_but 46 f (omega arith) hf)

  number_told : after_first (λ c. c == dot) (place_text f n) ≡ decimal n
  number_told = behind_it 46 (decimal f) (decimal n) (digits_but 46 f (omega arith) hf)

  spread_packet : (end : List ℕ) (told : List ℕ → List ℕ) → ((r : List ℕ) → end ++ r ≡ told r)
      → codes "packet " ++ right_join (decimal f ∷ codes "." ∷ decimal n ∷ codes " " ∷ end ∷ codes " versions " ∷ versions_text vs ∷ (10 ∷ []) ∷ [])
      ≡ codes "packet " ++ (place_text f n ++ (32 ∷ told (codes " versions " ++ (versions_text vs ++ 10 ∷ []))))
  spread_packet end told spread =
      let rest = codes " versions " ++ (versions_text vs ++ 10 ∷ []) in
      ap (λ t. codes "packet " ++ (decimal f ++ (46 ∷ (decimal n ++ (32 ∷ t))))) (spread rest)
      ∙ ap (λ t. codes "packet " ++ t) (sym (append_assoc (decimal f) (46 ∷ decimal n) (32 ∷ told rest)))

  sent_fits : 0 < length vs → (c : Carrier) → IsBoundedCarrier c → misfit_of 0 [] (slots_of form.Sent) (codes "packet" ∷ place_text f n ∷ codes "sent" ∷ carrier_text c ∷ codes "versions" ∷ versions_text vs ∷ []) ≡ None
  unfolding may_stand
  sent_fits some c told = rw (place_fits f n hf hn, carrier_fits c told, versions_fit vs some small) refl

  sent_written : 0 < length vs → (c : Carrier) → IsBoundedCarrier c
      → IsToldAs form.Sent (packet_told ((field.Became, codes "sent") ∷ (field.Carrier, carrier_text c) ∷ [])) (packet (codes "sent " ++ carrier_text c))
  sent_written some c told =
      by_words form.Sent (codes "packet" ∷ place_text f n ∷ codes "sent" ∷ carrier_text c ∷ codes "versions" ∷ versions_text vs ∷ []) (codes "packet ") (decimal f)
      (codes "." ∷ decimal n ∷ codes " " ∷ (codes "sent " ++ carrier_text c) ∷ codes " versions " ∷ versions_text vs ∷ (10 ∷ []) ∷ []) (omega arith)
      (fixed (codes "packet") refl, (place_word f n hf hn, (fixed (codes "sent") refl, (carrier_word c told, (fixed (codes "versions") refl, (versions_word vs small, tt))))))
      (spread_packet (codes "sent " ++ carrier_text c) (λ r. codes "sent " ++ (carrier_text c ++ r)) (append_assoc (codes "sent ") (carrier_text c)))
      (sent_fits some c told) (flow_told, (number_told, (refl, (refl, (refl, tt)))))

  -- ---- denied packets

  module _ (num : ℕ) (name : List ℕ) (hop : ℕ) (node : List ℕ) (hnum : num < 2 ^ 64) (hname : list_all (λ c. not (c == 32)) name ≡ true) (hhop : hop < 2 ^ 64) (hnode : is_name node ≡ true) where
    abbrev denied : List ℕ → List ℕ
    denied detail = left_join (codes "denied ") (decimal num ∷ codes " " ∷ name ∷ detail ∷ codes " hop " ∷ decimal hop ∷ codes " node " ∷ node ∷ [])

    abbrev last_words : List (List ℕ)
    last_words = codes "hop" ∷ decimal hop ∷ codes "node" ∷ node ∷ codes "versions" ∷ versions_text vs ∷ []

    last_are : AreWords last_words
    last_are = (fixed (codes "hop") refl, (number_word hop hhop, (fixed (codes "node") refl, (name_word node hnode, (fixed (codes "versions") refl, (versions_word vs small, tt))))))

    first_are : (rest : List (List ℕ)) → AreWords rest → AreWords (codes "packet" ∷ place_text f n ∷ codes "denied" ∷ decimal num ∷ name ∷ rest)
    first_are rest are = (fixed (codes "packet") refl, (place_word f n hf hn, (fixed (codes "denied") refl, (number_word num hnum, (fixed name hname, are)))))

    abbrev denied_told : List (Field × List ℕ) → List (Field × List ℕ)
    denied_told fields = packet_told ((field.Became, codes "denied") ∷ (field.Denial, decimal num) ∷ (field.Name, name) ∷ (field.Hop, decimal hop) ∷ (field.Node, node) ∷ fields)

    spread_denied : (detail : List ℕ) (r : List ℕ) → denied detail ++ r ≡ codes "denied " ++ (decimal num ++ (32 ∷ (name ++ (detail ++ (codes " hop " ++ (decimal hop ++ (codes " node " ++ (node ++ r))))))))
    spread_denied detail r = left_right (codes "denied ") (decimal num) (codes " " ∷ name ∷ detail ∷ codes " hop " ∷ decimal hop ∷ codes " node " ∷ node ∷ r ∷ [])

    denied_by : (is : Form) {fields : List (Field × List ℕ)} (detail : List ℕ) (rest : List (List ℕ)) → AreWords rest
        → codes "packet " ++ (place_text f n ++ (32 ∷ (codes "denied " ++ (decimal num ++ (32 ∷ (name ++ (detail ++ (codes " hop " ++ (decimal hop ++ (codes " node " ++ (node ++ (codes " versions " ++ (versions_text vs ++ 10 ∷ [])))))))))))))
        ≡ ended (codes "packet" ∷ place_text f n ∷ codes "denied" ∷ decimal num ∷ name ∷ rest)
        → misfit_of 0 [] (slots_of is) (codes "packet" ∷ place_text f n ∷ codes "denied" ∷ decimal num ∷ name ∷ rest) ≡ None
        → Tell (slots_of is) (codes "packet" ∷ place_text f n ∷ codes "denied" ∷ decimal num ∷ name ∷ rest) (denied_told fields)
        → IsToldAs is (denied_told fields) (packet (denied detail))
    denied_by is detail rest are same fit told =
        by_words is (codes "packet" ∷ place_text f n ∷ codes "denied" ∷ decimal num ∷ name ∷ rest) (codes "packet ") (decimal f)
        (codes "." ∷ decimal n ∷ codes " " ∷ denied detail ∷ codes " versions " ∷ versions_text vs ∷ (10 ∷ []) ∷ []) (omega arith) (first_are rest are)
        (spread_packet (denied detail) (λ r. codes "denied " ++ (decimal num ++ (32 ∷ (name ++ (detail ++ (codes " hop " ++ (decimal hop ++ (codes " node " ++ (node ++ r))))))))) (spread_denied detail) ∙ same)
        fit told

    plain_written : 0 < length vs → is_pair_of plain_denials (decimal num) name ≡ true → IsToldAs form.DeniedPlain (denied_told []) (packet (denied []))
    unfolding may_stand
    plain_written some pair =
        denied_by form.DeniedPlain [] last_words last_are refl
        (rw (place_fits f n hf hn, a_number num (decimal num) hnum refl, pair, a_number hop (decimal hop) hhop refl, hnode, versions_fit vs some small) refl)
        (flow_told, (number_told, (refl, (refl, (refl, (refl, (refl, (refl, tt))))))))

    octet_written : 0 < length vs → (octet : ℕ) → octet < 2 ^ 64 → is_pair_of octet_denials (decimal num) name ≡ true → IsToldAs form.DeniedOctet (denied_told ((field.Octet, decimal octet) ∷ [])) (packet (denied (codes " octet " ++ decimal octet)))
    unfolding may_stand
    octet_written some octet told pair =
        denied_by form.DeniedOctet (codes " octet " ++ decimal octet) (codes "octet" ∷ decimal octet ∷ last_words) (fixed (codes "octet") refl, (number_word octet told, last_are)) refl
        (rw (place_fits f n hf hn, a_number num (decimal num) hnum refl, pair, a_number octet (decimal octet) told refl, a_number hop (decimal hop) hhop refl, hnode, versions_fit vs some small) refl)
        (flow_told, (number_told, (refl, (refl, (refl, (refl, (refl, (refl, (refl, tt)))))))))

    category_written : 0 < length vs → (category : ℕ) → category < 2 ^ 64 → is_pair_of category_denials (decimal num) name ≡ true → IsToldAs form.DeniedCategory (denied_told ((field.Category, decimal category) ∷ [])) (packet (denied (codes " category " ++ decimal category)))
    unfolding may_stand
    category_written some category told pair =
        denied_by form.DeniedCategory (codes " category " ++ decimal category) (codes "category" ∷ decimal category ∷ last_words) (fixed (codes "category") refl, (number_word category told, last_are)) refl
        (rw (place_fits f n hf hn, a_number num (decimal num) hnum refl, pair, a_number category (decimal category) told refl, a_number hop (decimal hop) hhop refl, hnode, versions_fit vs some small) refl)
        (flow_told, (number_told, (refl, (refl, (refl, (refl, (refl, (refl, (refl, tt)))))))))

    cause_written : 0 < length vs → (cause : List ℕ) → list_all (λ c. not (c == 32)) cause ≡ true → is_one_of causes cause ≡ true → is_pair_of cause_denials (decimal num) name ≡ true → IsToldAs form.DeniedCause (denied_told ((field.Cause, cause) ∷ [])) (packet (denied (codes " " ++ cause)))
    unfolding may_stand
    cause_written some cause plain one pair =
        denied_by form.DeniedCause (codes " " ++ cause) (cause ∷ last_words) (fixed cause plain, last_are) refl
        (rw (place_fits f n hf hn, a_number num (decimal num) hnum refl, pair, one, a_number hop (decimal hop) hhop refl, hnode, versions_fit vs some small) refl)
        (flow_told, (number_told, (refl, (refl, (refl, (refl, (refl, (refl, (refl, tt)))))))))

  denied_written : 0 < length vs → (denial : Denial) → denial ≢ why.NotIp → (hop : ℕ) (node : List ℕ) → hop < 2 ^ 64 → IsBoundedDenial denial → is_name node ≡ true
      → IsToldAs (denial_told denial).0 (packet_told ((field.Became, codes "denied") ∷ (field.Denial, decimal (number_of denial)) ∷ (field.Name, name_of denial)
      ∷ (field.Hop, decimal hop) ∷ (field.Node, node) ∷ (denial_told denial).1)) (packet (denial_text denial ++ codes " hop " ++ decimal hop ++ codes " node " ++ node))
  unfolding denial_text plain_denials octet_denials category_denials cause_denials causes digits
  denied_written some (why.BadHeader octet) other hop node hhop told hnode = octet_written 1 (codes "BadHeader") hop node (omega arith) refl hhop hnode some octet told refl
  denied_written some (why.BadOption octet) other hop node hhop told hnode = octet_written 2 (codes "BadOption") hop node (omega arith) refl hhop hnode some octet told refl
  denied_written some (why.UnknownDoi octet) other hop node hhop told hnode = octet_written 5 (codes "UnknownDoi") hop node (omega arith) refl hhop hnode some octet told refl
  denied_written some (why.TagNotAllowed octet) other hop node hhop told hnode = octet_written 6 (codes "TagNotAllowed") hop node (omega arith) refl hhop hnode some octet told refl
  denied_written some (why.AlreadyLabelled octet) other hop node hhop told hnode = octet_written 14 (codes "AlreadyLabelled") hop node (omega arith) refl hhop hnode some octet told refl
  denied_written some (why.CategoryUnmapped category) other hop node hhop told hnode = category_written 8 (codes "CategoryUnmapped") hop node (omega arith) refl hhop hnode some category told refl
  denied_written some why.Unlabelled other hop node hhop told hnode = plain_written 3 (codes "Unlabelled") hop node (omega arith) refl hhop hnode some refl
  denied_written some why.NoStatic other hop node hhop told hnode = plain_written 4 (codes "NoStatic") hop node (omega arith) refl hhop hnode some refl
  denied_written some why.LevelUnmapped other hop node hhop told hnode = plain_written 7 (codes "LevelUnmapped") hop node (omega arith) refl hhop hnode some refl
  denied_written some why.OutsideRange other hop node hhop told hnode = plain_written 9 (codes "OutsideRange") hop node (omega arith) refl hhop hnode some refl
  denied_written some why.NoReceiver other hop node hhop told hnode = plain_written 10 (codes "NoReceiver") hop node (omega arith) refl hhop hnode some refl
  denied_written some why.MapRefuses other hop node hhop told hnode = plain_written 11 (codes "MapRefuses") hop node (omega arith) refl hhop hnode some refl
  denied_written some why.NotDominated other hop node hhop told hnode = plain_written 12 (codes "NotDominated") hop node (omega arith) refl hhop hnode some refl
  denied_written some why.NoMap other hop node hhop told hnode = plain_written 13 (codes "NoMap") hop node (omega arith) refl hhop hnode some refl
  denied_written some why.Inexpressible other hop node hhop told hnode = plain_written 15 (codes "Inexpressible") hop node (omega arith) refl hhop hnode some refl
  denied_written some why.NoRoom other hop node hhop told hnode = plain_written 16 (codes "NoRoom") hop node (omega arith) refl hhop hnode some refl
  denied_written some why.TooLong other hop node hhop told hnode = plain_written 17 (codes "TooLong") hop node (omega arith) refl hhop hnode some refl
  denied_written some why.Expired other hop node hhop told hnode = plain_written 18 (codes "Expired") hop node (omega arith) refl hhop hnode some refl
  denied_written some why.WrongVersion other hop node hhop told hnode = plain_written 19 (codes "WrongVersion") hop node (omega arith) refl hhop hnode some refl
  denied_written some why.NoPair other hop node hhop told hnode = plain_written 20 (codes "NoPair") hop node (omega arith) refl hhop hnode some refl
  denied_written some why.NotIp other hop node hhop told hnode = absurd (other refl)
  denied_written some why.BelowRange other hop node hhop told hnode = plain_written 23 (codes "BelowRange") hop node (omega arith) refl hhop hnode some refl
  denied_written some (why.NotCrossable cause.Protocol) other hop node hhop told hnode = cause_written 21 (codes "NotCrossable") hop node (omega arith) refl hhop hnode some (codes "Protocol") refl refl refl
  denied_written some (why.NotCrossable cause.Fragment) other hop node hhop told hnode = cause_written 21 (codes "NotCrossable") hop node (omega arith) refl hhop hnode some (codes "Fragment") refl refl refl
  denied_written some (why.NotCrossable cause.Options) other hop node hhop told hnode = cause_written 21 (codes "NotCrossable") hop node (omega arith) refl hhop hnode some (codes "Options") refl refl refl
  denied_written some (why.NotCrossable cause.Segment) other hop node hhop told hnode = cause_written 21 (codes "NotCrossable") hop node (omega arith) refl hhop hnode some (codes "Segment") refl refl refl
  denied_written some (why.NotCrossable cause.NoChecksum) other hop node hhop told hnode = cause_written 21 (codes "NotCrossable") hop node (omega arith) refl hhop hnode some (codes "NoChecksum") refl refl refl

  -- ---- delivered packets

  module _ (label : Label) (receiver : Address) (has : IsMlsLabel label) (is : IsAddress receiver) where
    label_reads : label_of_text (label_text label) ≡ Some label
    label_reads = written_label_computes label has.level has.cats has.few

    label_same : bytes_eq (label_text label) (label_text label) ≡ true
    label_same = (bytes_eq-Decides (label_text label) (label_text label)).1 refl

    address_reads : address_of_text (address_text receiver) ≡ Some receiver
    address_reads = address_texts_compute (address_text receiver) receiver (written_address_reads_back receiver is)

    delivered_fits : 0 < length vs → misfit_of 0 [] (slots_of form.Delivered) (codes "packet" ∷ place_text f n ∷ codes "delivered" ∷ label_text label ∷ codes "to" ∷ address_text receiver ∷ codes "versions" ∷ versions_text vs ∷ []) ≡ None
    unfolding may_stand
    delivered_fits some = rw (place_fits f n hf hn, label_reads, label_same, address_reads, versions_fit vs some small) refl

    delivered_written : 0 < length vs → IsToldAs form.Delivered (packet_told ((field.Became, codes "delivered") ∷ (field.Label, label_text label) ∷ (field.Receiver, address_text receiver) ∷ []))
        (packet (codes "delivered " ++ label_text label ++ codes " to " ++ address_text receiver))
    delivered_written some =
        by_words form.Delivered (codes "packet" ∷ place_text f n ∷ codes "delivered" ∷ label_text label ∷ codes "to" ∷ address_text receiver ∷ codes "versions" ∷ versions_text vs ∷ []) (codes "packet ") (decimal f)
        (codes "." ∷ decimal n ∷ codes " " ∷ (codes "delivered " ++ label_text label ++ codes " to " ++ address_text receiver) ∷ codes " versions " ∷ versions_text vs ∷ (10 ∷ []) ∷ []) (omega arith)
        (fixed (codes "packet") refl, (place_word f n hf hn, (fixed (codes "delivered") refl, (label_word label has, (fixed (codes "to") refl, (address_word receiver is, (fixed (codes "versions") refl, (versions_word vs small, tt))))))))
        (spread_packet (codes "delivered " ++ label_text label ++ codes " to " ++ address_text receiver) (λ r. codes "delivered " ++ (label_text label ++ (codes " to " ++ (address_text receiver ++ r))))
        (λ r. left_right (codes "delivered ") (label_text label) (codes " to " ∷ address_text receiver ∷ r ∷ [])))
        (delivered_fits some) (flow_told, (number_told, (refl, (refl, (refl, (refl, tt))))))

-- ---- how a walk ended

module _ (f n : ℕ) (hf : f < 2 ^ 64) (hn : n < 2 ^ 64) (names : List (List ℕ)) (hops : List Hop) where
  abbrev IsWritten : List ℕ → End → Type 0
  IsWritten vs end =
      IsToldAs (end_told names hops end).0 ((field.Flow, decimal f) ∷ (field.Number, decimal n) ∷ (field.Versions, versions_text vs) ∷ (end_told names hops end).1)
      (left_join (codes "packet ") (decimal f ∷ codes "." ∷ decimal n ∷ codes " " ∷ end_text names hops end ∷ codes " versions " ∷ versions_text vs ∷ (10 ∷ []) ∷ []))

  -- a frame that holds no packet
  frame_written : IsWritten [] (Denied 0 why.NotIp)
  unfolding denial_text may_stand frame_denials digits
  frame_written =
      denied_by f n [] hf hn (All-nil (λ v. v < 2 ^ 64)) 22 (codes "NotIp") 0 (codes "-") (omega arith) refl (omega arith) refl form.DeniedFrame []
      (codes "hop" ∷ decimal 0 ∷ codes "node" ∷ codes "-" ∷ codes "versions" ∷ codes "-" ∷ [])
      (fixed (codes "hop") refl, (number_word 0 (omega arith), (fixed (codes "node") refl, (fixed (codes "-") refl, (fixed (codes "versions") refl, (fixed (codes "-") refl, tt)))))) refl
      (rw (place_fits f n hf hn, a_number 22 (decimal 22) (omega arith) refl) refl)
      (flow_told f n [] hf hn (All-nil (λ v. v < 2 ^ 64)), (number_told f n [] hf hn (All-nil (λ v. v < 2 ^ 64)), (refl, (refl, (refl, (refl, (refl, (refl, tt))))))))

  frame_ended : (vs : List ℕ) (hop : ℕ) (denial : Denial) → IsFrameDenied hop denial vs → IsWritten vs (Denied hop denial)
  frame_ended vs hop denial told =
      subst (λ (w : Denial). IsWritten vs (Denied hop w)) (sym told.0)
      (subst (λ (h : ℕ). IsWritten vs (Denied h why.NotIp)) (sym told.1) (subst (λ (v : List ℕ). IsWritten v (Denied 0 why.NotIp)) (sym told.2) frame_written))

  end_written : (vs : List ℕ) → Small vs → (end : End) → IsBoundedEnd names hops vs end → IsWritten vs end
  unfolding delivered_text
  end_written vs small (Delivered label receiver) told = delivered_written f n vs hf hn small label receiver told.1 told.2 told.0
  end_written vs small (Sent carrier) told = sent_written f n vs hf hn small told.0 carrier told.1
  end_written vs small (Denied hop denial) told = elim told [
    | inl frame ↦ frame_ended vs hop denial frame
    | inr judged ↦ denied_written f n vs hf hn small judged.0 denial judged.1.0 hop (hop_node names hops hop) judged.1.1 judged.1.2 judged.1.3
  ]

pub packet_written : (flow number : ℕ) (names : List (List ℕ)) (hops : List Hop) (walked : Walked) → flow < 2 ^ 64 → number < 2 ^ 64 → Small walked.versions → IsBoundedEnd names hops walked.versions walked.end
    → IsToldAs (end_told names hops walked.end).0 ((field.Flow, decimal flow) ∷ (field.Number, decimal number) ∷ (field.Versions, versions_text walked.versions) ∷ (end_told names hops walked.end).1)
    (walked_line flow number names hops walked)
unfolding walked_line
packet_written flow number names hops walked hf hn small told = end_written flow number hf hn names hops walked.versions small walked.end told
