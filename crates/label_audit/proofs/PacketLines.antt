-- The line of a packet: no line ends in it but at its end, where its versions stand.
use Rattle.std.proofs.Common.{◌≡◌, ℕ, zero, suc, true, false, List, [], ◌∷◌, ◌++◌, codes, map, decimal, Option, Some, None, flat_map, refl, arith, append_assoc}
use Rattle.std.specs.Prelude.{All, ◌==◌, ◌&&◌, slice_get, nat_le, length}
use Rattle.std.specs.List.{list_all, join_with_byte}
use Rattle.std.specs.Option.{option_map_or}
use Rattle.std.proofs.lemmas.Bool.{cond_both, and_parts}
use Rattle.std.proofs.lemmas.Bool.Decides.{nat_tests}
use Rattle.std.proofs.lemmas.List.Elements.{All-head, All-tail}
use Rattle.mls_label.specs.declared.label.Label.{Label}
use Rattle.mls_label.specs.Runs.{runs_of}
use Rattle.mls_range.specs.LabelText.{label_text, terms_text, term_text, terms_of_run}
use Rattle.domain_map.specs.declared.address_text.address.Address.{Address}
use Rattle.domain_map.specs.declared.address_text.address.Address.TheVariants.{V4, V6}
use Rattle.domain_map.specs.address_text.Address.{address_text}
use Rattle.domain_map.specs.address_text.Name.{is_name_octet, IsNameText}
use Rattle.std.specs.Net.Addr.{segments_of}
use Rattle.ip_headers.specs.declared.cause.Cause.{Cause}
use Rattle.ip_headers.specs.declared.cause.Cause.TheVariants.{Protocol, Fragment, Options, Segment, NoChecksum}
use Rattle.packet_label.specs.declared.denial.Carrier.{Carrier}
use Rattle.packet_label.specs.declared.denial.Carrier.TheVariants.{Unlabelled as NoLabel, Cipso, Calipso}
use Rattle.packet_label.specs.declared.denial.Denial.{Denial}
use Rattle.packet_label.specs.declared.denial.Denial.TheVariants.{BadHeader, BadOption, Unlabelled, NoStatic, UnknownDoi, TagNotAllowed, LevelUnmapped, CategoryUnmapped, OutsideRange, NoReceiver, MapRefuses, NotDominated, NoMap, AlreadyLabelled, Inexpressible, NoRoom, TooLong, Expired, WrongVersion, NoPair, NotCrossable, NotIp, BelowRange}
use Rattle.packet_label.specs.Denial.{number_of, name_of, cause_name}
use Rattle.label_commands.specs.declared.flow_lines.hop.Hop.{Hop}
use Rattle.label_commands.specs.flow_lines.Hop.{node_of}
use Rattle.label_flow.specs.declared.packet_walk.walked.End.{End}
use Rattle.label_flow.specs.declared.packet_walk.walked.End.TheVariants.{Delivered, Sent, Denied}
use Rattle.label_flow.specs.declared.packet_walk.walked.Walked.{Walked}
use Rattle.call_report.specs.Lines.Parts.{name_at}
use Rattle.call_report.specs.Lines.Denial.{detail_of, denial_text, delivered_text}
use Rattle.call_report.specs.Lines.Flow.{carrier_text, hop_node, versions_text, end_text, walked_line}
use Rattle.label_audit.proofs.NoEnd.{has_end, NoEnd, nil, and, onto, number, joined, six, four}

word : (xs : List ℕ) → has_end xs ≡ false → NoEnd xs
word xs is = record { none = is }

-- ---- labels

term : (t : ℕ × ℕ) → NoEnd (term_text t)
term t = cond_both _ _ _ NoEnd (λ _. onto 99 (decimal t.0) refl (number t.0))
    (λ _. onto 99 _ refl (and _ _ (number t.0) (onto 46 _ refl (onto 99 (decimal t.1) refl (number t.1)))))

terms_joined : (t : ℕ × ℕ) (ts : List (ℕ × ℕ)) → NoEnd (join_with_byte 44 (map term_text (t ∷ ts)))
terms_joined t [] = term t
terms_joined t (u ∷ ts) = and (term_text t) (44 ∷ join_with_byte 44 (map term_text (u ∷ ts))) (term t) (onto 44 (join_with_byte 44 (map term_text (u ∷ ts))) refl (terms_joined u ts))

terms : (ts : List (ℕ × ℕ)) → NoEnd (terms_text ts)
terms [] = nil
terms (t ∷ ts) = onto 58 (join_with_byte 44 (map term_text (t ∷ ts))) refl (terms_joined t ts)

label : (x : Label) → NoEnd (label_text x)
label x = onto 115 _ refl (and _ _ (number x.level) (terms (flat_map terms_of_run (runs_of x.cats))))

-- ---- addresses, names

address : (a : Address) → NoEnd (address_text a)
address (V4 octets) = four octets
address (V6 octets) = six (segments_of octets)

name_octet : (c : ℕ) → is_name_octet c ≡ true → (c == 10) ≡ false
name_octet c is = grind (arith, nat_tests)

name_octets : (text : List ℕ) → list_all is_name_octet text ≡ true → NoEnd text
name_octets [] is = nil
name_octets (c ∷ text) is = let both = and_parts (is_name_octet c) (list_all is_name_octet text) is in onto c text (name_octet c both.0) (name_octets text both.1)

name : (text : List ℕ) → IsNameText text → NoEnd text
name text is = name_octets text (and_parts (nat_le 1 (length text) && nat_le (length text) 63) (list_all is_name_octet text) is).1

name_of_node : (names : List (List ℕ)) (node : ℕ) → All IsNameText names → NoEnd (name_at names node)
name_of_node [] node all = nil
name_of_node (text ∷ names) zero all = name text (All-head IsNameText text names all)
name_of_node (text ∷ names) (suc node) all = name_of_node names node (All-tail IsNameText text names all)

judge_name : (names : List (List ℕ)) (hops : List Hop) (hop : ℕ) → All IsNameText names → NoEnd (hop_node names hops hop)
judge_name names hops zero all = word (codes "-") refl
judge_name names hops (suc h) all = by (slice_get hops h) where
  by : (found : Option Hop) → NoEnd (option_map_or (λ (x : Hop). name_at names (node_of x)) found [])
  by None = nil
  by (Some x) = name_of_node names (node_of x) all

-- ---- ends

octet : (n : ℕ) → NoEnd (codes " octet " ++ decimal n)
octet n = and (codes " octet ") (decimal n) (word (codes " octet ") refl) (number n)

cause : (c : Cause) → NoEnd (codes " " ++ cause_name c)
cause Protocol = word _ refl
cause Fragment = word _ refl
cause Options = word _ refl
cause Segment = word _ refl
cause NoChecksum = word _ refl

detail : (d : Denial) → NoEnd (detail_of d)
detail (BadHeader o) = octet o
detail (BadOption o) = octet o
detail Unlabelled = nil
detail NoStatic = nil
detail (UnknownDoi o) = octet o
detail (TagNotAllowed o) = octet o
detail LevelUnmapped = nil
detail (CategoryUnmapped c) = and (codes " category ") (decimal c) (word (codes " category ") refl) (number c)
detail OutsideRange = nil
detail NoReceiver = nil
detail MapRefuses = nil
detail NotDominated = nil
detail NoMap = nil
detail (AlreadyLabelled o) = octet o
detail Inexpressible = nil
detail NoRoom = nil
detail TooLong = nil
detail Expired = nil
detail WrongVersion = nil
detail NoPair = nil
detail (NotCrossable c) = cause c
detail NotIp = nil
detail BelowRange = nil

named : (d : Denial) → NoEnd (name_of d)
named (BadHeader o) = word _ refl
named (BadOption o) = word _ refl
named Unlabelled = word _ refl
named NoStatic = word _ refl
named (UnknownDoi o) = word _ refl
named (TagNotAllowed o) = word _ refl
named LevelUnmapped = word _ refl
named (CategoryUnmapped c) = word _ refl
named OutsideRange = word _ refl
named NoReceiver = word _ refl
named MapRefuses = word _ refl
named NotDominated = word _ refl
named NoMap = word _ refl
named (AlreadyLabelled o) = word _ refl
named Inexpressible = word _ refl
named NoRoom = word _ refl
named TooLong = word _ refl
named Expired = word _ refl
named WrongVersion = word _ refl
named NoPair = word _ refl
named (NotCrossable c) = word _ refl
named NotIp = word _ refl
named BelowRange = word _ refl

denied : (d : Denial) → NoEnd (denial_text d)
unfolding denial_text
denied d = and _ _ (and _ _ (and _ _ (and _ _ (word (codes "denied ") refl) (number (number_of d))) (word (codes " ") refl)) (named d)) (detail d)

carrier : (c : Carrier) → NoEnd (carrier_text c)
carrier NoLabel = word _ refl
carrier (Cipso doi) = and (codes "cipsov4,") (decimal doi) (word (codes "cipsov4,") refl) (number doi)
carrier (Calipso doi) = and (codes "calipso,") (decimal doi) (word (codes "calipso,") refl) (number doi)

delivered : (x : Label) → NoEnd (delivered_text x)
unfolding delivered_text
delivered x = and (codes "delivered ") (label_text x) (word (codes "delivered ") refl) (label x)

ended : (names : List (List ℕ)) (hops : List Hop) (end : End) → All IsNameText names → NoEnd (end_text names hops end)
ended names hops (Delivered x receiver) all = and _ _ (and _ _ (delivered x) (word (codes " to ") refl)) (address receiver)
ended names hops (Sent c) all = and (codes "sent ") (carrier_text c) (word (codes "sent ") refl) (carrier c)
ended names hops (Denied hop why) all =
    and _ _ (and _ _ (and _ _ (and _ _ (denied why) (word (codes " hop ") refl)) (number hop)) (word (codes " node ") refl)) (judge_name names hops hop all)

pub versions : (vs : List ℕ) → NoEnd (versions_text vs)
versions [] = word (codes "-") refl
versions (v ∷ vs) = joined (v ∷ vs)

-- ---- the line

abbrev front_of : ℕ → ℕ → List (List ℕ) → List Hop → Walked → List ℕ
front_of flow n names hops walked = codes "packet " ++ decimal flow ++ codes "." ++ decimal n ++ codes " " ++ end_text names hops walked.end ++ codes " versions"

-- what stands in front of a line's versions
pub record InLine (flow n : ℕ) (names : List (List ℕ)) (hops : List Hop) (walked : Walked) : Type 0 where
  pub front : List ℕ
  pub none : NoEnd front
  pub is : walked_line flow n names hops walked ≡ front ++ 32 ∷ (versions_text walked.versions ++ 10 ∷ [])

pub in_line : (flow n : ℕ) (names : List (List ℕ)) (hops : List Hop) (walked : Walked) → All IsNameText names → InLine flow n names hops walked
unfolding walked_line
in_line flow n names hops walked all = record {
  front = front_of flow n names hops walked;
  none = and _ _ (and _ _ (and _ _ (and _ _ (and _ _ (and _ _ (word (codes "packet ") refl) (number flow)) (word (codes ".") refl)) (number n)) (word (codes " ") refl)) (ended names hops walked.end all)) (word (codes " versions") refl);
  is = simp append_assoc;
}
