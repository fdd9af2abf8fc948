-- Options as they are read: the octets that were read, and the tag within its option.
use Rattle.std.proofs.Common.{◌≡◌, ℕ, ◌+◌, ◌-◌, ◌≤◌, List, [], ◌∷◌, ◌++◌, length, get_or, take, drop, sym, ap, subst, ◌∙◌, arith, length-drop}
use Rattle.std.proofs.lemmas.List.{get_or-drop, length-take}
use Rattle.mls_label.specs.declared.octet_grammar.fault.WireFault.{WireFault}
use Rattle.mls_label.specs.octet_grammar.Octets.{IsOctets}
use Rattle.mls_label.specs.octet_grammar.Front.{IsFront, ReadsFront}
use Rattle.mls_label.specs.octet_grammar.Fault.{FailsFront}
use Rattle.mls_label.specs.octet_grammar.Numbers.{u32_at}
use Rattle.mls_label.specs.octet_grammar.Place.{moved_by}
use Rattle.mls_label.proofs.octet_grammar.Fronts.{at_agree, front_agree}
use Rattle.mls_label.proofs.octet_grammar.Faults.{IsWithin, reads_under}
use Rattle.mls_label.proofs.octet_grammar.Places.{part_fails}
use Rattle.mls_label.proofs.octet_grammar.Numbers.{u32_octets, u32_small}
use Rattle.mls_label.proofs.octet_grammar.Layouts.{ArePassed, firsts, firsts_are, firsts_rest}
use Rattle.mls_label.specs.declared.label.Tag.{Tag}
use Rattle.mls_label.specs.declared.label.Label.{Label}
use Rattle.cipso_tags.specs.Tag.{tag_type, IsTag, HasLength}
use Rattle.cipso_option.specs.declared.cipso.Cipso.{Cipso}
use Rattle.cipso_option.specs.Cipso.{IsCipso}
use Rattle.cipso_option.specs.inside.Head.{IsStart, IsNamed, HasTagHead}
use Rattle.cipso_option.proofs.Places.{MayStand, options_free}

pub start_passed : (s : List ℕ) → IsStart s → ArePassed MayStand [] (firsts s 2)
start_passed s start = (start.type, ((start.low, start.high), tt))

pub named_passed : (s : List ℕ) → IsOctets s → IsStart s → IsNamed s → ArePassed MayStand [] (firsts s 6)
named_passed s octets start named = (start.type, ((start.low, start.high), (octets.at 2, (octets.at 3, (octets.at 4, ((octets.at 5, named.named), tt))))))

pub typed_passed : (s : List ℕ) (tag : Tag) → IsOctets s → IsStart s → IsNamed s → tag_type tag ≡ get_or s 6 0 → HasLength tag (get_or s 1 0 - 6) → ArePassed MayStand [] (firsts s 7)
typed_passed s tag octets start named type there = (start.type, ((start.low, start.high), (octets.at 2, (octets.at 3, (octets.at 4, ((octets.at 5, named.named), ((tag, type, there), tt)))))))

-- ---- a tag within its option

abbrev pub with_doi : ℕ → Tag × Label → Cipso
with_doi doi v = record { doi = doi; tag = v.0; label = v.1 }

-- the option's own octets and the first two of its tag were read
pub record IsHeaded (s : List ℕ) : Type 0 where
  pub octets : IsOctets s
  pub start : IsStart s
  pub named : IsNamed s
  pub tag : HasTagHead s

tag_within : (s : List ℕ) → IsHeaded s → IsWithin (with_doi (u32_at s 2)) IsTag IsCipso (firsts s 6) (drop 6 s) 2
tag_within s h =
    let doi = u32_octets s 2 h.octets in
    record {
      into = λ t v agree m.
          let said : get_or t 1 0 ≡ get_or s 7 0 = at_agree 1 2 t (drop 6 s) (omega arith) agree ∙ get_or-drop 6 s 1 0 in
          let long : get_or s 1 0 ≡ 6 + length t = omega (arith, ap length m.is, ap (λ x. get_or x 1 0) m.is, said, h.tag.size, h.start.low) in
          record {
            rest = t;
            is = λ i. h.start.type i ∷ long i ∷ (sym doi i ++ t);
            carries = m;
            named = h.named.named;
            fits = u32_small s 2 h.octets;
          };
      back = λ t w agree m. ((w.tag, w.label), subst (λ x. IsTag x (w.tag, w.label)) (sym (ap (drop 6) m.is)) m.carries);
    }

tag_front : (s : List ℕ) → HasTagHead s → IsFront IsTag (take 2 (drop 6 s))
tag_front s head =
    let h = head.there in
    let m = h.2 in
    let rest = drop 6 s in
    let seen : take 2 rest ≡ get_or s 6 0 ∷ get_or s 7 0 ∷ [] = firsts_are rest 2 (omega (arith, head.long, length-drop 6 s)) ∙ λ i. get_or-drop 6 s 0 0 i ∷ get_or-drop 6 s 1 0 i ∷ [] in
    let inner : 4 + length m.body ≡ get_or s 7 0 = omega (arith, ap length m.is, h.3, head.size) in
    front_agree IsTag rest h.0 2 (head.tag, h.1) m (ap (take 2) m.is ∙ (λ i. sym head.type i ∷ inner i ∷ []) ∙ sym seen)

pub option_reads : (s : List ℕ) (n : ℕ) (tag : Tag) (label : Label) → IsHeaded s → ReadsFront IsTag (drop 6 s) (tag, label) n → ReadsFront IsCipso s (record { doi = u32_at s 2; tag = tag; label = label }) (6 + n)
option_reads s n tag label h reads =
    let enough : 2 ≤ n = omega (arith, ap length reads.member.is, length-take n (drop 6 s)) in
    subst (λ x. ReadsFront IsCipso x (record { doi = u32_at s 2; tag = tag; label = label }) (6 + n)) (sym (firsts_rest s 6 h.named.long))
    (reads_under (with_doi (u32_at s 2)) IsTag IsCipso (firsts s 6) (drop 6 s) 2 n (tag, label) enough (tag_within s h) reads)

pub option_fails : (s : List ℕ) (f : WireFault) → IsHeaded s → FailsFront IsTag (drop 6 s) f → FailsFront IsCipso s (moved_by 6 f)
option_fails s f h fails =
    subst (λ x. FailsFront IsCipso x (moved_by 6 f)) (sym (firsts_rest s 6 h.named.long))
    (part_fails (with_doi (u32_at s 2)) IsTag IsCipso options_free (firsts s 6) (drop 6 s) 2 f (omega (arith, h.tag.long, length-drop 6 s)) (tag_within s h) (tag_front s h.tag) fails)
