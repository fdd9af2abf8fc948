-- Texts of addresses: the grammar, and the function that computes.
use Rattle.std.proofs.Common.{◌≡◌, ℕ, zero, suc, ◌+◌, ◌*◌, ◌/◌, ◌%◌, ◌^◌, ◌<◌, true, false, List, [], ◌∷◌, length, get_or, Option, Some, None, refl, sym, ap, ◌∙◌, subst, arith, append-nil, All, ne_eqb, lit≤, ◌-◌}
use Rattle.std.specs.Prelude.{◌==◌, option_map}
use Rattle.std.specs.Net.Addr.{segments_of, octets_of}
use Rattle.std.specs.Net.Grammar.{IsDotted, IsColonHex}
use Rattle.std.specs.Net.Reader.{read_ipv4, read_ipv6, whole_value}
use Rattle.std.proofs.lemmas.Bool.{cond-false, both_ways}
use Rattle.std.proofs.lemmas.Bool.Decides.{nat_tests}
use Rattle.std.proofs.lemmas.List.Folds.{list_any_none}
use Rattle.std.proofs.lemmas.List.Elements.{All-weaker}
use Rattle.std.proofs.lemmas.Option.{none-some, same_Some}
use Rattle.std.proofs.NetLemmas.Options.{cond_none, map_some}
use Rattle.std.proofs.NetLemmas.Ipv4.{read_ipv4_complete, read_ipv4_sound}
use Rattle.std.proofs.NetLemmas.Ipv6.{read_ipv6_complete, read_ipv6_sound, EndsGroups-nil, IsDotted-not_colon_hex}
use Rattle.std.proofs.NetLemmas.Texts.{IsDotted-ipv4_text, IsColonHex-hex_groups_text, AllSegments}
use Rattle.std.proofs.NetLemmas.Alphabet.{All-ipv4_text, All-hex_groups_text, IsDigitOrDot, IsHexOrColon}
use Rattle.domain_map.specs.declared.address_text.address.Address.{Address}
use Rattle.domain_map.specs.declared.address_text.address.Address.TheVariants.{V4, V6}
use Rattle.domain_map.specs.address_text.Address.{IsAddressText, IsGroupsText, IsAddress, has_dot, six_of_text, address_of_text, address_text}

-- what was read left nothing behind it
whole_read : {A : Type 0} (r : Option (A × List ℕ)) (v : A) → whole_value r ≡ Some v → r ≡ Some (v, [])
whole_read None v e = absurd (none-some v e)
whole_read (Some (x, [])) v e = ap (λ y. Some (y, [])) (same_Some x v e)
whole_read (Some (x, c ∷ rest)) v e = absurd (none-some v (rw (ne_eqb (length (c ∷ rest)) 0 (omega arith)) at e))

dotted_reads : (text octets : List ℕ) → IsDotted text octets → read_ipv4 text ≡ Some (octets, [])
dotted_reads text octets h = subst (λ t. read_ipv4 t ≡ Some (octets, [])) (append-nil text) (read_ipv4_complete text octets [] h (lit≤ tt))

read_is_dotted : (text octets : List ℕ) → whole_value (read_ipv4 text) ≡ Some octets → IsDotted text octets
read_is_dotted text octets e =
    let s = read_ipv4_sound text octets [] (whole_read _ octets e) in
    subst (λ t. IsDotted t octets) (sym (s.1 ∙ append-nil s.0)) s.2

colon_reads : (text groups : List ℕ) → IsColonHex text groups → read_ipv6 text ≡ Some (groups, [])
colon_reads text groups h = subst (λ t. read_ipv6 t ≡ Some (groups, [])) (append-nil text) (read_ipv6_complete text groups [] h EndsGroups-nil)

read_is_colon : (text groups : List ℕ) → whole_value (read_ipv6 text) ≡ Some groups → IsColonHex text groups
read_is_colon text groups e =
    let s = read_ipv6_sound text groups [] (whole_read _ groups e) in
    subst (λ t. IsColonHex t groups) (sym (s.1 ∙ append-nil s.0)) s.2

-- groups are no dotted decimals
no_dotted : (text groups : List ℕ) (r : Option (List ℕ)) → whole_value (read_ipv4 text) ≡ r → IsColonHex text groups → r ≡ None
no_dotted text groups None e h = refl
no_dotted text groups (Some octets) e h = absurd (IsDotted-not_colon_hex text octets groups (read_is_dotted text octets e) h)

-- the four octets that were read, or what else is an address
abbrev chosen : List ℕ → Option (List ℕ) → Option Address
chosen text None = six_of_text text
chosen text (Some octets) = Some (V4 octets)

abbrev six : Option (List ℕ) → Option Address
six r = option_map (λ groups. V6 (octets_of groups)) r

six_computed : (text octets : List ℕ) → IsGroupsText text octets → six_of_text text ≡ Some (V6 octets)
six_computed text octets h = cond-false (has_dot text) None _ h.undotted ∙ ap (λ r. six (whole_value r)) (colon_reads text h.groups h.are) ∙ ap (λ o. Some (V6 o)) (sym h.value)

pub computed : (text : List ℕ) (a : Address) → IsAddressText text a → address_of_text text ≡ Some a
unfolding address_of_text
computed text (V4 octets) h = ap (λ r. chosen text (whole_value r)) (dotted_reads text octets h)
computed text (V6 octets) h = ap (chosen text) (no_dotted text h.groups (whole_value (read_ipv4 text)) refl h.are) ∙ six_computed text octets h

six_is_text : (text : List ℕ) (a : Address) → six_of_text text ≡ Some a → IsAddressText text a
six_is_text text a e =
    let plain = cond_none (has_dot text) _ a e in
    map_some (λ groups. V6 (octets_of groups)) (whole_value (read_ipv6 text)) a plain.1 λ groups found is.
    subst (IsAddressText text) is (record { groups = groups; are = read_is_colon text groups found; undotted = plain.0; value = refl })

by_four : (text : List ℕ) (a : Address) (r : Option (List ℕ)) → whole_value (read_ipv4 text) ≡ r
    → chosen text r ≡ Some a → IsAddressText text a
by_four text a None found e = six_is_text text a e
by_four text a (Some octets) found e = subst (IsAddressText text) (same_Some _ a e) (read_is_dotted text octets found)

pub is_text : (text : List ℕ) (a : Address) → address_of_text text ≡ Some a → IsAddressText text a
unfolding address_of_text
is_text text a e = by_four text a (whole_value (read_ipv4 text)) refl e

-- where no address has the text
pub none_computed : (text : List ℕ) → ((a : Address) → IsAddressText text a → ⊥) → address_of_text text ≡ None
none_computed text none = by_result (address_of_text text) refl where
  by_result : (r : Option Address) → address_of_text text ≡ r → r ≡ None
  by_result None e = refl
  by_result (Some a) e = absurd (none a (is_text text a e))

pub no_dotted_address : (text : List ℕ) → ((octets : List ℕ) → IsDotted text octets → ⊥) → has_dot text ≡ true → (a : Address) → IsAddressText text a → ⊥
no_dotted_address text none dot (V4 octets) h = none octets h
no_dotted_address text none dot (V6 octets) h = both_ways (has_dot text) h.undotted dot

pub no_address : (text : List ℕ) → ((octets : List ℕ) → IsDotted text octets → ⊥) → ((groups : List ℕ) → IsColonHex text groups → ⊥) → (a : Address) → IsAddressText text a → ⊥
no_address text none four (V4 octets) h = none octets h
no_address text none four (V6 octets) h = four h.groups h.are

pub one_address : (text : List ℕ) (a b : Address) → IsAddressText text a → IsAddressText text b → a ≡ b
one_address text a b is_a is_b = same_Some a b (sym (computed text a is_a) ∙ computed text b is_b)

-- groups of two octets

octets_back : (n : ℕ) (octets : List ℕ) → length octets ≡ 2 * n → ((k : ℕ) → get_or octets k 0 < 256) → octets_of (segments_of octets) ≡ octets
octets_back n [] even fits = refl
octets_back n (a ∷ []) even fits = absurd (omega arith)
octets_back n (a ∷ b ∷ octets) even fits =
    let high : (a * 256 + b) / 256 ≡ a = omega (arith, fits 1) in
    let low : (a * 256 + b) % 256 ≡ b = omega (arith, fits 1) in
    let rest = octets_back (n - 1) octets (omega arith) (λ k. fits (suc (suc k))) in
    λ i. high i ∷ low i ∷ rest i

length-groups : (n : ℕ) (octets : List ℕ) → length octets ≡ 2 * n → length (segments_of octets) ≡ n
length-groups n [] even = omega arith
length-groups n (a ∷ []) even = absurd (omega arith)
length-groups n (a ∷ b ∷ octets) even = omega (arith, length-groups (n - 1) octets (omega arith))

groups_fit : (octets : List ℕ) → ((k : ℕ) → get_or octets k 0 < 256) → AllSegments (segments_of octets)
groups_fit [] fits k = omega arith
groups_fit (a ∷ []) fits k = omega arith
groups_fit (a ∷ b ∷ octets) fits k =
    let later = groups_fit octets (λ j. fits (suc (suc j))) in
    elim k as (λ j. get_or ((a * 256 + b) ∷ segments_of octets) j 0 < 2 ^ 16) [ zero ↦ omega (arith, fits 0, fits 1) | suc j ↦ later j ]

undotted : (text : List ℕ) → All IsHexOrColon text → has_dot text ≡ false
undotted text all = list_any_none (λ c. c == 46) text (All-weaker IsHexOrColon (λ c. (c == 46) ≡ false) (λ c is. grind (arith, nat_tests)) text all)

pub written : (a : Address) → IsAddress a → IsAddressText (address_text a) a
written (V4 octets) is = IsDotted-ipv4_text octets is.count is.fit
written (V6 octets) is = record {
  groups = segments_of octets;
  are = IsColonHex-hex_groups_text (segments_of octets) (length-groups 8 octets is.count) (groups_fit octets is.fit);
  undotted = undotted _ (All-hex_groups_text (segments_of octets) (groups_fit octets is.fit));
  value = sym (octets_back 8 octets is.count is.fit);
}

-- no slash is in a written address

pub slashless : (a : Address) → IsAddress a → All (λ c. (c == 47) ≡ false) (address_text a)
slashless (V4 octets) is = All-weaker IsDigitOrDot (λ c. (c == 47) ≡ false) (λ c h. grind (arith, nat_tests)) _ (All-ipv4_text octets is.fit)
slashless (V6 octets) is = All-weaker IsHexOrColon (λ c. (c == 47) ≡ false) (λ c h. grind (arith, nat_tests)) _ (All-hex_groups_text (segments_of octets) (groups_fit octets is.fit))
