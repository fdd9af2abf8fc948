-- The DOIs that the entries of a map name, as entries come and go.
use Rattle.std.proofs.Common.{◌≡◌, ◌⊎◌, ℕ, zero, suc, ◌+◌, Bool, true, false, ◌||◌, cond, List, [], ◌∷◌, ◌++◌, length, map, Option, Some, None, Result, Ok, Err, is_some, option_map, option_and_then, slice_get, refl, sym, ap, ap₂, ◌∙◌, inl, inr}
use Rattle.std.specs.Prelude.{nat_lt, nat_eq, ◌&&◌, find, if◌then◌else◌}
use Rattle.std.specs.List.{list_any}
use Rattle.std.specs.Map.{lookup, remove_entry}
use Rattle.std.proofs.lemmas.Bool.{or_cases, or_left, or_right}
use Rattle.std.proofs.lemmas.List.Folds.{list_any-append}
use Rattle.indexmap.specs.IndexMap.{insert_entry}
use Rattle.mls_label.specs.declared.label.Proto.{Proto}
use Rattle.domain_map.specs.declared.address_text.address.Address.{Address}
use Rattle.domain_map.specs.address_text.Prefix.{AddressBlock, same_block, holds}
use Rattle.domain_map.specs.declared.protocol.Protocol.{Protocol}
use Rattle.domain_map.specs.declared.rule.Rule.{Rule}
use Rattle.domain_map.specs.declared.rule.Rule.TheVariants.{Plain, Addresses}
use Rattle.domain_map.specs.declared.fault.MapFault.{MapFault}
use Rattle.domain_map.specs.declared.fault.MapFault.TheVariants as Fault
use Rattle.domain_map.specs.Protocol.{has_doi}
use Rattle.domain_map.specs.Addresses.{with_address, map_ok}
use Rattle.domain_map.specs.Longest.{most_bits, longest}
use Rattle.domain_map.specs.Domains.{Domain, Domains, Line, same_domain, rule_of, first_rule, fuller, fewer, added, deleted, with_addresses, protocol_of, find_of, rule_lines, lines_of, names_doi_of}

any_mapped : {X Y : Type 0} (p : Y → Bool) (f : X → Y) (xs : List X) → list_any p (map f xs) ≡ list_any (λ x. p (f x)) xs
any_mapped p f [] = refl
any_mapped p f (x ∷ xs) = ap (λ b. p (f x) || b) (any_mapped p f xs)

any_at : {X : Type 0} (p : X → Bool) (xs : List X) (i : ℕ) (x : X) → slice_get xs i ≡ Some x → p x ≡ true → list_any p xs ≡ true
any_at p [] i x at h = absurd (cc)
any_at p (y ∷ xs) zero x at h = let same : y ≡ x = cc in or_left (p y) (list_any p xs) (ap p same ∙ h)
any_at p (y ∷ xs) (suc i) x at h = or_right (p y) (list_any p xs) (any_at p xs i x at h)

named_by_lines : (domains : Domains) (proto : Proto) (doi : ℕ) → names_doi_of domains proto doi ≡ list_any (λ (l : Line). has_doi proto doi l.2) (lines_of domains)
unfolding names_doi_of lines_of
named_by_lines [] proto doi = refl
named_by_lines (e ∷ es) proto doi =
    let test = λ (l : Line). has_doi proto doi l.2 in
    let place : Option AddressBlock × Protocol → Line = λ l. (e.0, l.0, l.1) in
    sym (list_any-append test (map place (rule_lines e.1)) (lines_of es) ∙ ap₂ (λ a b. a || b) (any_mapped test place (rule_lines e.1)) (sym (named_by_lines es proto doi)))

-- a line names the DOI that its protocol has
pub named_at : (domains : Domains) (i : ℕ) (line : Line) (proto : Proto) (doi : ℕ) → slice_get (lines_of domains) i ≡ Some line → has_doi proto doi line.2 ≡ true → names_doi_of domains proto doi ≡ true
named_at domains i line proto doi at has = named_by_lines domains proto doi ∙ any_at (λ (l : Line). has_doi proto doi l.2) (lines_of domains) i line at has

-- ---- values of entries that come and go

module _ {K V : Type 0} (test : V → Bool) where
  any_removed : (is : K → Bool) (es : List (K × V)) → list_any (λ e. test e.1) (remove_entry is es) ≡ true → list_any (λ e. test e.1) es ≡ true
  any_removed is [] h = h
  any_removed is (e ∷ es) h =
      (elim (is e.0) as (λ b. list_any (λ e. test e.1) (cond b es (e ∷ remove_entry is es)) ≡ true → (test e.1 || list_any (λ e. test e.1) es) ≡ true) [
        | true ↦ λ g. or_right (test e.1) (list_any (λ e. test e.1) es) g
        | false ↦ λ g.
            elim (or_cases (test e.1) (list_any (λ e. test e.1) (remove_entry is es)) g) [
              | inl here ↦ or_left (test e.1) (list_any (λ e. test e.1) es) here
              | inr behind ↦ or_right (test e.1) (list_any (λ e. test e.1) es) (any_removed is es behind)
            ]
      ]) h

  -- the value of a key that is there is replaced
  any_replaced : (Q : Type 0) (same : K → K → Bool) (es : List (K × V)) (key : K) (was is : V) → lookup (same key) es ≡ Some was → (test is ≡ true → (test was ≡ true) ⊎ Q)
      → list_any (λ e. test e.1) (insert_entry same es key is) ≡ true → (list_any (λ e. test e.1) es ≡ true) ⊎ Q
  any_replaced Q same [] key was is found new h = absurd (cc)
  any_replaced Q same (e ∷ es) key was is found new h =
      (elim (same key e.0) as (λ b. cond b (Some e.1) (lookup (same key) es) ≡ Some was
      → list_any (λ e. test e.1) (if b then (e.0, is) ∷ es else e ∷ insert_entry same es key is) ≡ true → ((test e.1 || list_any (λ e. test e.1) es) ≡ true) ⊎ Q) [
        | true ↦ λ f g.
            let same_value : e.1 ≡ was = cc in
            elim (or_cases (test is) (list_any (λ e. test e.1) es) g) [
              | inl here ↦ elim (new here) [ inl old ↦ inl (or_left (test e.1) (list_any (λ e. test e.1) es) (ap test same_value ∙ old)) | inr q ↦ inr q ]
              | inr behind ↦ inl (or_right (test e.1) (list_any (λ e. test e.1) es) behind)
            ]
        | false ↦ λ f g.
            elim (or_cases (test e.1) (list_any (λ e. test e.1) (insert_entry same es key is)) g) [
              | inl here ↦ inl (or_left (test e.1) (list_any (λ e. test e.1) es) here)
              | inr behind ↦ elim (any_replaced Q same es key was is f new behind) [ inl old ↦ inl (or_right (test e.1) (list_any (λ e. test e.1) es) old) | inr q ↦ inr q ]
            ]
      ]) found h

  any_looked_up : (is : K → Bool) (es : List (K × V)) (v : V) → lookup is es ≡ Some v → test v ≡ true → list_any (λ e. test e.1) es ≡ true
  any_looked_up is [] v found h = absurd (cc)
  any_looked_up is (e ∷ es) v found h =
      (elim (is e.0) as (λ b. cond b (Some e.1) (lookup is es) ≡ Some v → (test e.1 || list_any (λ e. test e.1) es) ≡ true) [
        | true ↦ λ f. let same : e.1 ≡ v = cc in or_left (test e.1) (list_any (λ e. test e.1) es) (ap test same ∙ h)
        | false ↦ λ f. or_right (test e.1) (list_any (λ e. test e.1) es) (any_looked_up is es v f h)
      ]) found

any_found : {X : Type 0} (p q : X → Bool) (xs : List X) (x : X) → find p xs ≡ Some x → q x ≡ true → list_any q xs ≡ true
any_found p q [] x found h = absurd (cc)
any_found p q (y ∷ xs) x found h =
    (elim (p y) as (λ b. cond b (Some y) (find p xs) ≡ Some x → (q y || list_any q xs) ≡ true) [
      | true ↦ λ f. let same : y ≡ x = cc in or_left (q y) (list_any q xs) (ap q same ∙ h)
      | false ↦ λ f. or_right (q y) (list_any q xs) (any_found p q xs x f h)
    ]) found

-- ---- rules that come and go

pub map_ok_inverse : {X Y : Type 0} (f : X → Y) (r : Result X MapFault) (y : Y) → map_ok f r ≡ Ok y → (x : X) × (r ≡ Ok x) × (f x ≡ y)
map_ok_inverse f (Ok x) y h = (x, refl, cc)
map_ok_inverse f (Err fault) y h = absurd (cc)

pub option_map_inverse : {X Y : Type 0} (f : X → Y) (o : Option X) (y : Y) → option_map f o ≡ Some y → (x : X) × (o ≡ Some x) × (f x ≡ y)
option_map_inverse f (Some x) y h = (x, refl, cc)
option_map_inverse f None y h = absurd (cc)

module _ (proto : Proto) (doi : ℕ) where
  rule_names : Rule → Bool
  rule_names rule = list_any (λ line. has_doi proto doi line.1) (rule_lines rule)

  listed_names : (addresses : List (AddressBlock × Protocol)) → rule_names (Addresses addresses) ≡ list_any (λ e. has_doi proto doi e.1) addresses
  unfolding rule_names
  listed_names addresses = any_mapped (λ (line : Option AddressBlock × Protocol). has_doi proto doi line.1) (λ (e : AddressBlock × Protocol). (Some e.0, e.1)) addresses

  lone_names : (b : Bool) → (b || false) ≡ true → b ≡ true
  lone_names true h = refl
  lone_names false h = h

  first_names : (block : Option AddressBlock) (protocol : Protocol) → rule_names (first_rule block protocol) ≡ true → has_doi proto doi protocol ≡ true
  unfolding rule_names
  first_names None protocol h = lone_names (has_doi proto doi protocol) h
  first_names (Some block) protocol h = lone_names (has_doi proto doi protocol) h

  with_address_is : (addresses made : List (AddressBlock × Protocol)) (block : AddressBlock) (protocol : Protocol) → with_address addresses block protocol ≡ Ok made → made ≡ addresses ++ (block, protocol) ∷ []
  with_address_is addresses made block protocol h =
      (elim (is_some (lookup (same_block block) addresses)) as (λ b. cond b (Err Fault.Exists) (cond (nat_lt (length addresses) 256) (Ok (addresses ++ (block, protocol) ∷ [])) (Err Fault.Full)) ≡ Ok made → made ≡ addresses ++ (block, protocol) ∷ []) [
        | true ↦ λ g. absurd (cc)
        | false ↦
            elim (nat_lt (length addresses) 256) as (λ b. cond b (Ok (addresses ++ (block, protocol) ∷ [])) (Err Fault.Full) ≡ Ok made → made ≡ addresses ++ (block, protocol) ∷ []) [
              | true ↦ λ g. cc
              | false ↦ λ g. absurd (cc)
            ]
      ]) h

  fuller_names : (rule made : Rule) (block : Option AddressBlock) (protocol : Protocol) → fuller rule block protocol ≡ Ok made → rule_names made ≡ true → (rule_names rule ≡ true) ⊎ (has_doi proto doi protocol ≡ true)
  fuller_names (Plain was) made None protocol h named = absurd (cc)
  fuller_names (Plain was) made (Some block) protocol h named = absurd (cc)
  fuller_names (Addresses addresses) made None protocol h named = absurd (cc)
  fuller_names (Addresses addresses) made (Some block) protocol h named =
      let inverse = map_ok_inverse Addresses (with_address addresses block protocol) made h in
      let is = with_address_is addresses inverse.0 block protocol inverse.1 in
      let whole : list_any (λ e. has_doi proto doi e.1) (addresses ++ (block, protocol) ∷ []) ≡ true =
      ap (list_any (λ e. has_doi proto doi e.1)) (sym is) ∙ sym (listed_names inverse.0) ∙ ap rule_names inverse.2 ∙ named in
      let split = sym (list_any-append (λ (e : AddressBlock × Protocol). has_doi proto doi e.1) addresses ((block, protocol) ∷ [])) ∙ whole in
      elim (or_cases (list_any (λ e. has_doi proto doi e.1) addresses) (has_doi proto doi protocol || false) split) [
        | inl old ↦ inl (listed_names addresses ∙ old)
        | inr new ↦ inr (lone_names (has_doi proto doi protocol) new)
      ]

  fewer_names : (rule : Rule) (block : AddressBlock) (left : List (AddressBlock × Protocol)) → fewer rule block ≡ Some left → rule_names (Addresses left) ≡ true → rule_names rule ≡ true
  fewer_names (Plain was) block left h named = absurd (cc)
  fewer_names (Addresses addresses) block left h named =
      let inverse = option_map_inverse (λ (protocol : Protocol). remove_entry (same_block block) addresses) (lookup (same_block block) addresses) left h in
      listed_names addresses ∙ any_removed (has_doi proto doi) (same_block block) addresses (ap (list_any (λ e. has_doi proto doi e.1)) inverse.2 ∙ sym (listed_names left) ∙ named)

  names_is : (domains : Domains) → names_doi_of domains proto doi ≡ list_any (λ e. rule_names e.1) domains
  unfolding names_doi_of rule_names
  names_is domains = refl

  -- what is added names one DOI more, its own
  pub named_by_added : (domains new : Domains) (domain : Domain) (block : Option AddressBlock) (protocol : Protocol) → added domains domain block protocol ≡ Ok new
      → names_doi_of new proto doi ≡ true → (names_doi_of domains proto doi ≡ true) ⊎ (has_doi proto doi protocol ≡ true)
  unfolding added
  named_by_added domains new domain block protocol made named =
      let before = names_is domains in
      let after : list_any (λ e. rule_names e.1) new ≡ true = sym (names_is new) ∙ named in
      (elim (rule_of domains domain) as (λ o. rule_of domains domain ≡ o → (elim o as (λ _. Result Domains MapFault) [
        | None ↦ if nat_lt (length domains) 256 then Ok (domains ++ (domain, first_rule block protocol) ∷ []) else Err Fault.Full
        | Some rule ↦ map_ok (insert_entry same_domain domains domain) (fuller rule block protocol)
      ]) ≡ Ok new → (names_doi_of domains proto doi ≡ true) ⊎ (has_doi proto doi protocol ≡ true)) [
        | None ↦ λ found.
            elim (nat_lt (length domains) 256) as (λ b. cond b (Ok (domains ++ (domain, first_rule block protocol) ∷ [])) (Err Fault.Full) ≡ Ok new → (names_doi_of domains proto doi ≡ true) ⊎ (has_doi proto doi protocol ≡ true)) [
              | true ↦ λ g.
                  let is : domains ++ (domain, first_rule block protocol) ∷ [] ≡ new = cc in
                  let split = sym (list_any-append (λ (e : Domain × Rule). rule_names e.1) domains ((domain, first_rule block protocol) ∷ [])) ∙ ap (list_any (λ e. rule_names e.1)) is ∙ after in
                  elim (or_cases (list_any (λ e. rule_names e.1) domains) (rule_names (first_rule block protocol) || false) split) [
                    | inl old ↦ inl (before ∙ old)
                    | inr one ↦ inr (first_names block protocol (lone_names (rule_names (first_rule block protocol)) one))
                  ]
              | false ↦ λ g. absurd (cc)
            ]
        | Some rule ↦ λ found g.
            let inverse = map_ok_inverse (insert_entry same_domain domains domain) (fuller rule block protocol) new g in
            elim (any_replaced rule_names (has_doi proto doi protocol ≡ true) same_domain domains domain rule inverse.0 found (fuller_names rule inverse.0 block protocol inverse.1) (ap (list_any (λ e. rule_names e.1)) inverse.2 ∙ after)) [
              | inl old ↦ inl (before ∙ old)
              | inr one ↦ inr one
            ]
      ]) refl made

  fewer_named : (domains : Domains) (domain : Domain) (rule : Rule) (left : List (AddressBlock × Protocol)) → rule_of domains domain ≡ Some rule → (rule_names (Addresses left) ≡ true → rule_names rule ≡ true)
      → list_any (λ e. rule_names e.1) (with_addresses domains domain left) ≡ true → list_any (λ e. rule_names e.1) domains ≡ true
  fewer_named domains domain rule [] found fewer h = any_removed rule_names (same_domain domain) domains h
  fewer_named domains domain rule (first ∷ others) found fewer h =
      elim (any_replaced rule_names ⊥ same_domain domains domain rule (Addresses (first ∷ others)) found (λ named. inl (fewer named)) h) [
        | inl old ↦ old
        | inr none ↦ absurd none
      ]

  -- and what is left names no other
  pub named_by_deleted : (domains new : Domains) (domain : Domain) (block : Option AddressBlock) → deleted domains domain block ≡ Some new → names_doi_of new proto doi ≡ true → names_doi_of domains proto doi ≡ true
  unfolding deleted
  named_by_deleted domains new domain None made named =
      let inverse = option_map_inverse (λ (rule : Rule). remove_entry (same_domain domain) domains) (rule_of domains domain) new made in
      names_is domains ∙ any_removed rule_names (same_domain domain) domains (ap (list_any (λ e. rule_names e.1)) inverse.2 ∙ sym (names_is new) ∙ named)
  named_by_deleted domains new domain (Some block) made named =
      let inverse = option_map_inverse (with_addresses domains domain) (option_and_then (λ rule. fewer rule block) (rule_of domains domain)) new made in
      (elim (rule_of domains domain) as (λ o. rule_of domains domain ≡ o → option_and_then (λ rule. fewer rule block) o ≡ Some inverse.0 → names_doi_of domains proto doi ≡ true) [
        | None ↦ λ found g. absurd (cc)
        | Some rule ↦ λ found g.
            names_is domains ∙ fewer_named domains domain rule inverse.0 found (fewer_names rule block inverse.0 g) (ap (list_any (λ e. rule_names e.1)) inverse.2 ∙ sym (names_is new) ∙ named)
      ]) refl inverse.1

  -- a rule that is found for an address names the DOI that its protocol has
  rule_found : (rule : Rule) (address : Address) (protocol : Protocol) → protocol_of rule address ≡ Some protocol → has_doi proto doi protocol ≡ true → rule_names rule ≡ true
  unfolding rule_names
  rule_found (Plain own) address protocol found has =
      let same : own ≡ protocol = cc in or_left (has_doi proto doi own) false (ap (has_doi proto doi) same ∙ has)
  rule_found (Addresses addresses) address protocol found has =
      let inverse = option_map_inverse (λ (e : AddressBlock × Protocol). e.1) (longest (λ e. e.0) address addresses) protocol found in
      listed_names addresses
      ∙ any_found (λ (e : AddressBlock × Protocol). holds e.0 address && nat_eq e.0.bits (most_bits (λ e. e.0) address addresses)) (λ (e : AddressBlock × Protocol). has_doi proto doi e.1) addresses inverse.0 inverse.1
      (ap (has_doi proto doi) inverse.2 ∙ has)

  entry_found : (domains : Domains) (domain : Domain) (rule : Rule) → rule_of domains domain ≡ Some rule → rule_names rule ≡ true → names_doi_of domains proto doi ≡ true
  entry_found domains domain rule found named = names_is domains ∙ any_looked_up rule_names (same_domain domain) domains rule found named

  pub named_by_found : (domains : Domains) (domain : List ℕ) (address : Address) (protocol : Protocol) → find_of domains domain address ≡ Some protocol → has_doi proto doi protocol ≡ true → names_doi_of domains proto doi ≡ true
  unfolding find_of
  named_by_found domains domain address protocol found has =
      (elim (rule_of domains (Some domain)) as (λ o. rule_of domains (Some domain) ≡ o → (elim o as (λ _. Option Protocol) [
        | Some rule ↦ protocol_of rule address
        | None ↦ option_and_then (λ rule. protocol_of rule address) (rule_of domains None)
      ]) ≡ Some protocol → names_doi_of domains proto doi ≡ true) [
        | Some rule ↦ λ own f. entry_found domains (Some domain) rule own (rule_found rule address protocol f has)
        | None ↦ λ none f.
            (elim (rule_of domains None) as (λ o. rule_of domains None ≡ o → option_and_then (λ rule. protocol_of rule address) o ≡ Some protocol → names_doi_of domains proto doi ≡ true) [
              | Some rule ↦ λ default g. entry_found domains None rule default (rule_found rule address protocol g has)
              | None ↦ λ nothing g. absurd (cc)
            ]) refl f
      ]) refl found
