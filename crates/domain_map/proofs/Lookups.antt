-- Entries found by their keys and by their places.
use Rattle.std.proofs.Common.{◌≡◌, ℕ, zero, suc, ◌+◌, ◌<◌, ◌≤◌, Bool, true, false, cond, not, List, [], ◌∷◌, ◌++◌, length, remove, slice_get, Some, None, Option, is_some, option_map, Ok, Err, refl, sym, ap, ◌∙◌, arith, one-add}
use Rattle.std.specs.Prelude.{nat_lt, map, ◌||◌, if◌then◌else◌}
use Rattle.std.specs.List.{list_any, position, position_or_len}
use Rattle.std.specs.Map.{lookup, remove_entry}
use Rattle.std.proofs.lemmas.Bool.{ltb-true, ltb-false, cond-true, cond-false, lt-ltb, le-ltb, true≢false}
use Rattle.std.proofs.lemmas.Option.{slice_get_past}
use Rattle.std.proofs.NetLemmas.Options.{cond_some}
use Rattle.domain_map.specs.address_text.Prefix.{AddressBlock, same_block}
use Rattle.domain_map.specs.declared.protocol.Protocol.{Protocol}
use Rattle.domain_map.specs.declared.fault.MapFault.TheVariants as Fault
use Rattle.domain_map.specs.Addresses.{Addresses, with_address}
use Rattle.domain_map.proofs.Ranks.{no_place}

module _ {K X : Type 0} (test : K → Bool) where
  abbrev place : List (K × X) → ℕ
  place es = position_or_len (λ (e : K × X). test e.0) es

  pub lookup-place : (es : List (K × X)) → lookup test es ≡ option_map (λ e. e.1) (slice_get es (place es))
  lookup-place [] = refl
  lookup-place (e ∷ es) =
      elim (test e.0) as (λ b. cond b (Some e.1) (lookup test es) ≡ option_map (λ e. e.1) (slice_get (e ∷ es) (cond (not b) (1 + place es) 0))) [
        | true ↦ refl
        | false ↦ lookup-place es ∙ ap (λ k. option_map (λ e. e.1) (slice_get (e ∷ es) k)) (sym (one-add (place es)))
      ]

  pub remove_entry-place : (es : List (K × X)) → remove_entry test es ≡ remove es (place es)
  remove_entry-place [] = refl
  remove_entry-place (e ∷ es) =
      elim (test e.0) as (λ b. cond b es (e ∷ remove_entry test es) ≡ remove (e ∷ es) (cond (not b) (1 + place es) 0)) [
        | true ↦ refl
        | false ↦ ap (λ rest. e ∷ rest) (remove_entry-place es) ∙ ap (λ k. remove (e ∷ es) k) (sym (one-add (place es)))
      ]

  pub lookup_none : (es : List (K × X)) → position (λ (e : K × X). test e.0) es ≡ None → lookup test es ≡ None
  lookup_none es e =
      lookup-place es ∙ ap (option_map (λ e. e.1)) (slice_get_past es (place es) (ltb-false (place es) (length es) (no_place _ (place es) e)))

  pub lookup_some : (es : List (K × X)) (i : ℕ) → position (λ (e : K × X). test e.0) es ≡ Some i → lookup test es ≡ option_map (λ e. e.1) (slice_get es i)
  lookup_some es i e = lookup-place es ∙ ap (λ k. option_map (λ e. e.1) (slice_get es k)) (cond_some _ (place es) i e).1

  pub removed : (es : List (K × X)) (i : ℕ) → position (λ (e : K × X). test e.0) es ≡ Some i → remove_entry test es ≡ remove es i
  removed es i e = remove_entry-place es ∙ ap (remove es) (cond_some _ (place es) i e).1

pub within : {X : Type 0} (p : X → Bool) (xs : List X) (i : ℕ) → position p xs ≡ Some i → i < length xs
within p xs i e = let found = cond_some _ (position_or_len p xs) i e in omega (arith, ltb-true (position_or_len p xs) (length xs) found.0, found.1)

pub has_there : {X Y : Type 0} (f : X → Y) (xs : List X) (i : ℕ) → i < length xs → is_some (option_map f (slice_get xs i)) ≡ true
has_there f [] i lt = absurd (omega arith)
has_there f (x ∷ xs) zero lt = refl
has_there f (x ∷ xs) (suc i) lt = has_there f xs i (omega arith)

-- adding an address

at : AddressBlock → Addresses → Option ℕ
at block addresses = position (λ e. same_block block e.0) addresses

pub address_exists : (addresses : Addresses) (block : AddressBlock) (protocol : Protocol) (i : ℕ) → position (λ e. same_block block e.0) addresses ≡ Some i → with_address addresses block protocol ≡ Err Fault.Exists
address_exists addresses block protocol i e =
    cond-true (is_some (lookup (same_block block) addresses)) _ _ (ap is_some (lookup_some (same_block block) addresses i e) ∙ has_there (λ e. e.1) addresses i (within _ addresses i e))

pub addresses_full : (addresses : Addresses) (block : AddressBlock) (protocol : Protocol) → position (λ e. same_block block e.0) addresses ≡ None → 256 ≤ length addresses → with_address addresses block protocol ≡ Err Fault.Full
addresses_full addresses block protocol e full =
    ap (λ o. if is_some o then Err Fault.Exists else (if nat_lt (length addresses) 256 then Ok (addresses ++ (block, protocol) ∷ []) else Err Fault.Full)) (lookup_none (same_block block) addresses e)
    ∙ cond-false (nat_lt (length addresses) 256) _ _ (le-ltb (length addresses) 256 full)

pub address_added : (addresses : Addresses) (block : AddressBlock) (protocol : Protocol) → position (λ e. same_block block e.0) addresses ≡ None → length addresses < 256 → with_address addresses block protocol ≡ Ok (addresses ++ (block, protocol) ∷ [])
address_added addresses block protocol e few =
    ap (λ o. if is_some o then Err Fault.Exists else (if nat_lt (length addresses) 256 then Ok (addresses ++ (block, protocol) ∷ []) else Err Fault.Full)) (lookup_none (same_block block) addresses e)
    ∙ cond-true (nat_lt (length addresses) 256) _ _ (lt-ltb (length addresses) 256 few)

pub none_is : {X : Type 0} (o : Option X) → is_some o ≡ false → o ≡ None
none_is None e = refl
none_is (Some x) e = absurd (true≢false e)

pub some_is : {X : Type 0} (o : Option X) → is_some o ≡ true → (x : X) × (o ≡ Some x)
some_is None e = absurd (true≢false (sym e))
some_is (Some x) e = (x, refl)

-- taking an address out

abbrev left : AddressBlock → Addresses → Option Addresses
left block addresses = option_map (λ protocol. remove_entry (same_block block) addresses) (lookup (same_block block) addresses)

pub no_fewer : (addresses : Addresses) (block : AddressBlock) → position (λ e. same_block block e.0) addresses ≡ None → left block addresses ≡ None
no_fewer addresses block e = ap (option_map (λ protocol. remove_entry (same_block block) addresses)) (lookup_none (same_block block) addresses e)

pub some_left : {X Y : Type 0} (o : Option X) (y : Y) → is_some o ≡ true → option_map (λ x. y) o ≡ Some y
some_left None y e = absurd (true≢false (sym e))
some_left (Some x) y e = refl

pub fewer_left : (addresses : Addresses) (block : AddressBlock) (i : ℕ) → position (λ e. same_block block e.0) addresses ≡ Some i → left block addresses ≡ Some (remove addresses i)
fewer_left addresses block i e =
    some_left (lookup (same_block block) addresses) (remove_entry (same_block block) addresses) (ap is_some (lookup_some (same_block block) addresses i e) ∙ has_there (λ e. e.1) addresses i (within _ addresses i e))
    ∙ ap Some (removed (same_block block) addresses i e)

pub any-map : {X Y : Type 0} (f : X → Y) (p : Y → Bool) (xs : List X) → list_any p (map f xs) ≡ list_any (λ x. p (f x)) xs
any-map f p [] = refl
any-map f p (x ∷ xs) = ap (λ b. p (f x) || b) (any-map f p xs)
