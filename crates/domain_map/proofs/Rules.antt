-- What the map makes of its entries.
use Rattle.std.proofs.Common.{◌≡◌, ℕ, zero, suc, ◌+◌, ◌-◌, ◌<◌, ◌≤◌, Bool, true, false, cond, not, List, [], ◌∷◌, ◌++◌, length, take, drop, map, remove, slice_get, Some, None, Option, is_some, option_map, option_and_then, Result, Ok, Err, refl, sym, ap, ap₂, ◌∙◌, subst, arith, one-add}
use Rattle.std.specs.Prelude.{nat_lt, if◌then◌else◌}
use Rattle.std.specs.List.{position, position_or_len}
use Rattle.std.specs.Map.{remove_entry, keys_of, values_of}
use Rattle.indexmap.specs.IndexMap.{insert_entry, set_value_at}
use Rattle.std.specs.List.{IsDistinct, AllByRecursion}
use Rattle.std.specs.Bool.{one_answer}
use Rattle.std.specs.Str.{bytes_eq}
use Rattle.std.proofs.lemmas.Slice.Eq.{bytes_eq-Decides}
use Rattle.std.proofs.lemmas.Bool.{ltb-true, ltb-false, cond-true, cond-false, lt-ltb, le-ltb}
use Rattle.std.proofs.lemmas.List.{length-append, length-map}
use Rattle.std.proofs.lemmas.Option.{slice_get-map, slice_get_within, none-some, same_Some}
use Rattle.std.proofs.NetLemmas.Options.{cond_some}
use Rattle.domain_map.specs.address_text.Prefix.{AddressBlock}
use Rattle.domain_map.specs.declared.protocol.Protocol.{Protocol}
use Rattle.domain_map.specs.declared.rule.Rule.{Rule}
use Rattle.domain_map.specs.declared.rule.Rule.TheVariants.{Addresses}
use Rattle.domain_map.specs.declared.fault.MapFault.{MapFault}
use Rattle.domain_map.specs.declared.fault.MapFault.TheVariants as Fault
use Rattle.domain_map.specs.Addresses.{map_ok, IsRefusedBy}
use Rattle.domain_map.specs.Domains.{Domain, Domains, Line, same_domain, rule_of, first_rule, fuller, fewer, added, deleted, with_addresses, rule_lines, lines_of}
use Rattle.domain_map.specs.inside.Fewer.{LeavesOf}
use Rattle.domain_map.proofs.Ranks.{no_place}
use Rattle.domain_map.proofs.Lookups.{lookup_none, lookup_some, removed, some_left}

-- places among keys are places among entries

pol-keys : {K X : Type 0} (test : K → Bool) (es : List (K × X)) → position_or_len test (keys_of es) ≡ position_or_len (λ (e : K × X). test e.0) es
pol-keys test [] = refl
pol-keys test (e ∷ es) = ap (λ n. cond (not (test e.0)) (1 + n) 0) (pol-keys test es)

pub position-keys : {K X : Type 0} (test : K → Bool) (es : List (K × X)) → position test (keys_of es) ≡ position (λ (e : K × X). test e.0) es
position-keys {K} {X} test es =
    ap₂ (λ n m. cond (nat_lt n m) (Some n) None) (pol-keys test es) (length-map es (λ (e : K × X). e.0))

-- writing a value

module _ {K X : Type 0} (eq : K → K → Bool) (k : K) (v : X) where
  insert-there : (es : List (K × X)) → position_or_len (λ (e : K × X). eq k e.0) es < length es → insert_entry eq es k v ≡ set_value_at es (position_or_len (λ (e : K × X). eq k e.0) es) v
  insert-there [] lt = absurd (omega arith)
  insert-there (e ∷ es) lt =
      let p = λ (d : K × X). eq k d.0 in
      elim (eq k e.0) as (λ b. cond (not b) (1 + position_or_len p es) 0 < suc (length es) → (if b then (e.0, v) ∷ es else e ∷ insert_entry eq es k v) ≡ set_value_at (e ∷ es) (cond (not b) (1 + position_or_len p es) 0) v) [
        | true ↦ λ bound. refl
        | false ↦ λ bound. ap (λ rest. e ∷ rest) (insert-there es (omega (arith, bound))) ∙ ap (λ n. set_value_at (e ∷ es) n v) (sym (one-add (position_or_len p es)))
      ] lt

  pub insert-absent : (es : List (K × X)) → length es ≤ position_or_len (λ (e : K × X). eq k e.0) es → insert_entry eq es k v ≡ es ++ (k, v) ∷ []
  insert-absent [] le = refl
  insert-absent (e ∷ es) le =
      let p = λ (d : K × X). eq k d.0 in
      elim (eq k e.0) as (λ b. suc (length es) ≤ cond (not b) (1 + position_or_len p es) 0 → (if b then (e.0, v) ∷ es else e ∷ insert_entry eq es k v) ≡ e ∷ (es ++ (k, v) ∷ [])) [
        | true ↦ λ bound. absurd (omega (arith, bound))
        | false ↦ λ bound. ap (λ rest. e ∷ rest) (insert-absent es (omega (arith, bound)))
      ] le

  pub insert-place : (es : List (K × X)) (i : ℕ) → position (eq k) (keys_of es) ≡ Some i → insert_entry eq es k v ≡ set_value_at es i v
  insert-place es i e =
      let p = λ (d : K × X). eq k d.0 in
      let found = cond_some (nat_lt (position_or_len p es) (length es)) (position_or_len p es) i (sym (position-keys (eq k) es) ∙ e) in
      insert-there es (ltb-true (position_or_len p es) (length es) found.0) ∙ ap (λ n. set_value_at es n v) found.1

pub set-same : {K X : Type 0} (es : List (K × X)) (i : ℕ) (v : X) → slice_get (values_of es) i ≡ Some v → set_value_at es i v ≡ es
set-same [] i v e = refl
set-same (e ∷ es) zero v is = ap (λ w. (e.0, w) ∷ es) (sym (same_Some e.1 v is))
set-same (e ∷ es) (suc i) v is = ap (λ rest. e ∷ rest) (set-same es i v is)

remove-set : {K X : Type 0} (es : List (K × X)) (i : ℕ) (v : X) → remove (set_value_at es i v) i ≡ remove es i
remove-set [] i v = refl
remove-set (e ∷ es) zero v = refl
remove-set (e ∷ es) (suc i) v = ap (λ rest. e ∷ rest) (remove-set es i v)

pub length-set : {K X : Type 0} (es : List (K × X)) (i : ℕ) (v : X) → length (set_value_at es i v) ≡ length es
length-set [] i v = refl
length-set (e ∷ es) zero v = refl
length-set (e ∷ es) (suc i) v = ap suc (length-set es i v)

refused_on : {X Y : Type 0} (f : X → Y) (r : Result X MapFault) (fault : MapFault) → IsRefusedBy r fault → IsRefusedBy (map_ok f r) fault
refused_on f r Fault.OutOfMemory h = tt
refused_on f r Fault.Exists h = ap (map_ok f) h
refused_on f r Fault.Plain h = ap (map_ok f) h
refused_on f r Fault.HasAddresses h = ap (map_ok f) h
refused_on f r Fault.Full h = ap (map_ok f) h

-- an entry that is there
module _ (ds : Domains) (d : Domain) (i : ℕ) (r : Rule) (there : position (same_domain d) (keys_of ds) ≡ Some i) (is : slice_get (values_of ds) i ≡ Some r) where
  rule_is : rule_of ds d ≡ Some r
  rule_is = lookup_some (same_domain d) ds i (sym (position-keys (same_domain d) ds) ∙ there) ∙ sym (slice_get-map (λ e. e.1) ds i) ∙ is

  added_is : (n : Option AddressBlock) (p : Protocol) → added ds d n p ≡ map_ok (insert_entry same_domain ds d) (fuller r n p)
  unfolding added
  added_is n p = ap (λ o. elim o as (λ _. Result Domains MapFault) [
    | None ↦ if nat_lt (length ds) 256 then Ok (ds ++ (d, first_rule n p) ∷ []) else Err Fault.Full
    | Some rule ↦ map_ok (insert_entry same_domain ds d) (fuller rule n p)
  ]) rule_is

  pub added_ok : (n : Option AddressBlock) (p : Protocol) (w : Rule) → fuller r n p ≡ Ok w → added ds d n p ≡ Ok (set_value_at ds i w)
  added_ok n p w e = added_is n p ∙ ap (map_ok (insert_entry same_domain ds d)) e ∙ ap Ok (insert-place same_domain d w ds i there)

  pub added_refused : (n : Option AddressBlock) (p : Protocol) (fault : MapFault) → IsRefusedBy (fuller r n p) fault → IsRefusedBy (added ds d n p) fault
  added_refused n p fault h = rw (added_is n p) (refused_on (insert_entry same_domain ds d) (fuller r n p) fault h)

  gone : remove_entry (same_domain d) ds ≡ remove ds i
  gone = removed (same_domain d) ds i (sym (position-keys (same_domain d) ds) ∙ there)

  deleted_is : (n : AddressBlock) → deleted ds d (Some n) ≡ option_map (with_addresses ds d) (fewer r n)
  unfolding deleted
  deleted_is n = ap (λ o. option_map (with_addresses ds d) (option_and_then (λ rule. fewer rule n) o)) rule_is

  pub deleted_none : (n : AddressBlock) → fewer r n ≡ None → deleted ds d (Some n) ≡ None
  deleted_none n e = deleted_is n ∙ ap (option_map (with_addresses ds d)) e

  emptied : (addresses : List (AddressBlock × Protocol)) → 0 ≡ length addresses → with_addresses ds d addresses ≡ remove ds i
  emptied [] e = gone
  emptied (a ∷ others) e = absurd (omega (arith, e))

  kept : (addresses : List (AddressBlock × Protocol)) → 0 < length addresses → with_addresses ds d addresses ≡ set_value_at ds i (Addresses addresses)
  kept [] lt = absurd (omega arith)
  kept (a ∷ others) lt = insert-place same_domain d (Addresses (a ∷ others)) ds i there

  pub deleted_last : (n : AddressBlock) (new : Rule) (v : Rule) → LeavesOf r n new 0 → deleted ds d (Some n) ≡ Some (remove (set_value_at ds i v) i)
  deleted_last n new v h = deleted_is n ∙ ap (option_map (with_addresses ds d)) h.fewer_is ∙ ap Some (emptied h.addresses h.count ∙ sym (remove-set ds i v))

  pub deleted_one : (n : AddressBlock) (new : Rule) (left : ℕ) → LeavesOf r n new left → 0 < left → deleted ds d (Some n) ≡ Some (set_value_at ds i new)
  deleted_one n new left h lt =
      deleted_is n ∙ ap (option_map (with_addresses ds d)) h.fewer_is ∙ ap Some (kept h.addresses (omega (arith, h.count)) ∙ ap (set_value_at ds i) (sym h.new_is))

-- no entry is there
module _ (ds : Domains) (d : Domain) (absent : position (same_domain d) (keys_of ds) ≡ None) where
  none_there : rule_of ds d ≡ None
  none_there = lookup_none (same_domain d) ds (sym (position-keys (same_domain d) ds) ∙ absent)

  new_is : (n : Option AddressBlock) (p : Protocol) → added ds d n p ≡ (if nat_lt (length ds) 256 then Ok (ds ++ (d, first_rule n p) ∷ []) else Err Fault.Full)
  unfolding added
  new_is n p = ap (λ o. elim o as (λ _. Result Domains MapFault) [
    | None ↦ if nat_lt (length ds) 256 then Ok (ds ++ (d, first_rule n p) ∷ []) else Err Fault.Full
    | Some rule ↦ map_ok (insert_entry same_domain ds d) (fuller rule n p)
  ]) none_there

  pub new_full : (n : Option AddressBlock) (p : Protocol) → 256 ≤ length ds → added ds d n p ≡ Err Fault.Full
  new_full n p le = new_is n p ∙ cond-false (nat_lt (length ds) 256) _ _ (le-ltb (length ds) 256 le)

  pub new_added : (n : Option AddressBlock) (p : Protocol) (w : Rule) → length ds < 256 → w ≡ first_rule n p → added ds d n p ≡ Ok (insert_entry same_domain ds d w)
  new_added n p w lt e =
      let q = λ (x : Domain × Rule). same_domain d x.0 in
      new_is n p ∙ cond-true (nat_lt (length ds) 256) _ _ (lt-ltb (length ds) 256 lt)
      ∙ ap Ok (ap (λ z. ds ++ (d, z) ∷ []) (sym e) ∙ sym (insert-absent same_domain d w ds (ltb-false (position_or_len q ds) (length ds) (no_place _ (position_or_len q ds) (sym (position-keys (same_domain d) ds) ∙ absent)))))

  pub length-new : (w : Rule) → length (insert_entry same_domain ds d w) ≡ length ds + 1
  length-new w =
      let q = λ (x : Domain × Rule). same_domain d x.0 in
      ap length (insert-absent same_domain d w ds (ltb-false (position_or_len q ds) (length ds) (no_place _ (position_or_len q ds) (sym (position-keys (same_domain d) ds) ∙ absent)))) ∙ length-append ds ((d, w) ∷ [])

pub deleted_at : (ds : Domains) (d : Domain) (i : ℕ) → position (same_domain d) (keys_of ds) ≡ Some i → is_some (rule_of ds d) ≡ true → deleted ds d None ≡ Some (remove ds i)
unfolding deleted
deleted_at ds d i there some =
    some_left (rule_of ds d) (remove_entry (same_domain d) ds) some ∙ ap Some (removed (same_domain d) ds i (sym (position-keys (same_domain d) ds) ∙ there))

pub no_entry : (ds : Domains) (d : Domain) → position (same_domain d) (keys_of ds) ≡ None → deleted ds d None ≡ None
unfolding deleted
no_entry ds d absent = ap (option_map (λ rule. remove_entry (same_domain d) ds)) (none_there ds d absent)

pub no_entry_for : (ds : Domains) (d : Domain) (n : AddressBlock) → position (same_domain d) (keys_of ds) ≡ None → deleted ds d (Some n) ≡ None
unfolding deleted
no_entry_for ds d n absent = ap (λ o. option_map (with_addresses ds d) (option_and_then (λ rule. fewer rule n) o)) (none_there ds d absent)

-- lines

abbrev pub entry_lines : Domain × Rule → List Line
entry_lines entry = map (λ line. (entry.0, line.0, line.1)) (rule_lines entry.1)

long : (e : Domain × Rule) → length (entry_lines e) ≡ length (rule_lines e.1)
long e = length-map (rule_lines e.1) (λ (line : Option AddressBlock × Protocol). (e.0, line.0, line.1))

pub lines_step : (ds : Domains) (i : ℕ) (e : Domain × Rule) → slice_get ds i ≡ Some e → length (lines_of (take (suc i) ds)) ≡ length (lines_of (take i ds)) + length (rule_lines e.1)
unfolding lines_of
lines_step [] i e is = absurd (none-some e is)
lines_step (x ∷ xs) zero e is =
    length-append (entry_lines x) [] ∙ omega (arith, long x, ap (λ (z : Domain × Rule). length (rule_lines z.1)) (same_Some x e is))
lines_step (x ∷ xs) (suc i) e is =
    length-append (entry_lines x) (lines_of (take (suc i) xs)) ∙ omega (arith, lines_step xs i e is, length-append (entry_lines x) (lines_of (take i xs)))

pub drop_step : {X : Type 0} (xs : List X) (i : ℕ) (x : X) → slice_get xs i ≡ Some x → drop i xs ≡ x ∷ drop (suc i) xs
drop_step [] i x is = absurd (none-some x is)
drop_step (y ∷ ys) zero x is = ap (λ z. z ∷ ys) (same_Some y x is)
drop_step (y ∷ ys) (suc i) x is = drop_step ys i x is

pub get-front : {X : Type 0} (xs ys : List X) (k : ℕ) → k < length xs → slice_get (xs ++ ys) k ≡ slice_get xs k
get-front [] ys k lt = absurd (omega arith)
get-front (x ∷ xs) ys zero lt = refl
get-front (x ∷ xs) ys (suc k) lt = get-front xs ys k (omega arith)

pub get-back : {X : Type 0} (xs ys : List X) (k : ℕ) → length xs ≤ k → slice_get (xs ++ ys) k ≡ slice_get ys (k - length xs)
get-back [] ys k le = ap (slice_get ys) (omega arith)
get-back (x ∷ xs) ys zero le = absurd (omega arith)
get-back (x ∷ xs) ys (suc k) le = get-back xs ys k (omega arith) ∙ ap (slice_get ys) (omega arith)

-- a line within the entry at i
pub line_here : (ds : Domains) (i k : ℕ) (e : Domain × Rule) (l : Option AddressBlock × Protocol) → slice_get ds i ≡ Some e → slice_get (rule_lines e.1) k ≡ Some l
    → slice_get (lines_of (drop i ds)) k ≡ Some (e.0, l.0, l.1)
unfolding lines_of
line_here ds i k e l is at =
    let within : k < length (entry_lines e) = omega (arith, slice_get_within (rule_lines e.1) k l at, long e) in
    ap (λ es. slice_get (lines_of es) k) (drop_step ds i e is) ∙ get-front (entry_lines e) (lines_of (drop (suc i) ds)) k within
    ∙ slice_get-map (λ line. (e.0, line.0, line.1)) (rule_lines e.1) k ∙ ap (option_map (λ line. (e.0, line.0, line.1))) at

-- a line behind it
pub line_behind : (ds : Domains) (i k : ℕ) (e : Domain × Rule) → slice_get ds i ≡ Some e → length (rule_lines e.1) ≤ k
    → slice_get (lines_of (drop i ds)) k ≡ slice_get (lines_of (drop (suc i) ds)) (k - length (rule_lines e.1))
unfolding lines_of
line_behind ds i k e is le =
    ap (λ es. slice_get (lines_of es) k) (drop_step ds i e is) ∙ get-back (entry_lines e) (lines_of (drop (suc i) ds)) k (omega (arith, long e, le))
    ∙ ap (λ n. slice_get (lines_of (drop (suc i) ds)) (k - n)) (long e)

pub lines_left : (ds : Domains) (i : ℕ) (e : Domain × Rule) → slice_get ds i ≡ Some e → length (lines_of (drop i ds)) ≡ length (rule_lines e.1) + length (lines_of (drop (suc i) ds))
unfolding lines_of
lines_left ds i e is =
    ap (λ es. length (lines_of es)) (drop_step ds i e is) ∙ length-append (entry_lines e) (lines_of (drop (suc i) ds)) ∙ ap (λ n. n + length (lines_of (drop (suc i) ds))) (long e)

-- copying

pub same_domain-sym : (a b : Domain) → same_domain a b ≡ same_domain b a
same_domain-sym None None = refl
same_domain-sym None (Some b) = refl
same_domain-sym (Some a) None = refl
same_domain-sym (Some a) (Some b) = one_answer (bytes_eq a b) (bytes_eq b a) (bytes_eq-Decides a b) (λ e. sym ((bytes_eq-Decides b a).0 e), λ e. (bytes_eq-Decides b a).1 (sym e))

pub all_at : {X : Type 0} (P : Domain → Type 0) (es : List (Domain × X)) (i : ℕ) (d : Domain) (r : X) → AllByRecursion P (keys_of es) → slice_get es i ≡ Some (d, r) → P d
all_at P [] i d r h e = absurd (none-some (d, r) e)
all_at {X} P (x ∷ xs) zero d r h e = subst (λ (z : Domain × X). P z.0) (same_Some x (d, r) e) h.0
all_at P (x ∷ xs) (suc i) d r h e = all_at P xs i d r h.1 e

absent_before : (ds : Domains) (i : ℕ) (d : Domain) (r : Rule) → IsDistinct same_domain (keys_of ds) → slice_get ds i ≡ Some (d, r)
    → length (take i ds) ≤ position_or_len (λ (e : Domain × Rule). same_domain d e.0) (take i ds)
unfolding IsDistinct
absent_before [] i d r unique is = absurd (none-some (d, r) is)
absent_before (x ∷ xs) zero d r unique is = omega arith
absent_before (x ∷ xs) (suc i) d r unique is =
    let other : same_domain d x.0 ≡ false = same_domain-sym d x.0 ∙ all_at (λ y. same_domain x.0 y ≡ false) xs i d r unique.0 is in
    rw other (omega (arith, absent_before xs i d r unique.1 is))

take_step : {X : Type 0} (xs : List X) (i : ℕ) (x : X) → slice_get xs i ≡ Some x → take (suc i) xs ≡ take i xs ++ x ∷ []
take_step [] i x is = absurd (none-some x is)
take_step (y ∷ ys) zero x is = ap (λ z. z ∷ []) (same_Some y x is)
take_step (y ∷ ys) (suc i) x is = ap (λ rest. y ∷ rest) (take_step ys i x is)

pub copied_on : (ds : Domains) (i : ℕ) (d : Domain) (r : Rule) → IsDistinct same_domain (keys_of ds) → slice_get ds i ≡ Some (d, r) → insert_entry same_domain (take i ds) d r ≡ take (suc i) ds
copied_on ds i d r unique is =
    insert-absent same_domain d r (take i ds) (absent_before ds i d r unique is) ∙ sym (take_step ds i (d, r) is)
