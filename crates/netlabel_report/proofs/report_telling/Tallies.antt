-- Counts by their places are tallies.
use Rattle.std.proofs.Common.{◌≡◌, ◌∙◌, ℕ, suc, zero, ◌+◌, ◌<◌, ◌≤◌, Bool, true, false, cond, not, List, [], ◌∷◌, ◌++◌, length, map, slice_get, Option, Some, None, is_some, refl, sym, ap, ap₂, arith, one-add, true≢false}
use Rattle.std.specs.Prelude.{◌&&◌, ◌||◌, ◌==◌, nat_lt, if◌then◌else◌}
use Rattle.std.specs.List.{list_any, position, position_or_len}
use Rattle.std.specs.Map.{lookup, keys_of, values_of}
use Rattle.std.specs.Str.{bytes_eq}
use Rattle.std.proofs.lemmas.Bool.{cond-true, cond-false, ltb-true, lt-ltb, le-ltb}
use Rattle.std.proofs.Math.Bool.{and_assoc}
use Rattle.std.proofs.lemmas.Cmp.{nat_eq_equiv, nat_list_eq_equiv}
use Rattle.std.proofs.lemmas.Map.Made.{is_some-lookup}
use Rattle.std.proofs.lemmas.List.{length-map, map-append}
use Rattle.std.proofs.lemmas.Option.{same_Some}
use Rattle.std.proofs.NetLemmas.Options.{cond_some}
use Rattle.indexmap.specs.IndexMap.{set_value_at}
use Rattle.netlabel_report.specs.contracts.report_telling.counts.DenialPlacePartialEq.TheImpl.{ghosts}
use Rattle.netlabel_report.specs.declared.report_telling.counts.DenialPlace.{DenialPlace}
use Rattle.netlabel_report.specs.declared.report_telling.counts.DenialCount.{DenialCount}
use Rattle.netlabel_report.specs.report_telling.Counts.{Tally, risen, is_tally, raised, is_counted, tallied}
use Rattle.netlabel_report.specs.inside.Tallies.{tally_at, one_more, raised_at}

abbrev Entry : Type 0
Entry = DenialPlace × DenialCount

pub none_of : {X : Type 0} (found : Option X) → false ≡ is_some found → found ≡ None
none_of None none = refl
none_of (Some x) none = absurd (true≢false (sym none))

-- a write of one more is one more
pub written_is : (es : List Entry) (at : ℕ) (denied : DenialCount) → slice_get (values_of es) at ≡ Some denied → set_value_at es at (one_more denied) ≡ raised_at es at
written_is [] at denied is = refl
written_is (e ∷ es) zero denied is = ap (λ d. (e.0, one_more d) ∷ es) (sym (same_Some e.1 denied is))
written_is (e ∷ es) (suc at) denied is = ap (λ rest. e ∷ rest) (written_is es at denied is)

-- a map compares places as tallies are told apart
same_place : (k : DenialPlace) (e : Entry) → ghosts.eq k e.0 ≡ is_tally k.reason k.hop k.node (tally_at e)
same_place k e =
    ap₂ (λ reason rest. reason && rest) (nat_eq_equiv.symm k.reason e.0.reason) (ap₂ (λ hop node. hop && node) (nat_eq_equiv.symm k.hop e.0.hop) (nat_list_eq_equiv.symm k.node e.0.node))
    ∙ sym (and_assoc (e.0.reason == k.reason) (e.0.hop == k.hop) (bytes_eq e.0.node k.node))

module _ (k : DenialPlace) where
  abbrev own : DenialPlace → Bool
  own = ghosts.eq k

  abbrev test : Tally → Bool
  test = is_tally k.reason k.hop k.node

  any_is : (es : List Entry) → list_any test (map tally_at es) ≡ list_any own (keys_of es)
  any_is [] = refl
  any_is (e ∷ es) = ap₂ (λ here later. here || later) (sym (same_place k e)) (any_is es)

  abbrev more : Tally → Tally
  more t = record { reason = t.reason; name = t.name; hop = t.hop; node = t.node; count = risen t.count }

  raised_there : (es : List Entry) → position_or_len own (keys_of es) < length es
      → raised k.reason k.hop k.node (map tally_at es) ≡ map tally_at (raised_at es (position_or_len own (keys_of es)))
  raised_there [] lt = absurd (omega (arith, lt))
  raised_there (e ∷ es) lt =
      let n = position_or_len own (keys_of es) in
      let rest = raised k.reason k.hop k.node (map tally_at es) in
      ap (λ b. if b then more (tally_at e) ∷ map tally_at es else tally_at e ∷ rest) (sym (same_place k e))
      ∙ elim (own e.0) as (λ b. cond (not b) (1 + n) 0 < suc (length es) → (if b then more (tally_at e) ∷ map tally_at es else tally_at e ∷ rest) ≡ map tally_at (raised_at (e ∷ es) (cond (not b) (1 + n) 0))) [
        | true ↦ λ bound. refl
        | false ↦ λ bound. ap (λ tallies. tally_at e ∷ tallies) (raised_there es (omega (arith, bound))) ∙ ap (λ i. map tally_at (raised_at (e ∷ es) i)) (sym (one-add n))
      ] lt

  pub raised_is : (es : List Entry) (at : ℕ) → position own (keys_of es) ≡ Some at → raised k.reason k.hop k.node (map tally_at es) ≡ map tally_at (raised_at es at)
  raised_is es at is =
      let found = cond_some (nat_lt (position_or_len own (keys_of es)) (length (keys_of es))) (position_or_len own (keys_of es)) at is in
      raised_there es (omega (arith, ltb-true (position_or_len own (keys_of es)) (length (keys_of es)) found.0, length-map es (λ (e : Entry). e.0)))
      ∙ ap (λ i. map tally_at (raised_at es i)) found.1

  -- there is a tally of the place exactly where there is an entry
  has : (es : List Entry) (b : Bool) → b ≡ is_some (lookup own es) → list_any test (map tally_at es) ≡ b
  has es b is = any_is es ∙ sym (is_some-lookup own es) ∙ sym is

  pub counted_is : (es : List Entry) (b : Bool) → b ≡ is_some (lookup own es) → is_counted k.reason k.hop k.node (map tally_at es) ≡ (b || nat_lt (length es) 4096)
  counted_is es b is = ap₂ (λ here n. here || nat_lt n 4096) (has es b is) (length-map es tally_at)

  pub tallied_there : (name : List ℕ) (es : List Entry) (at : ℕ) → true ≡ is_some (lookup own es) → position own (keys_of es) ≡ Some at
      → tallied k.reason name k.hop k.node (map tally_at es) ≡ map tally_at (raised_at es at)
  tallied_there name es at some is = cond-true _ _ _ (has es true some) ∙ raised_is es at is

  abbrev first : List ℕ → Entry
  first name = (k, record { name = name; count = 1 })

  pub tallied_new : (name : List ℕ) (es : List Entry) → false ≡ is_some (lookup own es) → length es < 4096
      → tallied k.reason name k.hop k.node (map tally_at es) ≡ map tally_at (es ++ first name ∷ [])
  tallied_new name es none less =
      cond-false _ _ _ (has es false none) ∙ cond-true _ _ _ (ap (λ n. nat_lt n 4096) (length-map es tally_at) ∙ lt-ltb (length es) 4096 less) ∙ sym (map-append tally_at es (first name ∷ []))

  pub tallied_full : (name : List ℕ) (es : List Entry) → false ≡ is_some (lookup own es) → 4096 ≤ length es
      → tallied k.reason name k.hop k.node (map tally_at es) ≡ map tally_at es
  tallied_full name es none full =
      cond-false _ _ _ (has es false none) ∙ cond-false _ _ _ (ap (λ n. nat_lt n 4096) (length-map es tally_at) ∙ le-ltb (length es) 4096 full)
