-- Lines kept as one text with the places of their ends.
use Rattle.std.proofs.Common.{◌≡◌, ℕ, zero, suc, ◌+◌, ◌-◌, ◌<◌, ◌≤◌, List, [], ◌∷◌, ◌++◌, length, take, drop, get_or, slice_get, Some, Result, Ok, Err, refl, sym, ap, subst, ◌∙◌, arith}
use Rattle.std.specs.Prelude.{slice_range, OnOk, OnErr}
use Rattle.std.proofs.lemmas.List.{length-append, length-drop, drop-append-le, take-append-le, take_all, take_at, drop_at}
use Rattle.node_tables.specs.inside.Pieces.{pieces, AreEnds}

pub ends_reach : (from : ℕ) (ends : List ℕ) (last : ℕ) → AreEnds from ends last → from ≤ last
ends_reach from [] last are = omega (arith, are)
ends_reach from (end ∷ ends) last are = omega (arith, are.0, ends_reach end ends last are.1)

pub length-pieces : (from : ℕ) (ends text : List ℕ) → length (pieces from ends text) ≡ length ends
length-pieces from [] text = refl
length-pieces from (end ∷ ends) text = ap suc (length-pieces end ends text)

-- where a line begins and ends
pub piece_order : (from : ℕ) (ends : List ℕ) (last i : ℕ) → AreEnds from ends last → i < length ends → get_or (from ∷ ends) i 0 ≤ get_or ends i 0
piece_order from [] last i are lt = absurd (omega arith)
piece_order from (end ∷ ends) last zero are lt = are.0
piece_order from (end ∷ ends) last (suc i) are lt = piece_order end ends last i are.1 (omega (arith, lt))

pub piece_within : (from : ℕ) (ends : List ℕ) (last i : ℕ) → AreEnds from ends last → i < length ends → get_or ends i 0 ≤ last
piece_within from [] last i are lt = absurd (omega arith)
piece_within from (end ∷ ends) last zero are lt = ends_reach end ends last are.1
piece_within from (end ∷ ends) last (suc i) are lt = piece_within end ends last i are.1 (omega (arith, lt))

pub piece_at : (from : ℕ) (ends text : List ℕ) (i : ℕ) → i < length ends → slice_get (pieces from ends text) i ≡ Some (slice_range text (get_or (from ∷ ends) i 0) (get_or ends i 0))
piece_at from [] text i lt = absurd (omega arith)
piece_at from (end ∷ ends) text zero lt = refl
piece_at from (end ∷ ends) text (suc i) lt = piece_at end ends text i (omega (arith, lt))

-- ---- one more line

range_within : (text line : List ℕ) (from end : ℕ) → from ≤ end → end ≤ length text → slice_range (text ++ line) from end ≡ slice_range text from end
range_within text line from end le within =
    ap (take (end - from)) (drop-append-le from text line (omega arith))
    ∙ take-append-le (end - from) (drop from text) line (omega (arith, length-drop from text))

range_behind : (text line : List ℕ) (from end : ℕ) → from ≡ length text → end ≡ length (text ++ line) → slice_range (text ++ line) from end ≡ line
range_behind text line from end f e =
    ap (take (end - from)) (drop_at text line from (sym f)) ∙ take_all (end - from) line (omega (arith, f, e, length-append text line))

pub pieces_more : (from : ℕ) (ends text line : List ℕ) (end : ℕ) → AreEnds from ends (length text) → end ≡ length (text ++ line) → pieces from (ends ++ end ∷ []) (text ++ line) ≡ pieces from ends text ++ line ∷ []
pieces_more from [] text line last are e = ap (λ piece. piece ∷ []) (range_behind text line from last are e)
pieces_more from (end ∷ ends) text line last are e =
    λ i. range_within text line from end are.0 (ends_reach end ends (length text) are.1) i ∷ pieces_more end ends text line last are.1 e i

pub ends_more : (from : ℕ) (ends : List ℕ) (last end : ℕ) → AreEnds from ends last → last ≤ end → AreEnds from (ends ++ end ∷ []) end
ends_more from [] last end are le = (omega (arith, are), refl)
ends_more from (e ∷ ends) last end are le = (are.0, ends_more e ends last end are.1 le)

-- ---- a line that was added, or taken back for want of memory

module _ {E : Type 0} (text ends line mid new_text new_ends : List ℕ) (before : ℕ) (are : AreEnds 0 ends (length text)) (is_mid : mid ≡ text ++ line) (is_before : before ≡ length text) where
  pub line_kept : (r : Result (Unit {0}) E) → OnOk r ((new_text ≡ mid) × (new_ends ≡ ends ++ length mid ∷ [])) → OnErr r ((new_text ≡ take before mid) × (new_ends ≡ ends)) → AreEnds 0 new_ends (length new_text)
  line_kept (Ok u) ok err =
      let longer : length text ≤ length mid = omega (arith, length-append text line, ap length is_mid) in
      subst (λ es. AreEnds 0 es (length new_text)) (sym ok.1) (subst (λ t. AreEnds 0 (ends ++ length mid ∷ []) (length t)) (sym ok.0) (ends_more 0 ends (length text) (length mid) are longer))
  line_kept (Err e) ok err =
      let same : new_text ≡ text = err.0 ∙ (λ i. take (is_before i) (is_mid i)) ∙ take_at text line (length text) refl in
      subst (λ es. AreEnds 0 es (length new_text)) (sym err.1) (subst (λ t. AreEnds 0 ends (length t)) (sym same) are)

  pub line_added : (r : Result (Unit {0}) E) → OnOk r ((new_text ≡ mid) × (new_ends ≡ ends ++ length mid ∷ [])) → OnOk r (pieces 0 new_ends new_text ≡ pieces 0 ends text ++ line ∷ [])
  line_added (Ok u) ok = (λ i. pieces 0 (ok.1 i) ((ok.0 ∙ is_mid) i)) ∙ pieces_more 0 ends text line (length mid) are (ap length is_mid)
  line_added (Err e) ok = tt
