-- Pieces of a list.
use Rattle.std.proofs.Common.{◌≡◌, ◌<◌, ◌≤◌, ℕ, zero, suc, ◌+◌, ◌-◌, ◌*◌, get_or, List, [], ◌∷◌, ◌++◌, length, take, drop, Some, refl, ap, ◌∙◌, arith}
use Rattle.std.specs.Prelude.{slice_get}
use Rattle.std.proofs.lemmas.List.{take-append-le, take_all}
use Rattle.call_report.specs.inside.Seen.{pieces_of, start_at, Reach}

pub reach_bound : (size start : ℕ) (stops : List ℕ) → Reach size start stops → size ≤ start + 16 * length stops
reach_bound size start [] reach = omega (arith, reach)
reach_bound size start (stop ∷ stops) reach = let behind = reach_bound size stop stops reach.3 in omega (arith, reach.1, behind)

pub reach_push : (size start more : ℕ) (stops : List ℕ) → Reach size start stops → more ≤ 16 → Reach (size + more) start (stops ++ (size + more) ∷ [])
reach_push size start more [] reach few = (omega (arith, reach), omega (arith, reach, few), omega arith, refl)
reach_push size start more (stop ∷ stops) reach few = (reach.0, reach.1, omega (arith, reach.2), reach_push size stop more stops reach.3 few)

pub pieces_count : (list : List ℕ) (start : ℕ) (stops : List ℕ) → length (pieces_of list start stops) ≡ length stops
pieces_count list start [] = refl
pieces_count list start (stop ∷ stops) = ap suc (pieces_count list stop stops)

drop_front : (start : ℕ) (list piece : List ℕ) → start ≤ length list → drop start (list ++ piece) ≡ drop start list ++ piece
drop_front zero list piece within = refl
drop_front (suc start) [] piece within = absurd (omega (arith, within))
drop_front (suc start) (x ∷ list) piece within = drop_front start list piece (omega (arith, within))

drop_length : (start : ℕ) (list : List ℕ) → length (drop start list) ≡ length list - start
drop_length zero list = omega arith
drop_length (suc start) [] = omega arith
drop_length (suc start) (x ∷ list) = let same : length list - start ≡ suc (length list) - suc start = omega arith in drop_length start list ∙ same

drop_whole : (list piece : List ℕ) (start : ℕ) → start ≡ length list → drop start (list ++ piece) ≡ piece
drop_whole [] piece zero is = refl
drop_whole [] piece (suc start) is = absurd (omega (arith, is))
drop_whole (x ∷ list) piece zero is = absurd (omega (arith, is))
drop_whole (x ∷ list) piece (suc start) is = drop_whole list piece start (omega (arith, is))

old_piece : (list piece : List ℕ) (start stop : ℕ) → start ≤ stop → stop ≤ length list → take (stop - start) (drop start (list ++ piece)) ≡ take (stop - start) (drop start list)
old_piece list piece start stop rises within =
    ap (take (stop - start)) (drop_front start list piece (omega (arith, rises, within)))
    ∙ take-append-le (stop - start) (drop start list) piece (omega (arith, within, drop_length start list))

new_piece : (list piece : List ℕ) (start : ℕ) → start ≡ length list → take (length list + length piece - start) (drop start (list ++ piece)) ≡ piece
new_piece list piece start is =
    ap (take (length list + length piece - start)) (drop_whole list piece start is)
    ∙ take_all (length list + length piece - start) piece (omega (arith, is))

pub pieces_push : (list piece : List ℕ) (start : ℕ) (stops : List ℕ) → Reach (length list) start stops → pieces_of (list ++ piece) start (stops ++ (length list + length piece) ∷ []) ≡ pieces_of list start stops ++ piece ∷ []
pieces_push list piece start [] reach = ap (λ p. p ∷ []) (new_piece list piece start reach)
pieces_push list piece start (stop ∷ stops) reach =
    λ i. old_piece list piece start stop reach.0 reach.2 i ∷ pieces_push list piece stop stops reach.3 i

-- the place of a piece
pub record Spans (size start stop : ℕ) : Type 0 where
  pub rises : start ≤ stop
  pub within : stop ≤ size

pub piece_spans : (size start : ℕ) (stops : List ℕ) (place : ℕ) → Reach size start stops → place < length stops → Spans size (start_at start stops place) (get_or stops place 0)
piece_spans size start [] place reach within = absurd (omega (arith, within))
piece_spans size start (stop ∷ stops) zero reach within = record { rises = reach.0; within = reach.2 }
piece_spans size start (stop ∷ stops) (suc zero) reach within = piece_spans size stop stops zero reach.3 (omega (arith, within))
piece_spans size start (stop ∷ stops) (suc (suc place)) reach within = piece_spans size stop stops (suc place) reach.3 (omega (arith, within))

pub piece_at : (list : List ℕ) (start : ℕ) (stops : List ℕ) (place : ℕ) → place < length stops
    → slice_get (pieces_of list start stops) place ≡ Some (take (get_or stops place 0 - start_at start stops place) (drop (start_at start stops place) list))
piece_at list start [] place within = absurd (omega (arith, within))
piece_at list start (stop ∷ stops) zero within = refl
piece_at list start (stop ∷ stops) (suc zero) within = piece_at list stop stops zero (omega (arith, within))
piece_at list start (stop ∷ stops) (suc (suc place)) within = piece_at list stop stops (suc place) (omega (arith, within))
