-- Versions that don't fall.
use Rattle.std.proofs.Common.{ℕ, ◌≤◌, List, [], ◌∷◌, All, le_trans}
use Rattle.std.proofs.lemmas.List.Elements.{All-nil, All-cons}
use Rattle.label_flow.specs.packet_walk.Walk.{Rises}

pub rises_lower : (low' low high : ℕ) (vs : List ℕ) → low' ≤ low → Rises low high vs → Rises low' high vs
rises_lower low' low high [] down h = le_trans down h
rises_lower low' low high (v ∷ vs) down h = (le_trans down h.0, h.1)

pub rises_later : (low high : ℕ) (vs : List ℕ) → Rises low high vs → low ≤ high
rises_later low high [] h = h
rises_later low high (v ∷ vs) h = le_trans h.0 (rises_later v high vs h.1)

-- none is above the last bound
pub rises_within : (low high : ℕ) (vs : List ℕ) → Rises low high vs → All (λ v. v ≤ high) vs
rises_within low high [] h = All-nil (λ (v : ℕ). v ≤ high)
rises_within low high (v ∷ vs) h = All-cons (λ (x : ℕ). x ≤ high) v vs (rises_later v high vs h.1) (rises_within v high vs h.1)
