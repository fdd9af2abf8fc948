-- What callers see of a publisher, a viewer and a note, and what one look is.
use Rattle.std.specs.Prelude.{◌≡◌, ℕ, ◌≤◌, List, length}
use Rattle.core.specs.Fn.{Once}
use denote.Ref.{Bor}
use Rattle.node_tables.specs.Tables.{TableState}
use Rattle.shared_tables.specs.Plan.{PlanState, network_after}

-- the board, its plan, and the version that is published
pub record PublisherState : Type 0 where
  pub board : ℕ
  pub plan : PlanState
  pub version : ℕ

-- the board, its plan, and the version below which no look goes
pub record ViewerState : Type 0 where
  pub board : ℕ
  pub plan : PlanState
  pub seen : ℕ

-- the board of which it was told, and the version
pub record NoteState : Type 0 where
  pub board : ℕ
  pub version : ℕ

module _ {F R : Type 0} (call : Once F (ℕ × (Bor (List TableState) × Unit {0})) R) (f : F) (plan : PlanState) (seen : ℕ) where
  -- f may be called on each version from `seen` to the plan's length, with the tables of that version
  abbrev pub MayLook : Type 0
  MayLook = (version : ℕ) (network : Bor (List TableState)) → seen ≤ version → version ≤ length plan.steps → network.now ≡ network_after plan version
      → call.pre f (version, (network, tt))

  -- f was called on a version from `seen` to the plan's length, with the tables of that version, and gave this
  pub record HasLooked (version : ℕ) (given : R) : Type 0 where
    pub later : seen ≤ version
    pub within : version ≤ length plan.steps
    pub network : Bor (List TableState)
    pub shown : network.now ≡ network_after plan version
    pub gave : call.post f (version, (network, tt)) given
