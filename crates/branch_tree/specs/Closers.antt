-- The step that closes a complete choice without a plan, or at a goal within its plan's delay. Own profile.
use Rattle.std.specs.Prelude.{ℕ, ◌+◌, ◌==◌, if◌then◌else◌, List, [], ◌∷◌, ◌++◌, All}
use Rattle.ttp_model.specs.declared.step.Step.{Step}
use Rattle.ttp_model.specs.declared.step.Step.TheVariants.{XWindow, XRound, XCycle, XFrames, XChannel}
use Rattle.ttp_model.specs.Instance.{Instance}
use Rattle.tt_choice.specs.Choice.{Choice}
use Rattle.tt_infer.specs.Table.{IsDominance}
use Rattle.tt_infer.specs.Leaves.{ClosesLeaf}
use Rattle.earliest_starts.specs.declared.clash.Clash.{Clash}
use Rattle.earliest_starts.specs.declared.clash.Clash.TheVariants.{Cycle, Round, Window, Frame}

-- the step that closes the choice for a clash: for an overfull frame that of its one channel, where there are two
abbrev pub closer_of : Instance → Clash → Step
closer_of i (Cycle ps) = XCycle ps
closer_of i (Round m) = XRound m
closer_of i (Window p) = XWindow p
closer_of i (Frame n r k) = if i.cluster.channels == 1 then XFrames n r (r + 1) else XChannel k n r (r + 1)

-- Steps that hold of all valid plans, settled or not, lead from the first facts to where this step closes the choice at
-- the goal.
pub record IsClosedBy (i : Instance) (c : Choice) (goal : ℕ) (closer : Step) : Type 0 where
  pub steps : List Step
  pub plain : All (λ step. ¬ IsDominance step) steps
  pub closes : ClosesLeaf i c (record { goal = goal; steps = steps ++ closer ∷ [] })
