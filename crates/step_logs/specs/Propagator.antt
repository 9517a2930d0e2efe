-- A propagation that goes on after decisions, each of which can be taken back.
use Rattle.std.specs.Prelude.{◌≡◌, ℕ, ◌+◌, ◌<◌, ◌≤◌, ◌⊎◌, List, [], ◌∷◌, ◌++◌, length, All, IsFalse}
use Rattle.std.specs.List.{remove}
use Rattle.ttp_model.specs.declared.plan.Plan.{Plan}
use Rattle.ttp_model.specs.Instance.{Instance}
use Rattle.ttp_model.specs.Rules.{IsInstance}
use Rattle.ttp_model.specs.Chains.{IsPathBound}
use Rattle.tt_choice.specs.declared.decision.Decision.{Decision}
use Rattle.tt_choice.specs.Choice.{Choice, IsChoice, IsComplete}
use Rattle.tt_choice.specs.Branches.{root_choice, order_pair}
use Rattle.tt_choice.specs.Decisions.{AreOpenDecisions, chosen}
use Rattle.tt_infer.specs.Known.{first_facts}
use Rattle.tt_infer.specs.Facts.{Facts}
use Rattle.step_logs.specs.Journal.{Journal, Advances}
use Rattle.tt_infer.specs.Leaves.{LeadSharply}
use Rattle.step_logs.specs.PlansBelow.{IsPlanBelow}

-- Of a choice and a goal the log leads from the first facts to what is known. Where that leaves plans, the goal is above the path
-- bound; and where besides nothing is left to choose, there is a plan below the goal.
pub record IsLog (i : Instance) (c : Choice) (goal : ℕ) (log : Journal) : Type 0 where
  pub facts : log.facts ≡ record { instance = i; choice = c; goal = goal; known = log.facts.known }
  pub choice : IsChoice i c
  pub lead : LeadSharply i c goal (first_facts i c) log.steps log.facts.known
  pub above : IsFalse log.facts.known.closed → (bound : ℕ) → IsPathBound i bound → bound < goal
  pub finds : IsComplete i c → IsFalse log.facts.known.closed → (plan : Plan) × IsPlanBelow i c goal plan

-- a log that is still to begin: the first facts
pub record Begins (i : Instance) (c : Choice) (goal : ℕ) (log : Journal) : Type 0 where
  pub facts : log.facts ≡ record { instance = i; choice = c; goal = goal; known = first_facts i c }

-- the log without steps: what is known at first of the plans of a choice below a goal
abbrev pub first_log : Instance → Choice → ℕ → Journal
first_log i c goal = record { facts = record { instance = i; choice = c; goal = goal; known = first_facts i c }; steps = [] }

-- a log that began so: its steps lead to what is known
abbrev pub FollowsFrom : Instance → Choice → ℕ → Journal → Type 0
FollowsFrom i c goal log = Advances (first_log i c goal) log

-- what was known once some decisions were made
pub record Checkpoint : Type 0 where
  pub decisions : List Decision
  pub log : Journal

-- an instance, a goal in ticks, and the decisions so far; checkpoints that are kept, and what is known now
pub record Propagator : Type 0 where
  pub instance : Instance
  pub goal : ℕ
  pub decisions : List Decision
  pub kept : List Checkpoint
  pub current : Journal

-- each of the decisions was open, and the log is one of the choice that they make
pub record IsCheckpoint (i : Instance) (goal : ℕ) (c : Checkpoint) : Type 0 where
  pub decisions : AreOpenDecisions i (root_choice i) c.decisions
  pub log : IsLog i (chosen i c.decisions) goal c.log

-- what stands, to be kept
abbrev pub checkpoint_of : Propagator → Checkpoint
checkpoint_of p = record { decisions = p.decisions; log = p.current }

-- each decision was open, and the log is one of the choice that they make; all that is kept is so too
pub record IsPropagation (p : Propagator) : Type 0 where
  pub instance : IsInstance p.instance
  pub decisions : AreOpenDecisions p.instance (root_choice p.instance) p.decisions
  pub current : IsLog p.instance (chosen p.instance p.decisions) p.goal p.current
  pub kept : All (IsCheckpoint p.instance p.goal) p.kept

-- how many checkpoints are kept at least, where there were as many
abbrev pub recent_checkpoints : ℕ
recent_checkpoints = 64

-- all are still kept, or all but one that so many came after
abbrev pub IsThinned : List Checkpoint → List Checkpoint → Type 0
IsThinned old new = (new ≡ old) ⊎ ((k : ℕ) × (k + recent_checkpoints ≤ length old) × (new ≡ remove old k))

-- nothing is decided
pub record IsStarted (i : Instance) (goal : ℕ) (p : Propagator) : Type 0 where
  pub instance : p.instance ≡ i
  pub goal_is : p.goal ≡ goal
  pub decisions : p.decisions ≡ []

-- one decision more; what was known before it is kept
pub record Decides (d : Decision) (old new : Propagator) : Type 0 where
  pub instance : new.instance ≡ old.instance
  pub goal : new.goal ≡ old.goal
  pub decisions : new.decisions ≡ old.decisions ++ d ∷ []
  pub before : List Checkpoint
  pub thinned : IsThinned old.kept before
  pub kept : new.kept ≡ before ++ checkpoint_of old ∷ []

-- what is known is again what was known at the last checkpoint, after its decisions
pub record Undoes (old new : Propagator) : Type 0 where
  pub instance : new.instance ≡ old.instance
  pub goal : new.goal ≡ old.goal
  pub kept : old.kept ≡ new.kept ++ checkpoint_of new ∷ []

-- what would be known of the plans below the goal in which one process goes before another
pub record IsSupposition (s : Propagator) (p q : ℕ) (facts : Facts) : Type 0 where
  pub instance : facts.instance ≡ s.instance
  pub choice : facts.choice ≡ order_pair s.current.facts.choice p q
  pub goal : facts.goal ≡ s.goal
