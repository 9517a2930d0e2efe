-- What is known of the branches on the way to a subtree. Only private contracts ask for it.
use Rattle.std.specs.Prelude.{◌≡◌, ℕ, ◌<◌, ◌≤◌, ◌^◌, List, [], ◌∷◌, ◌++◌, length, map, Option, IfSome, IsTrue, Bool}
use Rattle.std.specs.Global.{Vec}
use Rattle.ttp_model.specs.declared.step.Kind.{Kind}
use Rattle.ttp_model.specs.Instance.{Instance}
use Rattle.tt_choice.specs.declared.decision.Decision.{Decision}
use Rattle.tt_choice.specs.Branches.{IsBranch}
use Rattle.tt_choice.specs.Decisions.{chosen, decision_of}
use Rattle.tt_choice.specs.Kept.{Marked, keep}
use Rattle.tt_infer.specs.RuledOut.{IsRuledOut}
use Rattle.used_decisions.specs.Levels.{has_level}
use Rattle.used_decisions.specs.Marks.{KeepsLevels}
use Rattle.used_decisions.specs.Turns.{Path}
use Rattle.used_decisions.specs.Proved.{all_kept, levelled}
use Rattle.used_decisions.specs.declared.branch.OpenBranch.{OpenBranch}
use Rattle.used_decisions.specs.declared.way.Taken.{Taken}

-- an instance, the decisions that lead to the subtree at hand, and the least goal of the leaves that closed subtrees
pub record Way : Type 0 where
  pub instance : Instance
  pub decisions : List Decision
  pub goal : ℕ

-- the decisions that were taken
abbrev pub decisions_of : List Taken → List Decision
decisions_of taken = map (λ one. one.decision) taken

-- A branch that these decisions lead to. Each child in a set is proved by what leads to it and those of the decisions whose levels
-- are in another.
pub record HasClosed (i : Instance) (low : ℕ) (decisions : List Decision) (kind : Kind) (count : ℕ) (closed used : List Bool) : Type 0 where
  pub is : IsBranch i (chosen i decisions) kind count
  pub wide : length decisions ≤ length used
  pub proved : (k : ℕ) → k < count → IsTrue (has_level closed k)
      → (ms : List Marked) → KeepsLevels used (levelled 0 decisions) ms
      → IsRuledOut i low (ms ++ keep (decision_of i (chosen i decisions) kind k) ∷ [])

abbrev pub IsOpenBranch : Instance → ℕ → List Decision → OpenBranch → Type 0
IsOpenBranch i low decisions branch = HasClosed i low decisions branch.kind branch.children branch.closed branch.used

-- of each decision behind others the branch is known rightly, if it is known
abbrev pub AreBranches : Instance → ℕ → List Decision → List Taken → Type 0
AreBranches i low front [] = Unit {0}
AreBranches i low front (one ∷ more) = IfSome one.branch (IsOpenBranch i low front) × AreBranches i low (front ++ one.decision ∷ []) more

-- So is the branch that the way leads to; and no plan below the bound is left where the branch is that one of its children proves.
pub record AreKnown (i : Instance) (low : ℕ) (taken : List Taken) (ending : Option OpenBranch) (proved : Option (Vec Decision)) : Type 0 where
  pub branches : AreBranches i low [] taken
  pub ending_so : IfSome ending (IsOpenBranch i low (decisions_of taken))
  pub proved_so : IfSome proved (λ front. IsRuledOut i low (all_kept front.items))

-- the path and the reader are those of the decisions that were taken, and what is known holds at each bound up to the goal
pub record IsWay (path : Path) (reader : Instance) (taken : List Taken) (ending : Option OpenBranch) (proved : Option (Vec Decision)) (goal : ℕ) : Type 0 where
  pub same : reader ≡ path.instance
  pub turns : path.turns ≡ levelled 0 (decisions_of taken)
  pub few : length taken < 2 ^ 32
  pub known : (low : ℕ) → low ≤ goal → AreKnown path.instance low taken ending proved
