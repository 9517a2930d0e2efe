-- What an answer says of a part of a search: which leaves stay as they are, and what was worked of the others.
use Rattle.std.specs.Prelude.{◌≡◌, ℕ, ◌≤◌, List, ◌++◌, length, Option, IsPermutation}
use Rattle.ttp_model.specs.Instance.{Instance}
use Rattle.certificate.specs.declared.node.Node.{Node}
use Rattle.certificate.specs.Trees.{preorder}
use Rattle.certificate.specs.Cert.{Cert}
use Rattle.certificate.specs.Versions.{answer_version}
use Rattle.planner.specs.Begun.{AreLeavesOf}
use Rattle.used_decisions.specs.Branches.{branches}
use Rattle.search_workers.specs.Ends.{IsFar}
use Rattle.tree_check.specs.Proofs.{Proves}
use Rattle.search_workers.specs.Searching.{limit_of, IsSearching, IsWorkedOut, SearchGoesOn}
use Rattle.search_workers.specs.Task.{Task}
use Rattle.search_workers.specs.declared.aims.Aims.{Aims}
use Rattle.search_workers.specs.declared.search.Search.{Search}
use Rattle.search_workers.specs.declared.found.FoundPlan.{FoundPlan}
use Rattle.search_workers.specs.declared.outcome.Options.{Options}
use Rattle.search_workers.specs.declared.outcome.Outcome.{Outcome}
use Rattle.search_workers.specs.declared.outcome.Outcome.TheVariants.{Optimal, Infeasible, Stopped}
use Rattle.search_workers.specs.declared.outcome.Why.{Why}
use Rattle.search_workers.specs.declared.outcome.Why.TheVariants.{Budget, Memory, CalledOff, Gap, Part}
use Rattle.search_workers.specs.piece.Piece.{Piece}
use Rattle.planner.specs.Answers.{cert_of, IsBestAbove, IsCause, IsLeastGoal, Says}
use Rattle.planner.specs.Searched.{IsReason}

-- the cause of a stop: as of a whole search, or the part's leaves are done; which of them needn't be worked isn't said
abbrev pub IsPartCause : Instance → Options → (gap low : ℕ) → Option FoundPlan → Cert → Why → Type 0
IsPartCause i options gap low best cert Budget = IsCause i options gap low best cert Budget
IsPartCause i options gap low best cert Memory = IsCause i options gap low best cert Memory
IsPartCause i options gap low best cert CalledOff = IsCause i options gap low best cert CalledOff
IsPartCause i options gap low best cert Gap = IsCause i options gap low best cert Gap
IsPartCause i options gap low best cert Part = IsFar gap low best

-- The search of a part was stopped with a bound and the best plan found: these leaves stand in its tree beside the rest, which is the part's own. A leaf
-- that others are to work may be below the path bound, so nothing is said of that.
pub record IsPartStopped (i : Instance) (options : Options) (gap : ℕ) (others : List Node) (why : Why) (low : ℕ) (best : Option FoundPlan) (cert : Cert)
    : Type 0 where
  pub bound : cert.low ≡ low
  pub least : IsLeastGoal cert.tree low
  pub most : low ≤ i.cluster.horizon
  pub above : IsBestAbove i low best
  pub rest : List Node
  pub stay : IsPermutation (preorder cert.tree) (rest ++ others)
  pub cause : IsPartCause i options gap low best cert why

abbrev pub PartSays : Instance → Options → ℕ → List Node → Outcome → Type 0
PartSays i options gap others (Optimal plan ticks cert) = Says i options gap (Optimal plan ticks cert)
PartSays i options gap others (Infeasible cert) = Says i options gap (Infeasible cert)
PartSays i options gap others (Stopped why low best cert) = IsPartStopped i options gap others why low best cert

-- the answer of a part of a search, which leaves these leaves to others
pub record IsPartOutcome (i : Instance) (options : Options) (gap : ℕ) (others : List Node) (outcome : Outcome) : Type 0 where
  pub proves : Proves i (cert_of outcome)
  pub version : (cert_of outcome).version ≡ answer_version i
  pub within : branches (cert_of outcome).tree ≤ options.budget
  pub says : PartSays i options gap others outcome

-- ---- how a part ends. Only private contracts ask for it.

-- a search of a part's own tasks, beside which others are left aside, where these leaves stand
pub record IsPartSearch (i : Instance) (aims : Aims) (search : Search) (others : List Piece) : Type 0 where
  pub aside : List Task
  pub searching : IsSearching i aims search.pieces.items (aside ++ search.tasks.items) search.best
  pub low : ℕ
  pub stand : AreLeavesOf i low aside others

-- how many were worked where it ended for a reason: as of a whole search; of one that has ended as a part nothing is said
abbrev pub IsPartEnd : ℕ → List Piece → Why → Type 0
IsPartEnd budget worked Budget = IsWorkedOut budget worked Budget
IsPartEnd budget worked Memory = IsWorkedOut budget worked Memory
IsPartEnd budget worked CalledOff = IsWorkedOut budget worked CalledOff
IsPartEnd budget worked Gap = IsWorkedOut budget worked Gap
IsPartEnd budget worked Part = Unit {0}

-- what was worked of a search, of which some tasks may be left aside, and why that ended; it was called off only where a gate ends
pub record IsPartWorked (i : Instance) (aims : Aims) (budget : ℕ) (ends : Type 0) (search : Search) (worked : Search × Why) : Type 0 where
  pub searching : SearchGoesOn i aims search worked.0
  pub within : length worked.0.pieces.items ≤ budget
  pub end : IsPartEnd budget worked.0.pieces.items worked.1
  pub called_off : worked.1 ≡ CalledOff → ends
  pub no_later : limit_of i worked.0.best ≤ limit_of i search.best

abbrev pub IsPartReason : Instance → Options → ℕ → Option FoundPlan → Cert → Why → Type 0
IsPartReason i options gap best cert Budget = IsReason i options gap best cert Budget
IsPartReason i options gap best cert Memory = IsReason i options gap best cert Memory
IsPartReason i options gap best cert CalledOff = IsReason i options gap best cert CalledOff
IsPartReason i options gap best cert Gap = ⊥
IsPartReason i options gap best cert Part = Unit {0}

-- the tree of a part at its end
pub record IsPartTree (i : Instance) (options : Options) (gap : ℕ) (why : Why) (best : Option FoundPlan) (others : List Node) (cert : Cert) : Type 0 where
  pub proves : Proves i cert
  pub version : cert.version ≡ answer_version i
  pub within : branches cert.tree ≤ options.budget
  pub rest : List Node
  pub stay : IsPermutation (preorder cert.tree) (rest ++ others)
  pub reason : IsPartReason i options gap best cert why
