-- What of two processes is compared to tell whether they are twins.
use Rattle.std.specs.Prelude.{◌≡◌, ◌≢◌, ◌<◌, ◌⊎◌, ℕ, length, Contains}
use Rattle.ttp_model.specs.Instance.{Instance, process_at, message_at}
use Rattle.ttp_model.specs.Graph.{HasLink}

-- they are two of one node, and differ in their names alone
pub record AreLike (i : Instance) (p q : ℕ) : Type 0 where
  pub two : p ≢ q
  pub node : (process_at i p).node ≡ (process_at i q).node
  pub wcet : (process_at i p).wcet ≡ (process_at i q).wcet
  pub release : (process_at i p).release ≡ (process_at i q).release
  pub deadline : (process_at i p).deadline ≡ (process_at i q).deadline

-- what links to p links to q
pub record SharesPredecessors (i : Instance) (p q : ℕ) : Type 0 where
  pub each : (k : ℕ) → HasLink i k p → HasLink i k q

-- what p links to, q links to
pub record SharesSuccessors (i : Instance) (p q : ℕ) : Type 0 where
  pub each : (k : ℕ) → HasLink i p k → HasLink i q k

-- the same processes link to both, and both link to the same
pub record HaveSameLinks (i : Instance) (p q : ℕ) : Type 0 where
  pub predecessors : SharesPredecessors i p q
  pub predecessors_back : SharesPredecessors i q p
  pub successors : SharesSuccessors i p q
  pub successors_back : SharesSuccessors i q p

-- no link leads from one to the other
pub record AreUnlinked (i : Instance) (p q : ℕ) : Type 0 where
  pub there : ¬ HasLink i p q
  pub back : ¬ HasLink i q p

-- a process sends a message, or receives it
pub record Involves (i : Instance) (m p : ℕ) : Type 0 where
  pub one : ((message_at i m).sender ≡ p) ⊎ Contains (message_at i m).receivers p

-- a process neither sends nor receives
pub record HasNoMessages (i : Instance) (p : ℕ) : Type 0 where
  pub none : (m : ℕ) → m < length i.messages → ¬ Involves i m p

-- two processes agree as twins do
pub record Agree (i : Instance) (p q : ℕ) : Type 0 where
  pub like : AreLike i p q
  pub unlinked : AreUnlinked i p q
  pub links : HaveSameLinks i p q
  pub first : HasNoMessages i p
  pub second : HasNoMessages i q
