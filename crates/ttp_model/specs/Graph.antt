-- The process graph: which process waits for which, by links and by messages, and its cycles.
use Rattle.std.specs.Prelude.{◌≡◌, ℕ, ◌+◌, ◌-◌, ◌<◌, ◌≤◌, List, length, slice_index, Contains, ◌⊎◌}
use Rattle.ttp_model.specs.Instance.{Instance, link_at, message_at}
use Rattle.ttp_model.specs.Lists.{HasNoRepeats}

-- a link leads from p to q
pub record HasLink (i : Instance) (p q : ℕ) : Type 0 where
  pub link : ℕ
  pub is_there : link < length i.links
  pub before : (link_at i link).before ≡ p
  pub after : (link_at i link).after ≡ q

-- q receives message m
abbrev pub Receives : Instance → ℕ → ℕ → Type 0
Receives i q m = Contains (message_at i m).receivers q

-- a message of p has q as a receiver
pub record HasMessage (i : Instance) (p q : ℕ) : Type 0 where
  pub message : ℕ
  pub is_there : message < length i.messages
  pub sender : (message_at i message).sender ≡ p
  pub receiver : Contains (message_at i message).receivers q

-- q waits for p, by a link or a message
abbrev pub Leads : Instance → ℕ → ℕ → Type 0
Leads i p q = HasLink i p q ⊎ HasMessage i p q

-- each process leads to the next, and the last to the first; a process may stand twice
pub record IsClosedWalk (i : Instance) (ps : List ℕ) : Type 0 where
  pub some : 0 < length ps
  pub each : (k : ℕ) → k + 1 < length ps → Leads i (slice_index ps k) (slice_index ps (k + 1))
  pub closes : Leads i (slice_index ps (length ps - 1)) (slice_index ps 0)

-- no process waits for itself, however many lie between
abbrev pub IsAcyclic : Instance → Type 0
IsAcyclic i = (ps : List ℕ) → ¬ IsClosedWalk i ps

-- a closed walk over different processes, told from its least one on
pub record IsCycle (i : Instance) (ps : List ℕ) : Type 0 where
  pub walk : IsClosedWalk i ps
  pub once : HasNoRepeats ps
  pub least_first : (k : ℕ) → k < length ps → slice_index ps 0 ≤ slice_index ps k
