-- Up to which bound holds what is known of subtrees that needn't be worked, and which subtree is worked?
use Rattle.std.specs.Prelude.{◌≡◌, ℕ, ◌≤◌, List, IfSome}
use Rattle.ttp_model.specs.Instance.{Instance}
use Rattle.tt_choice.specs.declared.decision.Decision.{Decision}
use Rattle.used_decisions.specs.Ways.{Way}
use Rattle.used_decisions.specs.declared.needs.Needs.{Needs}

-- it is of this instance, and holds at this bound: no leaf that closed a subtree has a lower goal
pub record HoldsAt (i : Instance) (low : ℕ) (way : Way) : Type 0 where
  pub instance : way.instance ≡ i
  pub reached : low ≤ way.goal

-- so does what is known, if anything is
abbrev pub HoldUpTo : Instance → ℕ → Needs → Type 0
HoldUpTo i low needs = IfSome needs.way (HoldsAt i low)

-- these decisions lead to the subtree that is worked
abbrev pub AreAt : Instance → List Decision → Needs → Type 0
AreAt i decisions needs = IfSome needs.way (λ (way : Way). (way.instance ≡ i) × (way.decisions ≡ decisions))
