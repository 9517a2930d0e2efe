-- What settling a plan reaches, kind of move by kind of move (our own profile).
use Rattle.std.specs.Prelude.{◌≡◌, ℕ, ◌-◌, ◌<◌, ◌≤◌, Bool, IsTrue, IsFalse, List, length, slice_index}
use Rattle.ttp_model.specs.declared.plan.Plan.{Plan}
use Rattle.ttp_model.specs.Lists.{EachBelow}
use Rattle.ttp_model.specs.Instance.{Instance, message_at}
use Rattle.ttp_model.specs.Plans.{IsValid, start_of, round_of}
use Rattle.ttp_model.specs.Delays.{delay}
use Rattle.ttp_model.specs.Twins.{AreTwins, AreSilentTwins}
use Rattle.ttp_model.specs.Moves.{IsLighter, MovesLead, exchanged, leads_turned, position_of, sent, started, swapped, turned, weight}

-- process p can't start a tick earlier
abbrev pub RestsAtStart : Instance → Plan → ℕ → Type 0
RestsAtStart i plan p = 0 < start_of plan p → ¬ IsValid i (started plan p (start_of plan p - 1))

-- message m can't be sent in an earlier round
abbrev pub RestsInRound : Instance → Plan → ℕ → Type 0
RestsInRound i plan m = (r : ℕ) → r < round_of plan m → ¬ IsValid i (sent plan m r)

-- p and q aren't twins that can exchange their starts, so that p starts first
abbrev pub RestAsTwins : Instance → Plan → ℕ → ℕ → Type 0
RestAsTwins i plan p q = AreTwins i p q → start_of plan q < start_of plan p → ¬ IsValid i (swapped plan p q)

-- so it is of p and each process after it in the list
abbrev pub RestsAmongTwins : Instance → Plan → ℕ → Type 0
RestsAmongTwins i plan p = (q : ℕ) → p < q → q < length i.processes → RestAsTwins i plan p q

-- u and v aren't silent twins that can exchange their positions and capacities, so that u stands first
abbrev pub RestAsSilentTwins : Instance → Plan → ℕ → ℕ → Type 0
RestAsSilentTwins i plan u v = AreSilentTwins i u v → position_of plan v < position_of plan u → ¬ IsValid i (exchanged plan u v)

-- message m doesn't lead a turned frame whose channels can be exchanged
abbrev pub RestsOnChannel : Instance → Plan → ℕ → Type 0
RestsOnChannel i plan m = IsTrue (leads_turned i plan m) → ¬ IsValid i (turned i plan m)

-- process p can't start earlier, nor any message that it sends be sent earlier
pub record RestsWithMessages (i : Instance) (plan : Plan) (p : ℕ) : Type 0 where
  pub start : RestsAtStart i plan p
  pub rounds : EachBelow (length i.messages) (λ m. (message_at i m).sender ≡ p → RestsInRound i plan m)

-- so it is of each process that starts before a time
abbrev pub RestsBefore : Instance → ℕ → Plan → Type 0
RestsBefore i from plan = EachBelow (length i.processes) (λ p. start_of plan p < from → RestsWithMessages i plan p)

-- no process can start earlier, and no message be sent earlier
pub record RestsInTime (i : Instance) (plan : Plan) : Type 0 where
  pub starts : EachBelow (length i.processes) (RestsAtStart i plan)
  pub rounds : EachBelow (length i.messages) (RestsInRound i plan)

-- no move of any kind is left
pub record RestsWhole (i : Instance) (plan : Plan) : Type 0 where
  pub in_time : RestsInTime i plan
  pub twins : EachBelow (length i.processes) (RestsAmongTwins i plan)
  pub silent_twins : EachBelow (length i.nodes) (λ v. EachBelow v (λ u. RestAsSilentTwins i plan u v))
  pub channels : EachBelow (length i.messages) (RestsOnChannel i plan)

-- another plan, to which moves lead, is valid, ends no later and is lighter
pub record IsBetter (i : Instance) (plan better : Plan) : Type 0 where
  pub valid : IsValid i better
  pub leads : MovesLead i plan better
  pub delay : delay i better ≤ delay i plan
  pub lighter : IsLighter (weight i better) (weight i plan)

-- what comes of trying to better a plan: a better one where there was a move; the same one where there was none, and
-- then it rests
pub record IsTried (i : Instance) (plan : Plan) (Rests : Plan → Type 0) (next : Plan) (moved : Bool) : Type 0 where
  pub better : IsTrue moved → IsBetter i plan next
  pub same : IsFalse moved → next ≡ plan
  pub rests : IsFalse moved → Rests plan

-- a time is no later than each of the first starts of a list that is no earlier than another
abbrev pub IsNextStart : List ℕ → ℕ → ℕ → ℕ → Type 0
IsNextStart starts from count time = EachBelow count (λ k. from ≤ slice_index starts k → time ≤ slice_index starts k)
