-- Which decisions the steps of a leaf use: what they read of the choice, and none of them wrote before. Own profile.
use Rattle.std.specs.Prelude.{ℕ, ◌<◌, ◌≤◌, ◌==◌, ◌⊎◌, List, [], ◌∷◌, length, true, IsTrue}
use Rattle.ttp_model.specs.declared.step.Step.{Step}
use Rattle.ttp_model.specs.Instance.{Instance}
use Rattle.ttp_model.specs.Limits.{both_channels}
use Rattle.ttp_model.specs.Plans.{is_on}
use Rattle.tt_choice.specs.Decisions.{chosen}
use Rattle.tt_choice.specs.Extremes.{place_of}
use Rattle.tt_choice.specs.Kept.{Marked, all_of, kept_of, last_kept, sets_least, sets_greatest, sets_order, fixes_above, fixes_below, fixes_channel}
use Rattle.sought_plans.specs.Known.{Known}
use Rattle.tt_infer.specs.Table.{IsLawful}
use Rattle.tt_infer.specs.Reads.{ReadsFact, ReadsLimit}
use Rattle.tt_infer.specs.Shared.{IsWritten}
use Rattle.tt_infer.specs.declared.fact.Fact.{Fact}
use Rattle.tt_infer.specs.declared.fact.Fact.TheVariants.{Start, End, FirstRound, LateRound, Order, Closed}
use Rattle.tt_infer.specs.declared.limit.Limit.{Limit}
use Rattle.tt_infer.specs.declared.limit.Limit.TheVariants.{Goal, LeastSlot, GreatestSlot, LeastFrame, GreatestFrame, Place, Copies, Counted}

-- the decision is kept, if there is one, that says at first how far a fact is known
abbrev pub KeepsFact : List Marked → Fact → Type 0
KeepsFact ms (Start p) = Unit {0}
KeepsFact ms (End p) = Unit {0}
KeepsFact ms (FirstRound m) = IsTrue (last_kept (sets_least m) true ms)
KeepsFact ms (LateRound m) = IsTrue (last_kept (sets_greatest m) true ms)
KeepsFact ms (Order p q) = IsTrue (last_kept (sets_order p q) true ms)
KeepsFact ms Closed = Unit {0}

-- the places are kept in front of a node, or all, and each capacity above the least option
pub record KeepsLeastSlot (i : Instance) (ms : List Marked) (n : ℕ) : Type 0 where
  pub node : n < length i.nodes
  pub frames : (v : ℕ) → v < length i.nodes → IsTrue (last_kept (fixes_above v) true ms)
  pub front : place_of n (chosen i (all_of ms)).prefix ≤ length (chosen i (kept_of ms)).prefix

-- the places are kept up to a node that is placed, and each capacity below the greatest option
pub record KeepsGreatestSlot (i : Instance) (ms : List Marked) (n : ℕ) : Type 0 where
  pub node : n < length i.nodes
  pub frames : (v : ℕ) → v < length i.nodes → IsTrue (last_kept (fixes_below i v) true ms)
  pub up_to : place_of n (chosen i (all_of ms)).prefix < length (chosen i (all_of ms)).prefix
      → place_of n (chosen i (all_of ms)).prefix < length (chosen i (kept_of ms)).prefix

-- the decisions are kept that a limit rests on
abbrev pub KeepsLimit : Instance → List Marked → Limit → Type 0
KeepsLimit i ms Goal = Unit {0}
KeepsLimit i ms (LeastSlot n) = KeepsLeastSlot i ms n
KeepsLimit i ms (GreatestSlot n) = KeepsGreatestSlot i ms n
KeepsLimit i ms (LeastFrame n) = IsTrue (last_kept (fixes_above n) true ms)
KeepsLimit i ms (GreatestFrame n) = IsTrue (last_kept (fixes_below i n) true ms)
KeepsLimit i ms (Place v) = place_of v (chosen i (all_of ms)).prefix < length (chosen i (kept_of ms)).prefix
KeepsLimit i ms (Copies m) = IsTrue (last_kept (fixes_channel (λ k. k == both_channels) m) true ms)
KeepsLimit i ms (Counted m k) = IsTrue (last_kept (fixes_channel (is_on k) m) true ms)

-- Steps that are taken at the choice that all decisions make, behind others: each decision that they use is kept.
abbrev pub UseKept : Instance → List Marked → ℕ → Known → List Step → List Step → Type 0
UseKept i ms goal f before [] = Unit {0}
UseKept i ms goal f before (step ∷ steps) =
    ((fact : Fact) → ReadsFact i (chosen i (all_of ms)) f step fact → KeepsFact ms fact ⊎ IsWritten i before fact)
    × ((limit : Limit) → ReadsLimit i (chosen i (all_of ms)) f step limit → KeepsLimit i ms limit)
    × ((next : Known) → IsLawful i (chosen i (all_of ms)) goal f step next → UseKept i ms goal next (step ∷ before) steps)
