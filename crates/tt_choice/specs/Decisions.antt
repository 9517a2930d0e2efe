-- Decisions: when one is open, what several make of a choice, and what takes one back. Own profile.
use Rattle.std.specs.Prelude.{◌≡◌, ℕ, ◌-◌, ◌<◌, ◌≤◌, List, [], ◌∷◌, ◌++◌, length, slice_set, take, map, None}
use Rattle.std.specs.List.{range_with_len}
use Rattle.ttp_model.specs.declared.step.Kind.{Kind}
use Rattle.ttp_model.specs.Instance.{Instance, node_at}
use Rattle.ttp_model.specs.Limits.{both_channels}
use Rattle.tt_choice.specs.declared.decision.Decision.{Decision}
use Rattle.tt_choice.specs.declared.decision.Decision.TheVariants as decided
use Rattle.tt_choice.specs.declared.reversal.Reversal.{Reversal}
use Rattle.tt_choice.specs.declared.reversal.Reversal.TheVariants.{Unplace, Free, Unorder, Most, Least, FreeChannel}
use Rattle.tt_choice.specs.Precedence.{take_back}
use Rattle.tt_choice.specs.Choice.{Choice, least_round, greatest_round}
use Rattle.tt_choice.specs.Changes.{at_most, at_least, IsUnplaced, IsUnorderedPair, CutsRange, IsFreeChannel}
use Rattle.tt_choice.specs.Kinds.{IsFreeNode, children}
use Rattle.tt_choice.specs.Branches.{root_choice}
pub use Rattle.tt_choice.specs.Changes.{choice_after}
pub use Rattle.tt_choice.specs.Kinds.{decision_of}

-- an option of a node whose capacity is free
pub record IsFreeOption (i : Instance) (c : Choice) (n k : ℕ) : Type 0 where
  pub free : IsFreeNode i c n
  pub option : k < length (node_at i n).capacities

-- a round that takes the first rounds from a message's range, and leaves some
pub record CutsFirst (i : Instance) (c : Choice) (m r : ℕ) : Type 0 where
  pub message : m < length i.messages
  pub above : least_round c m < r
  pub to : r ≤ greatest_round c m

-- a channel, or both, of a message whose channel isn't fixed
pub record IsFreeOnChannel (i : Instance) (c : Choice) (m k : ℕ) : Type 0 where
  pub free : IsFreeChannel i c m
  pub known : k ≤ both_channels

-- what is decided is there and isn't decided yet
abbrev pub IsOpenDecision : Instance → Choice → Decision → Type 0
IsOpenDecision i c (decided.Place n) = IsUnplaced i c n
IsOpenDecision i c (decided.Cap n k) = IsFreeOption i c n k
IsOpenDecision i c (decided.Before p q) = IsUnorderedPair i c p q
IsOpenDecision i c (decided.AtMost m r) = CutsRange i c m r
IsOpenDecision i c (decided.AtLeast m r) = CutsFirst i c m r
IsOpenDecision i c (decided.Channel m k) = IsFreeOnChannel i c m k

-- the choice with all of these decisions more, one after another
abbrev pub choice_after_all : Instance → Choice → List Decision → Choice
choice_after_all i c [] = c
choice_after_all i c (d ∷ ds) = choice_after_all i (choice_after i c d) ds

-- each is open when its turn comes
abbrev pub AreOpenDecisions : Instance → Choice → List Decision → Type 0
AreOpenDecisions i c [] = Unit {0}
AreOpenDecisions i c (d ∷ ds) = IsOpenDecision i c d × AreOpenDecisions i (choice_after i c d) ds

-- the choice that decisions make of the one in which nothing is chosen
abbrev pub chosen : Instance → List Decision → Choice
chosen i decisions = choice_after_all i (root_choice i) decisions

-- what takes a decision back: it has what stood before, where the decision doesn't tell
abbrev pub reversal_of : Choice → Decision → Reversal
reversal_of c (decided.Place n) = Unplace
reversal_of c (decided.Cap n k) = Free n
reversal_of c (decided.Before p q) = Unorder p q c.unordered
reversal_of c (decided.AtMost m r) = Most m (greatest_round c m)
reversal_of c (decided.AtLeast m r) = Least m (least_round c m)
reversal_of c (decided.Channel m k) = FreeChannel m

-- the choice with one decision more, which is kept after those that are
abbrev pub kept_after : Instance → Choice → Decision → Choice
kept_after i c d = record (choice_after i c d) { kept = c.kept ++ reversal_of c d ∷ [] }

-- the choice with one decision less, of which none is kept
abbrev pub taken_back : Choice → Reversal → Choice
taken_back c Unplace = record c { prefix = take (length c.prefix - 1) c.prefix; kept = [] }
taken_back c (Free n) = record c { fixed = slice_set c.fixed n None; kept = [] }
taken_back c (Unorder p q unordered) = record c { before = take_back c.before p q; unordered = unordered; kept = [] }
taken_back c (Most m r) = at_most c m r
taken_back c (Least m r) = at_least c m r
taken_back c (FreeChannel m) = record c { channels = slice_set c.channels m None; kept = [] }

-- what takes the last kept decision back makes this of a choice: those before it are still kept
abbrev pub IsUndone : Choice → Choice → Type 0
IsUndone old new = (kept : List Reversal) (reversal : Reversal) → old.kept ≡ kept ++ reversal ∷ []
    → new ≡ record (taken_back old reversal) { kept = kept }

-- the decisions of a branch, one for each child, in order
abbrev pub decisions_of : Instance → Choice → Kind → List Decision
decisions_of i c kind = map (decision_of i c kind) (range_with_len 0 (children i c kind))
