-- Why the length of a list is refused: how many entries there are, may be, and are too many. Own profile.
use Rattle.std.specs.Prelude.{◌≡◌, ℕ, ◌+◌, ◌<◌, length}
use Rattle.ttp_model.specs.Limits.{most_links, most_messages, most_nodes, most_processes}
use Rattle.ttp_model.specs.declared.error.Part.{Part}
use Rattle.ttp_model.specs.declared.error.Part.TheVariants as part
use Rattle.ttp_model.specs.declared.error.Place.TheVariants.{AtMessage}
use Rattle.ttp_model.specs.Instance.{Instance}
use Rattle.ttp_model.specs.Rules.{HasReceiver}
use Rattle.instance_reasons.specs.declared.counts.NoReceiver.{NoReceiver}
use Rattle.instance_reasons.specs.declared.counts.WrongCount.{WrongCount}
use Rattle.instance_reasons.specs.declared.counts.WrongCount.TheVariants.{Empty, TooMany}
use Rattle.instance_reasons.specs.Spots.{IsSpot}

-- how many there are
abbrev pub count_of : Instance → Part → ℕ
count_of i part.Nodes = length i.nodes
count_of i part.Processes = length i.processes
count_of i part.Links = length i.links
count_of i part.Messages = length i.messages

-- and may be
abbrev pub most_of : Part → ℕ
most_of part.Nodes = most_nodes
most_of part.Processes = most_processes
most_of part.Links = most_links
most_of part.Messages = most_messages

-- so many entries of a list are more than it may have
abbrev pub AreTooMany : Part → ℕ → WrongCount → Type 0
AreTooMany list count (Empty l) = ⊥
AreTooMany list count (TooMany l entries most by) = (l ≡ list) × (entries ≡ count) × (most ≡ most_of list) × (0 < by) × (most + by ≡ entries)

-- a list has none, or too many
abbrev pub IsWrongCount : Instance → Part → WrongCount → Type 0
IsWrongCount i list (Empty l) = (l ≡ list) × (count_of i list ≡ 0)
IsWrongCount i list r = AreTooMany list (count_of i list) r

-- message m has none
pub record IsNoReceiver (i : Instance) (m : ℕ) (r : NoReceiver) : Type 0 where
  pub spot_is : IsSpot i (AtMessage m) r.spot
  pub wrong : ¬ HasReceiver i m
