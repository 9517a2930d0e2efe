-- What a plan's text tells of channels: its version follows how many the cluster has. Own profile.
use Rattle.std.specs.Prelude.{◌≡◌, ℕ, ◌≤◌, List, [], ◌∷◌, length, replicate, All, Option, Bool, ◌==◌, if◌then◌else◌, bytes_eq, codes, find}
use Rattle.ttp_model.specs.Limits.{both_channels}
use Rattle.ttp_model.specs.Instance.{Instance}

-- whether the cluster has two channels
abbrev pub has_two_channels : Instance → Bool
has_two_channels i = i.cluster.channels == 2

-- the first line of a text: version 1 tells no channel, since there is one, and version 2 tells each message's
unfoldable pub first_line : Instance → List ℕ
first_line i = if has_two_channels i then codes "ttplan 2" else codes "ttplan 1"

-- the word for a channel's number in a plan
abbrev pub channel_word : ℕ → List ℕ
channel_word c = if c == 0 then codes "0" else if c == 1 then codes "1" else codes "both"

-- the number whose word this is
abbrev pub channel_said : List ℕ → Option ℕ
channel_said word = find (λ c. bytes_eq word (channel_word c)) (0 ∷ 1 ∷ both_channels ∷ [])

-- The channels that a text can tell: where there is one each message is on channel 0, and where there are two it is on one of them
-- or on both.
pub record CanBeTold (i : Instance) (channels : List ℕ) : Type 0 where
  pub one : i.cluster.channels ≡ 1 → channels ≡ replicate (length i.messages) 0
  pub two : i.cluster.channels ≡ 2 → All (λ c. c ≤ both_channels) channels
