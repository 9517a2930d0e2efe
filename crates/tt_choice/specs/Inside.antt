-- When one choice stands inside another: it decides at least as much, and nothing otherwise.
use Rattle.std.specs.Prelude.{◌≡◌, ℕ, ◌<◌, ◌≤◌, length, Option, None, Some, IsTrue}
use Rattle.ttp_model.specs.Instance.{Instance}
use Rattle.tt_choice.specs.Choice.{Choice, BeginsWith, fixed_cap, fixed_channel, is_before, least_round, greatest_round}

-- a capacity or a channel that is fixed is kept; where none is, any may be fixed, or none
abbrev pub IsKeptBy : Option ℕ → Option ℕ → Type 0
IsKeptBy None other = Unit {0}
IsKeptBy (Some fixed) other = other ≡ Some fixed

-- the outer order begins the inner one, what is fixed or ordered outside is so inside, and each range
-- inside is in the range outside
pub record IsInside (i : Instance) (inner outer : Choice) : Type 0 where
  pub longer : length outer.prefix ≤ length inner.prefix
  pub prefix : BeginsWith outer.prefix inner.prefix
  pub fixed : (n : ℕ) → n < length i.nodes → IsKeptBy (fixed_cap outer n) (fixed_cap inner n)
  pub pairs : (p q : ℕ) → IsTrue (is_before outer p q) → IsTrue (is_before inner p q)
  pub from : (m : ℕ) → m < length i.messages → least_round outer m ≤ least_round inner m
  pub until : (m : ℕ) → m < length i.messages → greatest_round inner m ≤ greatest_round outer m
  pub channels : (m : ℕ) → m < length i.messages → IsKeptBy (fixed_channel outer m) (fixed_channel inner m)
