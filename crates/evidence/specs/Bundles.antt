-- Where a bundle is parted.
use Rattle.std.specs.Prelude.{◌≡◌, ◌≢◌, ℕ, ◌-◌, ◌<◌, ◌≤◌, List, codes, drop, slice_index, take, Option}
use Rattle.std.specs.Io.KnownBytes.{Consumes}
use Rattle.command_streams.specs.Instances.{StatesSome}

-- what begins at this byte is behind the end of a line, or first
abbrev pub BeginsLine : List ℕ → ℕ → Type 0
BeginsLine bytes at = 0 < at → slice_index bytes (at - 1) ≡ 10

-- a line `%%` stands behind an instance
pub record IsSplitAtLine (bundle : List ℕ) : Type 0 where
  pub at : ℕ
  pub instance : StatesSome (take at bundle)
  pub line : BeginsLine bundle at
  pub text : take 3 (drop at bundle) ≡ codes "%%\n"

-- of a reader nothing was taken that has such a line behind at most 8,388,608 bytes
pub record LacksLine (old new : Option (List ℕ)) : Type 0 where
  pub bytes : List ℕ
  pub taken : Consumes old new bytes
  pub lacks : (at : ℕ) → at ≤ 8388608 → BeginsLine bytes at → take 3 (drop at bytes) ≢ codes "%%\n"
