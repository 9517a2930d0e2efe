-- How a bundle is split: the instance stands before the first line `%%`, and the plan behind it.
use Rattle.std.specs.Prelude.{◌≡◌, ℕ, ◌+◌, ◌-◌, ◌<◌, ◌≤◌, List, length, take, drop, slice_index, codes, Option, None, Some, ◌≤◌}
use Rattle.std.specs.Io.KnownBytes.{Consumes}
use Rattle.command_streams.specs.declared.limits.TheConstants.{INSTANCE_LIMIT, PLAN_LIMIT}
use Rattle.command_streams.specs.declared.input.Taken.{Taken}
use Rattle.command_streams.specs.declared.input.Stop.TheVariants.{AtEnd}
use Rattle.command_streams.specs.declared.ending.Source.TheVariants as source
use Rattle.command_streams.specs.declared.ending.Fault.{Fault}
use Rattle.command_streams.specs.declared.ending.Fault.TheVariants.{NoMark, Memory, Unread}
use Rattle.command_streams.specs.declared.ending.End.{End}
use Rattle.plan_commands.specs.declared.verdict.Verified.{Verified}
use Rattle.command_streams.specs.Outcomes.{IsCommandAnswer, OnDone}
use Rattle.plan_commands.specs.Verdicts.{IsRefused, IsTold, IsValidLine, IsVerified}

-- the bytes of the line, with its end
abbrev pub mark : List ℕ
mark = codes "%%\n"

-- a line begins at this byte: it is the first, or one behind the end of a line
abbrev pub BeginsLine : List ℕ → ℕ → Type 0
BeginsLine bytes at = 0 < at → slice_index bytes (at - 1) ≡ 10

-- a line `%%` begins at this byte, and has its end
pub record IsMark (bytes : List ℕ) (at : ℕ) : Type 0 where
  pub line : BeginsLine bytes at
  pub text : take 3 (drop at bytes) ≡ mark

-- and none begins before
pub record IsFirstMark (bytes : List ℕ) (at : ℕ) : Type 0 where
  pub is : IsMark bytes at
  pub first : (earlier : ℕ) → earlier < at → ¬ IsMark bytes earlier

-- there is no such line
abbrev pub HasNoMark : List ℕ → Type 0
HasNoMark bytes = (at : ℕ) → ¬ IsMark bytes at

-- the first such line, or none
abbrev pub FindsMark : List ℕ → Option ℕ → Type 0
FindsMark bytes None = HasNoMark bytes
FindsMark bytes (Some at) = IsFirstMark bytes at

-- a bundle's instance and plan
pub record IsBundleOf (bundle instance plan : List ℕ) : Type 0 where
  pub at : ℕ
  pub first : IsFirstMark bundle at
  pub front : instance ≡ take at bundle
  pub behind : plan ≡ drop (at + 3) bundle

-- all of a bundle was taken, and each of its parts is within its limit: the instance, which is all where there is no
-- mark, and the plan
pub record IsTakenWhole (taken : Taken) : Type 0 where
  pub ended : taken.stop ≡ AtEnd
  pub instance : (at : ℕ) → IsFirstMark taken.bytes.items at → at ≤ INSTANCE_LIMIT
  pub plan : (at : ℕ) → IsFirstMark taken.bytes.items at → length (drop (at + 3) taken.bytes.items) ≤ PLAN_LIMIT
  pub alone : HasNoMark taken.bytes.items → length taken.bytes.items ≤ INSTANCE_LIMIT

-- the parts of a bundle are an instance and a valid plan of it that states its own delay
pub record IsVerifiedBundle (bundle : List ℕ) (v : Verified) : Type 0 where
  pub instance : List ℕ
  pub plan : List ℕ
  pub split : IsBundleOf bundle instance plan
  pub verified : IsVerified instance plan v

-- the parts of a bundle are at this fault
pub record IsRefusedSplit (bundle : List ℕ) (fault : Fault) : Type 0 where
  pub instance : List ℕ
  pub plan : List ℕ
  pub split : IsBundleOf bundle instance plan
  pub refused : IsRefused instance plan fault

-- why a bundle is refused: it has no line `%%`, or for one of its parts
abbrev pub IsRefusedBundle : List ℕ → Fault → Type 0
IsRefusedBundle bundle NoMark = HasNoMark bundle × (length bundle ≤ INSTANCE_LIMIT)
IsRefusedBundle bundle Memory = Unit {0}
IsRefusedBundle bundle (Unread source.Instance) = Unit {0}
IsRefusedBundle bundle fault = IsRefusedSplit bundle fault

-- the bytes of both parts and of the line between, at most
abbrev pub bundle_limit : ℕ
bundle_limit = INSTANCE_LIMIT + 3 + PLAN_LIMIT

-- no line `%%` begins within an instance's limit
abbrev pub LacksMark : List ℕ → Type 0
LacksMark bytes = (at : ℕ) → at ≤ INSTANCE_LIMIT → ¬ IsMark bytes at

-- what was taken of a bundle lacks the line, so that the instance is unread
pub record IsUnreadInstance (old new : Option (List ℕ)) : Type 0 where
  pub bytes : List ℕ
  pub taken : Consumes old new bytes
  pub lacks : LacksMark bytes

-- what `verify_bundle` answers of the bytes of a bundle, and what it writes
abbrev pub IsBundleVerdict : List ℕ → Option (List ℕ) → Option (List ℕ) → End → Type 0
IsBundleVerdict bundle = IsCommandAnswer (OnDone (IsTold (IsVerifiedBundle bundle) IsValidLine)) (IsRefusedBundle bundle)
