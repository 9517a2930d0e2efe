-- What was written is told by the end.
use Rattle.std.proofs.Common.{◌≡◌, ℕ, List, Option, None, inl, inr, refl}
use Rattle.command_streams.specs.declared.ending.End.{End}
use Rattle.command_streams.specs.declared.ending.End.TheVariants.{Refused, RefusedOf}
use Rattle.command_streams.specs.declared.ending.Fault.TheVariants.{Unwritten}
use Rattle.command_streams.specs.declared.ending.Sink.TheVariants.{Reduced}
use Rattle.command_streams.specs.declared.texts.Texts.{Texts}
use Rattle.command_streams.specs.Writing.{AreWritten, IsToldAt, IsUnreduced, IsWritingOf}

module _ (texts : Texts) (last : End) (from to before after old new : Option (List ℕ)) where
  -- all is, and there is no text of the instance
  pub none_written : texts.reduced ≡ None → AreWritten texts from to before after old new → IsWritingOf texts last from to before after old new (Refused (Unwritten Reduced))
  none_written none written = inr (none, written)

  -- the instance's writer failed
  pub part_written : IsUnreduced texts from to before after old new → IsWritingOf texts last from to before after old new (Refused (Unwritten Reduced))
  part_written part = inl part

-- all is
pub all_written : (texts : Texts) (last : End) (from to before after old new : Option (List ℕ)) → IsToldAt last
    → AreWritten texts from to before after old new → IsWritingOf texts last from to before after old new last
all_written texts (Refused fault) from to before after old new told written = absurd told
all_written texts (RefusedOf release fault) from to before after old new told written = absurd told
all_written texts end from to before after old new told written = (refl, written)
