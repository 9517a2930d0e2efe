-- A bundle that is verified is parted by a line, and one whose instance is unread lacks it.
use Rattle.std.proofs.Common.{◌≡◌, ℕ, List, Option, refl, subst}
use Rattle.command_streams.specs.declared.ending.Source.TheVariants.{Instance}
use Rattle.command_streams.specs.declared.ending.Fault.TheVariants.{Unread}
use Rattle.command_streams.specs.declared.ending.End.{End}
use Rattle.command_streams.specs.declared.ending.End.TheVariants.{Done, Refused}
use Rattle.command_streams.specs.Outcomes.{IfRefused}
use Rattle.plan_commands.specs.Bundles.{IsBundleVerdict, IsUnreadInstance}
use Rattle.evidence.specs.Bundles.{IsSplitAtLine, LacksLine}

pub split_at_line : (bundle : List ℕ) (old new : Option (List ℕ)) (end : End) → IsBundleVerdict bundle old new end → end ≡ Done → IsSplitAtLine bundle
split_at_line bundle old new end verdict done =
    let told = subst (λ e. IsBundleVerdict bundle old new e) done verdict in
    let split = told.is.is.split in
    record {
      at = split.at;
      instance = record { problem = told.is.verified.instance; has_instance = rw split.front at told.is.is.verified.has_instance };
      line = split.first.is.line;
      text = split.first.is.text;
    }

pub lacks_line : (old new : Option (List ℕ)) (end : End) → IfRefused end (λ fault. fault ≡ Unread Instance → IsUnreadInstance old new) → end ≡ Refused (Unread Instance) → LacksLine old new
lacks_line old new end unread is =
    let lacks = subst (λ e. IfRefused e (λ fault. fault ≡ Unread Instance → IsUnreadInstance old new)) is unread refl in
    record {
      bytes = lacks.bytes;
      taken = lacks.taken;
      lacks = λ at within line text. lacks.lacks at within (record { line = line; text = text });
    }
