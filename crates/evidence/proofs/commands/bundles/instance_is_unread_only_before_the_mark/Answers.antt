use Rattle.evidence.proofs.PartedBundles.{lacks_line}
use Rattle.evidence.proofs.commands.bundles.instance_is_unread_only_before_the_mark.Goals as goal

pub returns : goal.returns
returns g c = lacks_line _ _ _ c.verify_bundle.ensures.unread
