use Rattle.evidence.proofs.PartedBundles.{split_at_line}
use Rattle.evidence.proofs.commands.bundles.mark_is_a_line.Goals as goal

pub returns : goal.returns
returns g c = split_at_line _ _ _ _ c.verify_bundle.ensures.verdict
