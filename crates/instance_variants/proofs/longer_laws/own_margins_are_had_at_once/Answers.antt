use Rattle.instance_variants.proofs.LongerRuns.{allowed_own, own_allows}
use Rattle.instance_variants.proofs.longer_laws.own_margins_are_had_at_once.Goals as goal

pub returns : goal.returns
returns c = λ i ps scale plan x top wi v low. (own_allows i ps scale wi plan v top x low, allowed_own i ps scale wi plan v top x)
