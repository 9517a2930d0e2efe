use Rattle.std.proofs.Common.{refl}
use Rattle.evidence.proofs.JustValid.{just_valid, just_by_the_deadline, just_apart}
use Rattle.evidence.proofs.model.edges.plan_that_just_keeps_the_rules.Goals as goal

pub returns : goal.returns
returns c = record { valid = just_valid; delay = refl; deadline = just_by_the_deadline; apart = just_apart }
