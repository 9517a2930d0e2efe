use Rattle.std.proofs.Common.{[], ◌∷◌}
use Rattle.evidence.proofs.Refused.{no_instance, there_and_back}
use Rattle.evidence.proofs.model.rules.linked_both_ways.Goals as goal

pub returns : goal.returns
returns c = λ p q there back. no_instance _ _ _ c.tables.view_is c.build.ensures.ok (λ w. w.acyclic (p ∷ q ∷ []) (there_and_back c.args.tables p q there back))
