use Rattle.instance_variants.proofs.CutEnds.{bound_by, least_by}
use Rattle.instance_variants.proofs.cut_laws.least_delays_are_kept.Goals as goal

pub returns-clause-least : goal.returns-clause-least
returns-clause-least c = λ i ps d least are. least_by i ps d are least

pub returns-clause-bound : goal.returns-clause-bound
returns-clause-bound c = λ i ps d low are. bound_by i ps d are low
