use Rattle.std.proofs.Common.{refl}
use Rattle.instance_variants.proofs.VariedRules.{own_windows}
use Rattle.instance_variants.proofs.VariedPlans.{own_times, timed_variant}
use Rattle.instance_variants.proofs.laws.instances_are_their_own_variants.Goals as goal

pub returns-clause-timed : goal.returns-clause-timed
returns-clause-timed c = timed_variant

pub returns-clause-same : goal.returns-clause-same
returns-clause-same c = λ i. refl

pub returns-clause-differ : goal.returns-clause-differ
returns-clause-differ c = λ i. record { all = refl; name = λ p inside. refl; node = λ p inside. refl }

pub returns-clause-windows : goal.returns-clause-windows
returns-clause-windows c = own_windows

pub returns-clause-times : goal.returns-clause-times
returns-clause-times c = own_times
