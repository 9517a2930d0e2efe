use Rattle.std.proofs.Common.{Some}
use Rattle.plan_reasons.proofs.PathLeading.{joined, neighbours}
use Rattle.plan_reasons.proofs.path_laws.parts_are_joined.Goals as goal

pub returns : goal.returns
returns c = λ i later earlier part before chain.
    let two = neighbours i chain.ends later (Some chain.last) part before earlier chain.leads_back in
    joined i chain.ends part before two.0 two.1 two.2
