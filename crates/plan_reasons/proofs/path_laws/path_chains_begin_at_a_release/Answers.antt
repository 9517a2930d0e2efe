use Rattle.std.proofs.Common.{Some}
use Rattle.plan_reasons.proofs.PathLeading.{last_one, released}
use Rattle.plan_reasons.proofs.path_laws.path_chains_begin_at_a_release.Goals as goal

pub returns : goal.returns
returns c = λ i later part chain.
    let one = last_one i chain.ends later (Some chain.last) part chain.leads_back in
    released i chain.ends part one.0 one.1
