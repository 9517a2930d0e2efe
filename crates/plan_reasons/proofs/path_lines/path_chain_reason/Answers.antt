use Rattle.std.proofs.Common.{Some}
use Rattle.plan_reasons.proofs.PathLeading.{all_there}
use Rattle.plan_reasons.proofs.path_lines.path_chain_reason.Goals as goal

pub parts_of-requires : goal.parts_of-requires
parts_of-requires c =
    let chain = c.in_ok-parts.ensures in
    rw c.as_slice.ensures.value (all_there c.args.instance.now chain.ends (Some chain.last) c.in_ok-parts.parts.items chain.leads_back)
