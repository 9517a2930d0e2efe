use Rattle.std.proofs.Common.{arith, subst}
use Rattle.ttp_model.specs.declared.error.Place.TheVariants.{AtCluster}
use Rattle.search_workers.specs.Searching.{IsFound}
use Rattle.search_workers.proofs.Searching.{found_small}
use Rattle.search_workers.proofs.search.limit.Goals as goal

pub overflow_cast-result : goal.overflow_cast-result
overflow_cast-result c =
    let i = c.args.instance.now in
    let found = subst (IsFound i) c.in-Some.is c.requires in
    omega (arith, found_small i _ c.in-Some.found.delay c.nodes-nodes.ensures.instance found, (c.nodes-nodes.ensures.instance.ranges AtCluster).horizon)
