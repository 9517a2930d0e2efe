use Rattle.std.proofs.Common.{arith, subst}
use Rattle.ttp_model.specs.declared.error.Place.TheVariants.{AtCluster}
use Rattle.search_workers.specs.Searching.{IsFound}
use Rattle.search_workers.proofs.Searching.{found_small}
use Rattle.planner.proofs.collecting.tell.Goals as goal

pub overflow_cast-known : goal.overflow_cast-known
overflow_cast-known c =
    let i = c.args.instance.now in
    let found = subst (IsFound i) c.in-Some.is c.requires.found in
    omega (arith, found_small i _ c.in-Some.known.delay c.nodes-nodes.ensures.instance found, (c.nodes-nodes.ensures.instance.ranges AtCluster).horizon)
