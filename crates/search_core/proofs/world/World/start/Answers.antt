use Rattle.std.proofs.Common.{arith, ap, ◌∙◌, ◌≡◌, ◌∷◌, []}
use Rattle.search_trees.specs.Name.{root_name}
use Rattle.search_core.specs.World.{World, idle_seat}
use Rattle.search_core.proofs.Turned.{worker_more, start_is}
use Rattle.search_core.proofs.world.World.start.Goals as goal

pub loop-preserved : goal.loop-preserved
loop-preserved c =
    rw (c.in_ok-push-2.ensures.items, c.idle.ensures, c.loop.invariant)
    (worker_more c.args.top c.loop.counter (record (idle_seat c.args.top) { deque = root_name ∷ [] }) (omega arith))

pub returns : goal.returns
returns c =
    let e : c.loop.counter ≡ c.args.workers = omega (arith, c.requires) in
    ap (λ seats. let m : World = record { best = c.args.top; seats = seats } in m)
    (c.loop.invariant ∙ rw e (start_is c.args.workers c.args.top c.requires))
