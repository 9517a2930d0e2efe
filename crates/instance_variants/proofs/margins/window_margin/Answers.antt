use Rattle.std.proofs.Common.{arith}
use Rattle.instance_variants.specs.Longer.{allowed_of, most_number, room}
use Rattle.instance_variants.proofs.Least.{least-le-top}
use Rattle.instance_variants.proofs.margins.window_margin.Goals as goal

pub returns-clause-bound : goal.returns-clause-bound
returns-clause-bound c =
    let i = c.args.instance.now in
    let least = least-le-top (allowed_of i c.args.processes.now c.args.scale (room i) most_number) most_number c.loop-p.p in
    omega (arith, least, c.loop-p.invariant)
