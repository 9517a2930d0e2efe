use Rattle.std.proofs.Common.{ap, arith}
use Rattle.ttp_model.specs.declared.parts.Cluster.{Cluster}
use Rattle.earliest_starts.proofs.loads.overfull_frame.Goals as goal

pub returns-in-Some-clause-found : goal.returns-in-Some-clause-found
returns-in-Some-clause-found c =
    let channels = ap (λ (k : Cluster). k.channels) c.cluster.ensures.value in
    (omega (arith, c.loop-k-test.true, channels), rw c.in-Some.is at c.in_ok-r.ensures.found)

pub returns-clause-none : goal.returns-clause-none
returns-clause-none c =
    let channels = ap (λ (k : Cluster). k.channels) c.cluster.ensures.value in
    λ k r within. c.loop-k.invariant k r (omega (arith, within, channels, c.loop-k-test.false))
