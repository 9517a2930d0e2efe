use Rattle.std.proofs.Common.{length, ap, arith}
use Rattle.earliest_starts.proofs.loads.overfull.Goals as goal

pub returns-in-Some-clause-found : goal.returns-in-Some-clause-found
returns-in-Some-clause-found c =
    let over = rw c.in-Some.is at c.in_ok-r.ensures.found in
    record {
      node = omega (arith, c.loop-n-test.true, ap length c.nodes.ensures.value);
      channel = over.0;
      over = rw (← c.requires.caps) over.1;
    }

pub returns-clause-none : goal.returns-clause-none
returns-clause-none c = λ n r k inside within. c.loop-n.invariant n r k (omega (arith, inside, ap length c.nodes.ensures.value)) within
