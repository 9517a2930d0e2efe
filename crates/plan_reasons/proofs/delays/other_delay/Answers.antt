use Rattle.std.proofs.Common.{refl}
use Rattle.plan_reasons.proofs.delays.other_delay.Goals as goal

pub returns : goal.returns
returns c = record {
  stated_is = refl;
  own_is = c.delay-own.ensures.value;
  last = c.last_to_end-last.result;
  ends_last = c.last_to_end-last.ensures;
  process_is = c.process_name.ensures;
  node_is = c.place_name.ensures;
  by_is = rw c.from.ensures at c.difference_of.ensures;
}
