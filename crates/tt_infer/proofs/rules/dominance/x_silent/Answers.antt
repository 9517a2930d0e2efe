use Rattle.std.proofs.Common.{refl}
use Rattle.sought_plans.specs.Conclusions.{NothingLeft}
use Rattle.tt_infer.proofs.rules.dominance.x_silent.Goals as goal

pub returns : goal.returns
returns c = (
  c.requires.open,
  record {
    there = (rw (c.nodes-count.ensures.value, c.instance-instance.ensures) at c.if-u-count.false, rw (c.nodes-count.ensures.value, c.instance-instance.ensures) at c.if-v-count.false);
    premise = record {
      in_order = c.if-u-v.false;
      twins = rw c.instance-instance.ensures at (c.silent_twins.ensures.0 c.if-not-silent_twins.false);
      first = rw (c.prefix.ensures, c.choice.ensures.value) at (c.stands_first.ensures.0 c.if-not-stands_first.false);
    };
    conclusion = NothingLeft;
    concludes = refl;
    known = c.close.ensures;
  },
)
