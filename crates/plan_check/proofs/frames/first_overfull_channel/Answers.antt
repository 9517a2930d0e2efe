use Rattle.std.proofs.Common.{arith, below_more, ap, sym, ◌∙◌}
use Rattle.std.proofs.lemmas.Bool.{false≢true}
use Rattle.ttp_model.specs.declared.parts.Cluster.{Cluster}
use Rattle.ttp_model.specs.Plans.{FitsOn}
use Rattle.plan_check.proofs.frames.first_overfull_channel.Goals as goal

pub returns-then-not-fits_on : goal.returns-then-not-fits_on
returns-then-not-fits_on c = record {
  within = omega (arith, c.loop-c-test.true, ap (λ (k : Cluster). k.channels) c.cluster.ensures.value);
  fails = λ fits. false≢true (sym c.if-not-fits_on.true ∙ c.fits_on.ensures.1 fits);
  holds_before = c.loop-c.invariant;
}

pub loop-c-preserved : goal.loop-c-preserved
loop-c-preserved c =
    below_more (FitsOn c.args.instance.now c.args.plan.now c.args.m) c.loop-c.c c.loop-c.invariant
    (c.fits_on.ensures.0 c.if-not-fits_on.false)
