use Rattle.ttp_model.specs.Lists.{EachBelow}
use Rattle.ttp_model.specs.Parts.{instance_of}
use Rattle.instance_reasons.specs.Circles.{MessageLeads}
use Rattle.instance_reasons.proofs.circles.first_message.Given as goal

abbrev pub invariant-loop-m : goal.invariant-loop-m
invariant-loop-m l = EachBelow l.m (λ k. ¬ MessageLeads (instance_of l.parts) l.p l.q k)
