use Rattle.ttp_model.specs.Lists.{EachBelow}
use Rattle.ttp_model.specs.Parts.{instance_of}
use Rattle.instance_reasons.specs.Circles.{LinkLeads}
use Rattle.instance_reasons.proofs.circles.first_link.Given as goal

abbrev pub invariant-loop-l : goal.invariant-loop-l
invariant-loop-l l = EachBelow l.l (λ k. ¬ LinkLeads (instance_of l.parts) l.p l.q k)
