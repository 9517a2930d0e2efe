use Rattle.ttp_model.specs.Parts.{instance_of}
use Rattle.instance_reasons.proofs.Walking.{step_leads}
use Rattle.instance_reasons.proofs.circles.circle_step.Goals as goal

pub join_of-requires : goal.join_of-requires
join_of-requires c =
    rw c.before_at-p.ensures (step_leads (instance_of c.args.parts.now) c.args.processes.now c.args.k c.requires.walk c.requires.inside)

pub returns : goal.returns
returns c = record {
  process_is = c.process_name.ensures;
  other_is = rw c.before_at-p.ensures at c.process_name-2.ensures;
  by_is = rw c.before_at-p.ensures at c.join_of.ensures;
}
