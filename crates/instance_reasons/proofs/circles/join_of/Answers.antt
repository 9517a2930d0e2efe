use Rattle.ttp_model.specs.Parts.{instance_of}
use Rattle.instance_reasons.proofs.Walking.{by_message}
use Rattle.instance_reasons.proofs.circles.join_of.Goals as goal

pub first_message-m-requires : goal.first_message-m-requires
first_message-m-requires c = by_message (instance_of c.args.parts.now) c.args.p c.args.q c.requires c.in-None.ensures

pub name_of-requires : goal.name_of-requires
name_of-requires c = c.first_message-m.ensures.0

pub returns-in-None : goal.returns-in-None
returns-in-None c = (c.in-None.ensures, c.first_message-m.result, c.first_message-m.ensures, c.name_of.ensures)
