use Rattle.ttp_model.specs.Parts.{instance_of}
use Rattle.instance_reasons.proofs.Failing.{not_name}
use Rattle.instance_reasons.proofs.malformed.malformed_name.Goals as goal

pub name_fault-requires : goal.name_fault-requires
name_fault-requires c = rw (c.as_bytes-name.ensures.value, c.name_at.ensures) (not_name (instance_of c.args.parts.now) c.args.place c.requires)

pub returns : goal.returns
returns c = record {
  spot_is = c.spot_at.ensures;
  fault_is = rw (c.as_bytes-name.ensures.value, c.name_at.ensures) at c.in_ok-fault.ensures;
}
