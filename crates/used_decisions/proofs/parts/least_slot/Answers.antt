use Rattle.ttp_model.specs.Instance.{source_of}
use Rattle.used_decisions.proofs.Tells.{least_slot_told}
use Rattle.used_decisions.proofs.parts.least_slot.Goals as goal

pub returns : goal.returns
returns c = record {
  more = c.least_slot.ensures.more;
  told = λ there.
      let i = c.args.path.now.instance in
      let is = rw c.instance.ensures at c.source-n.ensures.value in
      let inside = rw c.instance.ensures at c.source-n.ensures.inside in
      least_slot_told c.args.path.now c.least_slot.new.self c.source-n.result (source_of i c.args.m) (is there) (inside there)
      c.least_slot.ensures.capacities c.least_slot.ensures.front c.least_slot.ensures.all;
}
