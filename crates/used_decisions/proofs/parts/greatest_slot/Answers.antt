use Rattle.ttp_model.specs.Instance.{source_of}
use Rattle.used_decisions.proofs.Tells.{greatest_slot_told}
use Rattle.used_decisions.proofs.parts.greatest_slot.Goals as goal

pub returns : goal.returns
returns c = record {
  more = c.greatest_slot.ensures.more;
  told = λ there.
      let i = c.args.path.now.instance in
      let is = rw c.instance.ensures at c.source-n.ensures.value in
      let inside = rw c.instance.ensures at c.source-n.ensures.inside in
      greatest_slot_told c.args.path.now c.greatest_slot.new.self c.source-n.result (source_of i c.args.m) (is there) (inside there)
      c.greatest_slot.ensures.capacities c.greatest_slot.ensures.place;
}
