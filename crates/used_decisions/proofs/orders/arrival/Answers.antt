use Rattle.ttp_model.specs.Instance.{source_of}
use Rattle.tt_infer.specs.declared.limit.Limit.TheVariants.{GreatestSlot}
use Rattle.used_decisions.proofs.Tells.{limit_more, more_twice, read_more}
use Rattle.used_decisions.proofs.orders.arrival.Goals as goal

pub returns : goal.returns
returns c =
    let path = c.args.path.now in
    let one = c.greatest_slot.new.uses in
    let two = c.greatest.new.uses in record {
      more = more_twice c.args.uses.now one two c.greatest_slot.ensures.more c.greatest.ensures.more;
      told = λ read there. record {
        slot = limit_more path one two c.greatest.ensures.more (GreatestSlot (source_of path.instance c.args.m)) (c.greatest_slot.ensures.told there);
        late = c.greatest.ensures.told (read_more path c.args.uses.now one c.greatest_slot.ensures.more read) there;
      };
    }
