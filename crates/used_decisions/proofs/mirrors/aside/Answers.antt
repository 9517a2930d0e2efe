use Rattle.tt_infer.specs.declared.limit.Limit.TheVariants.{Copies}
use Rattle.used_decisions.proofs.Tells.{limit_more, more_twice, read_more}
use Rattle.used_decisions.proofs.mirrors.aside.Goals as goal

pub returns : goal.returns
returns c =
    let path = c.args.path.now in
    let one = c.twice.new.uses in
    let two = c.apart.new.uses in record {
      more = more_twice c.args.uses.now one two c.twice.ensures.more c.apart.ensures.more;
      told = λ read first second. record {
        twice = limit_more path one two c.apart.ensures.more (Copies c.args.k) (c.twice.ensures.told read first);
        apart = c.apart.ensures.told (read_more path c.args.uses.now one c.twice.ensures.more read) first second;
      };
    }
