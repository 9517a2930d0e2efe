use Rattle.tt_infer.specs.declared.fact.Fact.TheVariants.{LateRound}
use Rattle.used_decisions.proofs.Tells.{fact_more, more_twice, read_more}
use Rattle.used_decisions.proofs.spans.sending.Goals as goal

pub returns : goal.returns
returns c =
    let path = c.args.path.now in
    let one = c.greatest.new.uses in
    let two = c.first_of.new.uses in record {
      more = more_twice c.args.uses.now one two c.greatest.ensures.more c.first_of.ensures.more;
      told = λ read there. record {
        late = fact_more path one two c.first_of.ensures.more c.args.given.now (LateRound c.args.m) (c.greatest.ensures.told read there);
        first = c.first_of.ensures.told (read_more path c.args.uses.now one c.greatest.ensures.more read) there;
      };
    }
