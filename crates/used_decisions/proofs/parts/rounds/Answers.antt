use Rattle.tt_infer.specs.declared.fact.Fact.TheVariants.{FirstRound}
use Rattle.used_decisions.proofs.Tells.{fact_more, more_twice, read_more}
use Rattle.used_decisions.proofs.parts.rounds.Goals as goal

pub returns : goal.returns
returns c =
    let one = c.least.new.uses in
    let two = c.greatest.new.uses in record {
      more = more_twice c.args.uses.now one two c.least.ensures.more c.greatest.ensures.more;
      first = λ read there. fact_more c.args.path.now one two c.greatest.ensures.more c.args.given.now (FirstRound c.args.m) (c.least.ensures.told read there);
      late = λ read there. c.greatest.ensures.told (read_more c.args.path.now c.args.uses.now one c.least.ensures.more read) there;
    }
