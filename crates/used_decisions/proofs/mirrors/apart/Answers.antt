use Rattle.std.proofs.lemmas.Bool.{both_ways}
use Rattle.tt_infer.specs.declared.fact.Fact.TheVariants.{FirstRound, LateRound}
use Rattle.used_decisions.proofs.MirrorsRead.{is_apart, rounds_apart}
use Rattle.used_decisions.proofs.Tells.{fact_more, more_none, more_twice, read_more}
use Rattle.used_decisions.proofs.mirrors.apart.Goals as goal

pub returns-then-rounds_count : goal.returns-then-rounds_count
returns-then-rounds_count c =
    let path = c.args.path.now in
    let given = c.args.given.now in
    let old = c.args.uses.now in
    let one = c.rounds.new.uses in
    let two = c.rounds-then-rounds_count.new.uses in record {
      more = more_twice old one two c.rounds.ensures.more c.rounds-then-rounds_count.ensures.more;
      told = λ read first second.
          let wide = read_more path old one c.rounds.ensures.more read in
          rounds_apart path given two c.args.m c.args.k
          (fact_more path one two c.rounds-then-rounds_count.ensures.more given (FirstRound c.args.k) (c.rounds.ensures.first read first))
          (fact_more path one two c.rounds-then-rounds_count.ensures.more given (LateRound c.args.k) (c.rounds.ensures.late read first))
          (c.rounds-then-rounds_count.ensures.first wide second)
          (c.rounds-then-rounds_count.ensures.late wide second);
    }

pub returns-else-rounds_count : goal.returns-else-rounds_count
returns-else-rounds_count c = record {
  more = more_none c.args.uses.now;
  told =
      λ read first second f known fact tells. absurd (both_ways _ c.if-rounds_count.false (c.rounds_count.ensures f known first second
      (is_apart f c.args.m c.args.k fact tells)));
}
