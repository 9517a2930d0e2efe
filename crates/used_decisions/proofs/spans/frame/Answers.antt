use Rattle.std.proofs.lemmas.Bool.{both_ways}
use Rattle.used_decisions.proofs.SpansRead.{sending_more}
use Rattle.used_decisions.proofs.Tells.{more_none, more_twice, read_more}
use Rattle.used_decisions.proofs.spans.frame.Goals as goal

pub returns-then-may_count : goal.returns-then-may_count
returns-then-may_count c =
    let path = c.args.path.now in
    let one = c.sending.new.uses in
    let two = c.twice.new.uses in record {
      more = more_twice c.args.uses.now one two c.sending.ensures.more c.twice.ensures.more;
      told = λ read there. record {
        sending = λ f known within. sending_more path c.args.given.now one two c.args.a c.args.m c.twice.ensures.more (c.sending.ensures.told read there);
        twice = λ f known within. c.twice.ensures.told (read_more path c.args.uses.now one c.sending.ensures.more read) there;
      };
    }

pub returns-else-may_count : goal.returns-else-may_count
returns-else-may_count c = record {
  more = more_none c.args.uses.now;
  told = λ read there. record {
    sending = λ f known within. absurd (both_ways _ c.if-may_count.false (c.may_count.ensures f known there within));
    twice = λ f known within. absurd (both_ways _ c.if-may_count.false (c.may_count.ensures f known there within));
  };
}
