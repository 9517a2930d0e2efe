use Rattle.std.proofs.lemmas.Bool.{both_ways}
use Rattle.ttp_model.specs.Plans.{is_on}
use Rattle.used_decisions.proofs.OneChannel.{told_channel}
use Rattle.used_decisions.proofs.SpansRead.{sending_more}
use Rattle.used_decisions.proofs.Tells.{more_none, more_twice, read_more}
use Rattle.used_decisions.proofs.spans.half.Goals as goal

pub returns-then-may_count_half : goal.returns-then-may_count_half
returns-then-may_count_half c =
    let path = c.args.path.now in
    let one = c.sending.new.uses in
    let two = c.channel.new.uses in record {
      more = more_twice c.args.uses.now one two c.sending.ensures.more c.channel.ensures.more;
      told = λ read some there. record {
        sending =
            λ f known counts within. sending_more path c.args.given.now one two c.args.a c.args.m c.channel.ensures.more (c.sending.ensures.told read there);
        counted = λ f known counts within. told_channel path.instance c.args.m there path.turns read.are_open two.levels (is_on c.args.k)
            (c.channel.ensures.told (read_more path c.args.uses.now one c.sending.ensures.more read) there);
      };
    }

pub returns-else-may_count_half : goal.returns-else-may_count_half
returns-else-may_count_half c = record {
  more = more_none c.args.uses.now;
  told = λ read some there. record {
    sending = λ f known counts within. absurd (both_ways _ c.if-may_count_half.false (c.may_count_half.ensures f known there some counts within));
    counted = λ f known counts within. absurd (both_ways _ c.if-may_count_half.false (c.may_count_half.ensures f known there some counts within));
  };
}
