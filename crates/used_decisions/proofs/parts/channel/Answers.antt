use Rattle.std.proofs.Common.{length}
use Rattle.used_decisions.specs.Turns.{fixes_any}
use Rattle.used_decisions.proofs.Marked.{told_on_channel}
use Rattle.used_decisions.proofs.parts.channel.Goals as goal

pub returns : goal.returns
returns c = record {
  more = c.channel-2.ensures.more;
  told =
      λ read there. told_on_channel c.channel-2.new.self.levels (length c.args.uses.now.levels) (fixes_any c.args.m) c.args.path.now.turns read.room
      c.channel.result (c.channel.ensures there) c.channel-2.ensures.told;
}
