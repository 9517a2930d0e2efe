use Rattle.std.proofs.Common.{ℕ, ◌==◌, sym, ◌∙◌}
use Rattle.ttp_model.specs.Limits.{both_channels}
use Rattle.used_decisions.proofs.OneChannel.{told_channel, told_no_channel}
use Rattle.used_decisions.proofs.Tells.{more_none}
use Rattle.used_decisions.proofs.spans.twice.Goals as goal

pub returns-then-is_put_on_both : goal.returns-then-is_put_on_both
returns-then-is_put_on_both c = record {
  more = c.channel.ensures.more;
  told =
      λ read there. told_channel c.args.path.now.instance c.args.m there c.args.path.now.turns read.are_open c.channel.new.uses.levels
      (λ (k : ℕ). k == both_channels) (c.channel.ensures.told read there);
}

pub returns-else-is_put_on_both : goal.returns-else-is_put_on_both
returns-else-is_put_on_both c = record {
  more = more_none c.args.uses.now;
  told =
      λ read there. told_no_channel c.args.path.now.instance c.args.m there c.args.path.now.turns read.are_open c.args.uses.now.levels
      (λ (k : ℕ). k == both_channels)
      (sym (c.is_put_on_both.ensures there) ∙ c.if-is_put_on_both.false);
}
