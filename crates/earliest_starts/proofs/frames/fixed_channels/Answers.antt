use Rattle.std.proofs.Common.{Option, None, ℕ, unwrap_or, length, ap, arith, ◌∙◌}
use Rattle.earliest_starts.proofs.Listed.{made_more, made_all}
use Rattle.earliest_starts.proofs.frames.fixed_channels.Goals as goal

pub loop-m-preserved : goal.loop-m-preserved
loop-m-preserved c =
    made_more (λ (fixed : Option ℕ). unwrap_or fixed 0) c.args.choice.now.channels c.loop-m.m None c.unwrap_or.result c.loop-m.channels.items c.push.new.self.items
    (omega (arith, c.loop-m-test.true, c.requires.channels_length, ap length c.messages.ensures.value))
    (c.unwrap_or.ensures ∙ ap (λ (fixed : Option ℕ). unwrap_or fixed 0) c.channel.ensures) c.loop-m.invariant c.in_ok-push.ensures.items

pub returns : goal.returns
returns c =
    made_all (λ (fixed : Option ℕ). unwrap_or fixed 0) c.args.choice.now.channels c.loop-m.m c.loop-m.channels.items
    (omega (arith, c.loop-m-test.false, c.requires.channels_length, ap length c.messages.ensures.value)) c.loop-m.invariant
