use Rattle.std.proofs.Common.{Option, None, ℕ, unwrap_or, length, ap, arith, ◌∙◌}
use Rattle.earliest_starts.proofs.Listed.{made_more, made_all}
use Rattle.earliest_starts.proofs.frames.fixed_caps.Goals as goal

pub loop-n-preserved : goal.loop-n-preserved
loop-n-preserved c =
    made_more (λ (fixed : Option ℕ). unwrap_or fixed 0) c.args.choice.now.fixed c.loop-n.n None c.unwrap_or.result c.loop-n.caps.items c.push.new.self.items
    (omega (arith, c.loop-n-test.true, c.requires.fixed_length, ap length c.nodes.ensures.value))
    (c.unwrap_or.ensures ∙ ap (λ (fixed : Option ℕ). unwrap_or fixed 0) c.fixed_cap.ensures) c.loop-n.invariant c.in_ok-push.ensures.items

pub returns : goal.returns
returns c =
    made_all (λ (fixed : Option ℕ). unwrap_or fixed 0) c.args.choice.now.fixed c.loop-n.n c.loop-n.caps.items
    (omega (arith, c.loop-n-test.false, c.requires.fixed_length, ap length c.nodes.ensures.value)) c.loop-n.invariant
