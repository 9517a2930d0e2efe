use Rattle.std.proofs.Common.{length, arith, ap, sym, ◌∙◌}
use Rattle.ttp_model.specs.Moves.{is_alone_in}
use Rattle.ttp_model.proofs.TurnedFrames.{first_is}
use Rattle.tt_settle.proofs.turns.first_alone.Goals as goal

pub returns-then-is_alone_in : goal.returns-then-is_alone_in
returns-then-is_alone_in c =
    let count = ap length c.messages-count.ensures.value in
    sym (first_is (is_alone_in c.args.instance.now c.args.plan.now c.args.n c.args.r) (length c.args.instance.now.messages) c.loop-k.k (omega (arith, count, c.loop-k-test.true)) c.loop-k.invariant (λ _. sym c.is_alone_in.ensures ∙ c.if-is_alone_in.true))

pub returns : goal.returns
returns c =
    let count = ap length c.messages-count.ensures.value in
    sym (first_is (is_alone_in c.args.instance.now c.args.plan.now c.args.n c.args.r) (length c.args.instance.now.messages) (length c.messages-count.result.now) (omega (arith, count)) (λ j below. c.loop-k.invariant j (omega (arith, below, c.loop-k-test.false))) (λ below. absurd (omega (arith, below, count))))
