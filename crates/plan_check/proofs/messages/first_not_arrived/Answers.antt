use Rattle.std.proofs.Common.{ℕ, List, length, slice_index, arith, below_more, ap, sym, ◌∙◌}
use Rattle.ttp_model.specs.declared.parts.Message.{Message}
use Rattle.ttp_model.specs.Plans.{HasArrivedEverywhere}
use Rattle.plan_check.proofs.messages.first_not_arrived.Goals as goal

pub returns-in-Some : goal.returns-in-Some
returns-in-Some c =
    let receivers = c.as_slice.ensures ∙ ap (λ (message : Message). message.receivers) c.message_at.ensures.value in
    record {
      within = omega (arith, c.loop-m-test.true, ap length c.messages-m-end.ensures.value);
      place = c.in-Some.k;
      first = c.in-Some.ensures;
      receiver = sym (ap (λ (numbers : List ℕ). slice_index numbers c.in-Some.k) receivers);
      before = c.loop-m.invariant;
    }

pub loop-m-preserved : goal.loop-m-preserved
loop-m-preserved c =
    below_more (HasArrivedEverywhere c.args.instance.now c.args.plan.now) c.loop-m.m c.loop-m.invariant c.in_default.ensures

pub returns : goal.returns
returns c = λ m inside. c.loop-m.invariant m (omega (arith, inside, c.loop-m-test.false, ap length c.messages-m-end.ensures.value))
