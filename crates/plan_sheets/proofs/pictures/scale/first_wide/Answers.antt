use Rattle.std.proofs.Common.{get_or, arith, sym}
use Rattle.std.proofs.lemmas.Nat.{mul-le}
use Rattle.plan_sheets.proofs.Steps.{is_here, is_later}
use Rattle.plan_sheets.proofs.pictures.scale.first_wide.Goals as goal

pub overflow_mul-room : goal.overflow_mul-room
overflow_mul-room c =
    let small = c.requires.some c.loop-step.step-index 0 c.loop-step-test.true in
    omega (arith, mul-le (get_or c.args.steps.now c.loop-step.step-index 0) c.args.canvas.now.across 50000000 10000 small.1 c.requires.sound.narrow)

pub loop-step-preserved : goal.loop-step-preserved
loop-step-preserved c =
    is_later c.args.canvas.now c.args.steps.now c.loop-step.step-index c.loop-step-test.true c.loop-step.invariant c.if-needed-room.false

pub returns-then-needed-room : goal.returns-then-needed-room
returns-then-needed-room c = record {
  value = sym (is_here c.args.canvas.now c.args.steps.now c.loop-step.step-index c.loop-step-test.true c.loop-step.invariant c.if-needed-room.true);
  some = (c.requires.some c.loop-step.step-index 0 c.loop-step-test.true).0;
}
