use Rattle.std.proofs.Common.{◌≡◌, ◌+◌, ◌/◌, arith}
use Rattle.plan_sheets.specs.Scale.{mark_at, scale_text}
use Rattle.plan_sheets.proofs.PictureGrowing.{range_grows}
use Rattle.plan_sheets.proofs.Places.{mark-inside}
use Rattle.plan_sheets.proofs.pictures.scale.put_scale.Goals as goal

pub overflow_mul-tick : goal.overflow_mul-tick
overflow_mul-tick c = omega (arith, mark-inside c.args.canvas.now.cycle c.step_of-step.result c.loop-k.k (omega arith), c.requires.short)

pub put_mark-requires-clause-inside : goal.put_mark-requires-clause-inside
put_mark-requires-clause-inside c = omega (arith, mark-inside c.args.canvas.now.cycle c.step_of-step.result c.loop-k.k (omega arith), c.requires.short)

pub loop-k-preserved : goal.loop-k-preserved
unfolding mark_at
loop-k-preserved c =
    range_grows _ _ _ (mark_at c.args.canvas.now) c.loop-k.k c.loop-k.invariant (rw c.step_of-step.ensures.value at c.in_ok-put_mark.ensures)

pub returns : goal.returns
unfolding scale_text
returns c =
    let all : c.loop-k.k ≡ c.args.canvas.now.cycle / c.step_of-step.result + 1 = omega arith in
    rw (all, c.step_of-step.ensures.value) at c.loop-k.invariant
