use Rattle.std.proofs.Common.{ℕ, List, length, slice_index, arith, below_more, ap}
use Rattle.ttp_model.specs.declared.parts.Process.{Process}
use Rattle.ttp_model.specs.Plans.{IsReleased}
use Rattle.plan_check.proofs.processes.first_too_early.Goals as goal

pub returns-then-starts-p : goal.returns-then-starts-p
returns-then-starts-p c =
    let release = ap (λ (process : Process). process.release) c.process_at.ensures.value in
    let start = ap (λ (starts : List ℕ). slice_index starts c.loop-p.p) c.as_slice-starts.ensures in
    record {
      within = omega (arith, c.loop-p-test.true, ap length c.processes-p-end.ensures.value);
      fails = λ released. omega (arith, released, c.if-starts-p.true, release, start);
      holds_before = c.loop-p.invariant;
    }

pub loop-p-preserved : goal.loop-p-preserved
loop-p-preserved c =
    let release = ap (λ (process : Process). process.release) c.process_at.ensures.value in
    let start = ap (λ (starts : List ℕ). slice_index starts c.loop-p.p) c.as_slice-starts.ensures in
    below_more (IsReleased c.args.instance.now c.args.plan.now) c.loop-p.p c.loop-p.invariant (omega (arith, c.if-starts-p.false, release, start))

pub returns : goal.returns
returns c = λ p inside. c.loop-p.invariant p (omega (arith, inside, c.loop-p-test.false, ap length c.processes-p-end.ensures.value))
