use Rattle.std.proofs.Common.{◌≡◌, ap, arith, length}
use Rattle.plan_sheets.specs.Processes.{process_text, processes_text}
use Rattle.plan_sheets.proofs.PictureGrowing.{range_grows}
use Rattle.plan_sheets.proofs.pictures.processes.put_processes.Goals as goal

pub loop-p-preserved : goal.loop-p-preserved
loop-p-preserved c = range_grows _ _ _ (process_text c.args.canvas.now c.args.instance.now c.args.plan.now) c.loop-p.p c.loop-p.invariant c.in_ok-put_process.ensures

pub returns : goal.returns
unfolding processes_text
returns c =
    let all : c.loop-p.p ≡ length c.args.instance.now.processes = omega (arith, ap length c.processes-count.ensures.value) in
    rw all at c.loop-p.invariant
