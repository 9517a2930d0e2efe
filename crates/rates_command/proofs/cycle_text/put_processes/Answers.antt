use Rattle.std.proofs.Common.{string_bytes}
use Rattle.rates_command.specs.Cycles.{IsProcessLine}
use Rattle.rates_command.proofs.LinesAdded.{lines_more}
use Rattle.rates_command.proofs.cycle_text.put_processes.Goals as goal

pub loop-p-preserved : goal.loop-p-preserved
loop-p-preserved c =
    lines_more (IsProcessLine c.args.rates.now c.args.plan.now) c.loop-p.p (string_bytes c.args.text.now) (string_bytes c.loop-p.text) (string_bytes c.put_process.new.text)
    c.loop-p.invariant c.in_ok-put_process.ensures
