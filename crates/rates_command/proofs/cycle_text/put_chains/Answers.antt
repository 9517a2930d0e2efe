use Rattle.std.proofs.Common.{string_bytes}
use Rattle.rates_command.specs.Cycles.{IsChainLine}
use Rattle.rates_command.proofs.LinesAdded.{lines_more}
use Rattle.rates_command.proofs.cycle_text.put_chains.Goals as goal

pub loop-x-preserved : goal.loop-x-preserved
loop-x-preserved c =
    lines_more (IsChainLine c.args.rates.now c.args.plan.now) c.loop-x.x (string_bytes c.args.text.now) (string_bytes c.loop-x.text) (string_bytes c.put_chain.new.text)
    c.loop-x.invariant c.in_ok-put_chain.ensures
