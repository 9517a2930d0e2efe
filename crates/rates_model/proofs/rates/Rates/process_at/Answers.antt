use Rattle.std.proofs.Common.{◌≡◌, arith}
use Rattle.std.proofs.lemmas.Grind.{common_steps}
use Rattle.rates_model.specs.Rates.{process_at}
use Rattle.rates_model.proofs.Elements.{node_inside, period_inside}
use Rattle.rates_model.proofs.rates.Rates.process_at.Goals as goal

pub returns-clause-node : goal.returns-clause-node
returns-clause-node c =
    let is : c.index-processes-p.result ≡ process_at c.args.self.now c.args.p = grind (arith, common_steps) in
    node_inside _ c.processes.ensures.keeps c.args.p c.index-processes-p.result c.requires is

pub returns-clause-period : goal.returns-clause-period
returns-clause-period c =
    let is : c.index-processes-p.result ≡ process_at c.args.self.now c.args.p = grind (arith, common_steps) in
    period_inside _ c.processes.ensures.keeps c.args.p c.index-processes-p.result c.requires is
