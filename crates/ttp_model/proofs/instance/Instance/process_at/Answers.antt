use Rattle.std.proofs.Common.{◌≡◌, arith}
use Rattle.std.proofs.lemmas.Grind.{common_steps}
use Rattle.ttp_model.specs.Instance.{process_at}
use Rattle.ttp_model.proofs.Elements.{node_inside, times_inside}
use Rattle.ttp_model.proofs.instance.Instance.process_at.Goals as goal

pub returns-clause-node : goal.returns-clause-node
returns-clause-node c =
    let is : c.index-processes-p.result ≡ process_at c.args.self.now c.args.p = grind (arith, common_steps) in
    node_inside _ c.processes.ensures.instance c.args.p c.index-processes-p.result c.requires is

pub returns-clause-times : goal.returns-clause-times
returns-clause-times c =
    let is : c.index-processes-p.result ≡ process_at c.args.self.now c.args.p = grind (arith, common_steps) in
    times_inside _ c.processes.ensures.instance c.args.p c.index-processes-p.result c.requires is
