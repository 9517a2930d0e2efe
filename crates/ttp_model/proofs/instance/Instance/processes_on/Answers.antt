use Rattle.std.proofs.Common.{length, arith, ap}
use Rattle.ttp_model.specs.Instance.{Instance}
use Rattle.ttp_model.specs.Network.{processes_on, is_process_of}
use Rattle.ttp_model.proofs.NetworkLists.{list_of, each_inside, few_listed}
use Rattle.ttp_model.proofs.instance.Instance.processes_on.Goals as goal

pub of_key-requires : goal.of_key-requires
of_key-requires c = c.self.invariant.lists.of_processes.places

pub returns-clause-value : goal.returns-clause-value
returns-clause-value c =
    list_of processes_on _ c.args.self.now _ _ _ c.args.n c.self.invariant.lists.of_processes c.self.view_is c.of_key.ensures

pub returns-clause-inside : goal.returns-clause-inside
returns-clause-inside c =
    let is = list_of processes_on _ c.args.self.now _ _ _ c.args.n c.self.invariant.lists.of_processes c.self.view_is c.of_key.ensures in
    each_inside (is_process_of c.args.self.now c.args.n) (length c.args.self.now.processes) _ is

pub returns-clause-few : goal.returns-clause-few
returns-clause-few c =
    let is = list_of processes_on _ c.args.self.now _ _ _ c.args.n c.self.invariant.lists.of_processes c.self.view_is c.of_key.ensures in
    let most = few_listed (is_process_of c.args.self.now c.args.n) (length c.args.self.now.processes) _ is in
    omega (arith, most, c.self.invariant.instance.limits.processes, ap (λ (i : Instance). length i.processes) c.self.view_is)
