use Rattle.std.proofs.Common.{length, arith, ap}
use Rattle.ttp_model.specs.Instance.{Instance}
use Rattle.ttp_model.specs.Network.{received_by, is_received_by}
use Rattle.ttp_model.proofs.NetworkLists.{list_of, each_inside, few_listed}
use Rattle.ttp_model.proofs.instance.Instance.received_by.Goals as goal

pub of_key-requires : goal.of_key-requires
of_key-requires c = c.self.invariant.lists.of_messages.received.places

pub returns-clause-value : goal.returns-clause-value
returns-clause-value c =
    list_of received_by _ c.args.self.now _ _ _ c.args.q c.self.invariant.lists.of_messages.received c.self.view_is c.of_key.ensures

pub returns-clause-inside : goal.returns-clause-inside
returns-clause-inside c =
    let is = list_of received_by _ c.args.self.now _ _ _ c.args.q c.self.invariant.lists.of_messages.received c.self.view_is c.of_key.ensures in
    each_inside (is_received_by c.args.self.now c.args.q) (length c.args.self.now.messages) _ is

pub returns-clause-few : goal.returns-clause-few
returns-clause-few c =
    let is = list_of received_by _ c.args.self.now _ _ _ c.args.q c.self.invariant.lists.of_messages.received c.self.view_is c.of_key.ensures in
    let most = few_listed (is_received_by c.args.self.now c.args.q) (length c.args.self.now.messages) _ is in
    omega (arith, most, c.self.invariant.instance.limits.messages, ap (λ (i : Instance). length i.messages) c.self.view_is)
