use Rattle.std.proofs.Common.{length, arith, ap}
use Rattle.ttp_model.specs.Instance.{Instance}
use Rattle.ttp_model.specs.Network.{links_from, leads_from}
use Rattle.ttp_model.proofs.NetworkLists.{list_of, each_inside, few_listed}
use Rattle.ttp_model.proofs.instance.Instance.links_from.Goals as goal

pub of_key-requires : goal.of_key-requires
of_key-requires c = c.self.invariant.lists.of_links.leading.places

pub returns-clause-value : goal.returns-clause-value
returns-clause-value c =
    list_of links_from _ c.args.self.now _ _ _ c.args.p c.self.invariant.lists.of_links.leading c.self.view_is c.of_key.ensures

pub returns-clause-inside : goal.returns-clause-inside
returns-clause-inside c =
    let is = list_of links_from _ c.args.self.now _ _ _ c.args.p c.self.invariant.lists.of_links.leading c.self.view_is c.of_key.ensures in
    each_inside (leads_from c.args.self.now c.args.p) (length c.args.self.now.links) _ is

pub returns-clause-few : goal.returns-clause-few
returns-clause-few c =
    let is = list_of links_from _ c.args.self.now _ _ _ c.args.p c.self.invariant.lists.of_links.leading c.self.view_is c.of_key.ensures in
    let most = few_listed (leads_from c.args.self.now c.args.p) (length c.args.self.now.links) _ is in
    omega (arith, most, c.self.invariant.instance.limits.links, ap (λ (i : Instance). length i.links) c.self.view_is)
