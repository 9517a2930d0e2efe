use Rattle.std.proofs.Common.{◌≡◌, ◌∙◌, IfOk, subst, sym, ap}
use Rattle.ttp_model.specs.Instance.{Instance}
use Rattle.ttp_model.specs.Rules.{IsInstance}
use Rattle.endless_schedules.proofs.AgedProcesses.{tables_are}
use Rattle.endless_schedules.proofs.aging.with_age.Goals as goal

pub built-requires : goal.built-requires
built-requires c =
    let a = c.args.aging.now in
    let base = c.requires.aging.base in
    let cluster = c.cluster-cluster.ensures.value ∙ ap (λ (i : Instance). i.cluster) base in
    let nodes = c.in_ok-nodes.ensures ∙ c.nodes.ensures.value ∙ ap (λ (i : Instance). i.nodes) base in
    let links = c.in_ok-links.ensures.items ∙ c.links.ensures.value ∙ ap (λ (i : Instance). i.links) base in
    let messages = c.in_ok-messages.ensures ∙ c.messages.ensures.value ∙ ap (λ (i : Instance). i.messages) base in
    let is = tables_are a.rates.now a.chain c.args.age c.requires.aging.there c.requires.less c.cluster-cluster.result.now c.in_ok-nodes.nodes.items
    c.in_ok-processes.processes.items c.in_ok-links.links.items c.in_ok-messages.messages.items cluster nodes c.in_ok-processes.ensures links messages in
    subst IsInstance (sym is) c.requires.rules

pub returns : goal.returns
returns c =
    let a = c.args.aging.now in
    let base = c.requires.aging.base in
    let cluster = c.cluster-cluster.ensures.value ∙ ap (λ (i : Instance). i.cluster) base in
    let nodes = c.in_ok-nodes.ensures ∙ c.nodes.ensures.value ∙ ap (λ (i : Instance). i.nodes) base in
    let links = c.in_ok-links.ensures.items ∙ c.links.ensures.value ∙ ap (λ (i : Instance). i.links) base in
    let messages = c.in_ok-messages.ensures ∙ c.messages.ensures.value ∙ ap (λ (i : Instance). i.messages) base in
    let is = tables_are a.rates.now a.chain c.args.age c.requires.aging.there c.requires.less c.cluster-cluster.result.now c.in_ok-nodes.nodes.items
    c.in_ok-processes.processes.items c.in_ok-links.links.items c.in_ok-messages.messages.items cluster nodes c.in_ok-processes.ensures links messages in
    subst (λ (it : Instance). IfOk c.built.result (λ other. other ≡ it)) is c.built.ensures
