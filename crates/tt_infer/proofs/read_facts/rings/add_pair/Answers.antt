use Rattle.std.proofs.Common.{◌≡◌}
use Rattle.std.proofs.lemmas.Bool.{both_ways}
use Rattle.std.proofs.lemmas.Result.{on_ok_weaker}
use Rattle.ttp_model.specs.Graph.{Leads}
use Rattle.tt_infer.specs.declared.fact.Fact.TheVariants.{Order}
use Rattle.tt_infer.proofs.AddedFacts.{adds_nowhere, adds_where}
use Rattle.tt_infer.proofs.read_facts.rings.add_pair.Goals as goal

pub returns-then-leads : goal.returns-then-leads
returns-then-leads c = adds_nowhere (¬ Leads c.args.instance.now c.args.p c.args.q) (λ fact. fact ≡ Order c.args.p c.args.q) _
    (λ no_lead. no_lead (c.leads.ensures.0 c.if-leads.true))

pub returns : goal.returns
returns c = on_ok_weaker c.add.result (adds_where (¬ Leads c.args.instance.now c.args.p c.args.q) (λ fact. fact ≡ Order c.args.p c.args.q) _ _
    (λ lead. both_ways _ c.if-leads.false (c.leads.ensures.1 lead))) c.add.ensures
