use Rattle.std.proofs.Common.{slice_index, arith, ap, ◌∙◌}
use Rattle.ttp_model.specs.declared.parts.Message.{Message}
use Rattle.ttp_model.specs.Chains.{least_transfer}
use Rattle.plan_facts.proofs.Walks.{chain_small}
use Rattle.plan_reasons.proofs.path_causes.arrival_of.Goals as goal

pub overflow_add-result : goal.overflow_add-result
overflow_add-result c =
    let longest = c.requires.longest.each c.message_at.result.now.sender c.message_at.ensures.sender in
    omega (
      arith,
      chain_small c.args.instance.now c.processes-processes.ensures.instance c.message_at.result.now.sender _ longest.reached,
      c.least_transfer.ensures.small,
    )

pub returns-clause-value : goal.returns-clause-value
returns-clause-value c =
    let ready = ap (λ (m : Message). slice_index c.args.ends.now m.sender) c.message_at.ensures.value in
    let takes = c.least_transfer.ensures.value ∙ ap (least_transfer c.args.instance.now) c.source_of.ensures.value in
    omega (arith, ready, takes)

pub returns-clause-small : goal.returns-clause-small
returns-clause-small c =
    let longest = c.requires.longest.each c.message_at.result.now.sender c.message_at.ensures.sender in
    omega (
      arith,
      chain_small c.args.instance.now c.processes-processes.ensures.instance c.message_at.result.now.sender _ longest.reached,
      c.least_transfer.ensures.small,
    )
