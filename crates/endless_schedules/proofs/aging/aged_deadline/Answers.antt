use Rattle.std.proofs.Common.{◌∙◌, ◌<◌, length, arith, subst, sym, ap}
use Rattle.ttp_model.specs.declared.parts.Process.{Process}
use Rattle.ttp_model.specs.Instance.{Instance, process_at}
use Rattle.endless_schedules.proofs.AgedProcesses.{last_aged, none_aged}
use Rattle.endless_schedules.proofs.OwnAges.{last_there}
use Rattle.endless_schedules.proofs.aging.aged_deadline.Goals as goal

pub returns-in-Some : goal.returns-in-Some
returns-in-Some c =
    let a = c.args.aging.now in
    let asked = c.requires.aging in
    let here = c.process_at.ensures.value ∙ ap (λ (i : Instance). process_at i c.args.p) asked.base in
    let deadline = ap (λ (process : Process). process.deadline) here in
    let last = last_there a.rates.now a.chain c.chains-chains.ensures.keeps asked.there in
    let tells = c.in-Some.ensures in
    let aged = last_aged a.rates.now a.chain c.args.age asked.there c.requires.less a.first c.args.p asked.first c.in-Some.k last tells.1 tells.0 in
    omega (arith, c.min.ensures, c.from.ensures, c.latest_end.ensures, deadline, aged)

pub returns-in-None : goal.returns-in-None
returns-in-None c =
    let a = c.args.aging.now in
    let asked = c.requires.aging in
    let below = subst (λ (i : Instance). c.args.p < length i.processes) asked.base c.requires.inside in
    let here = c.process_at.ensures.value ∙ ap (λ (i : Instance). process_at i c.args.p) asked.base in
    let deadline = ap (λ (process : Process). process.deadline) here in
    let aged = none_aged a.rates.now a.chain c.args.age asked.there c.requires.less a.first c.args.p asked.first below c.in-None.ensures in
    deadline ∙ sym aged
