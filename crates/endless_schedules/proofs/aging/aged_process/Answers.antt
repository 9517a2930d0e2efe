use Rattle.std.proofs.Common.{◌∙◌, ◌<◌, length, subst, ap}
use Rattle.ttp_model.specs.declared.name.Name.{Name}
use Rattle.ttp_model.specs.declared.parts.Process.{Process}
use Rattle.ttp_model.specs.Instance.{Instance, process_at}
use Rattle.endless_schedules.proofs.AgedProcesses.{process_is}
use Rattle.endless_schedules.proofs.aging.aged_process.Goals as goal

pub returns : goal.returns
returns c =
    let a = c.args.aging.now in
    let p = c.args.p in
    let d = c.aged_deadline-deadline.result in
    let asked = c.requires.aging in
    let below = subst (λ (i : Instance). p < length i.processes) asked.base c.requires.inside in
    let here = c.process_at-process.ensures.value ∙ ap (λ (i : Instance). process_at i p) asked.base in
    let is = process_is a.rates.now a.chain c.args.age asked.there c.requires.less p d below c.aged_deadline-deadline.ensures in
    ap (λ (name : Name). record c.process_at-process.result.now { name = name; deadline = d }) c.in_ok-name.ensures
    ∙ (ap (λ (process : Process). record process { deadline = d }) here ∙ is)
