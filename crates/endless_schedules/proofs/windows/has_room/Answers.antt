use Rattle.std.proofs.Common.{◌∙◌, ◌<◌, length, arith, subst, ap}
use Rattle.std.proofs.lemmas.Bool.{le-leb, leb-true}
use Rattle.ttp_model.specs.declared.parts.Process.{Process}
use Rattle.ttp_model.specs.Instance.{Instance, process_at}
use Rattle.endless_schedules.proofs.AgedProcesses.{process_is}
use Rattle.endless_schedules.proofs.windows.has_room.Goals as goal

pub returns : goal.returns
returns c =
    let a = c.args.aging.now in
    let p = c.args.p in
    let base = c.requires.aging.base in
    let below = subst (λ (i : Instance). p < length i.processes) base c.requires.inside in
    let here = c.process_at-process.ensures.value ∙ ap (λ (i : Instance). process_at i p) base in
    let is = process_is a.rates.now a.chain c.args.age c.requires.aging.there c.requires.less p c.aged_deadline.result below c.aged_deadline.ensures in
    let release = ap (λ (process : Process). process.release) here ∙ ap (λ (process : Process). process.release) is in
    let wcet = ap (λ (process : Process). process.wcet) here ∙ ap (λ (process : Process). process.wcet) is in (
      λ test. omega (arith, leb-true _ _ test, release, wcet, c.aged_deadline.ensures),
      λ can. le-leb _ _ (omega (arith, can, release, wcet, c.aged_deadline.ensures)),
    )
