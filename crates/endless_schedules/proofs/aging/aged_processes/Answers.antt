use Rattle.std.proofs.Common.{◌≡◌, ◌∙◌, ℕ, length, map, arith, subst, ap}
use Rattle.std.specs.List.{range_with_len}
use Rattle.std.proofs.lemmas.List.FromFn.{map-range_with_len_more}
use Rattle.std.proofs.lemmas.Grind.{common_steps}
use Rattle.ttp_model.specs.Instance.{Instance, process_at}
use Rattle.endless_schedules.specs.Unrolled.{unrolled_processes}
use Rattle.endless_schedules.specs.Aging.{aged}
use Rattle.endless_schedules.proofs.AgedProcesses.{all_aged}
use Rattle.endless_schedules.proofs.aging.aged_processes.Goals as goal

pub loop-p-preserved : goal.loop-p-preserved
loop-p-preserved c =
    let a = c.args.aging.now in
    let more = map-range_with_len_more (process_at (aged a.rates.now a.chain c.args.age)) 0 c.loop-p.p c.loop-p.p (omega arith) in
    grind (arith, common_steps, more)

pub returns : goal.returns
returns c =
    let a = c.args.aging.now in
    let asked = c.requires.aging in
    let listed = c.processes-p-end.ensures.value ∙ ap (λ (i : Instance). i.processes) asked.base in
    let all : c.loop-p.p ≡ length (unrolled_processes a.rates.now) = omega (arith, c.loop-p-test.false, c.loop-p.auto.p-end, ap length listed) in
    let at = process_at (aged a.rates.now a.chain c.args.age) in
    let are = subst (λ (n : ℕ). c.loop-p.processes.items ≡ map at (range_with_len 0 n)) all c.loop-p.invariant in
    all_aged a.rates.now a.chain c.args.age asked.there c.requires.less c.loop-p.processes.items are
