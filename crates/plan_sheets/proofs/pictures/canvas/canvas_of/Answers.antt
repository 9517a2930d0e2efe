use Rattle.std.proofs.Common.{◌≡◌, ◌*◌, ◌<◌, ◌≤◌, arith}
use Rattle.std.proofs.lemmas.Grind.{common_steps}
use Rattle.std.proofs.lemmas.Nat.{mul-le}
use Rattle.ttp_model.specs.Slots.{round_length}
use Rattle.plan_sheets.specs.Canvas.{cycle_ticks}
use Rattle.plan_sheets.proofs.Places.{cycle-some}
use Rattle.plan_sheets.proofs.pictures.canvas.canvas_of.Goals as goal

pub of-layout-requires-clause-capacities : goal.of-layout-requires-clause-capacities
of-layout-requires-clause-capacities c = rw c.as_slice-2.ensures c.requires.valid.capacities

pub returns-clause-sound : goal.returns-clause-sound
returns-clause-sound c =
    let i = c.args.instance.now in
    let plan = c.args.plan.now in
    let rounds = c.from-5.result in
    let ticks = c.round_length.result in
    let some : 0 < round_length i.cluster plan.caps = grind (arith, common_steps) in
    let cycle : rounds * ticks ≡ cycle_ticks i plan = grind (arith, common_steps) in
    let most = mul-le rounds ticks 1000000 50000000 (omega (arith, c.from-5.ensures, c.cycle_rounds.ensures.bound)) (omega (arith, c.round_length.ensures.bound)) in
    let has_tick : 0 < rounds * ticks = omega (arith, cycle, cycle-some i plan c.nodes.ensures.instance some) in
    let short : rounds * ticks ≤ 100000000000000 = omega (arith, most) in
    record { some = has_tick; short = short; narrow = omega arith; high = omega arith }
