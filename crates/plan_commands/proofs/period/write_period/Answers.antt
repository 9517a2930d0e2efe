use Rattle.std.proofs.Common.{◌≤◌, arith}
use Rattle.tt_layout.specs.Cycle.{cycle_rounds}
use Rattle.plan_cycles.specs.Cycles.{whole_rounds}
use Rattle.command_streams.proofs.Outcomes.{ended_later, written_outcome}
use Rattle.plan_commands.specs.Periods.{IsHeldText, IsShortPeriod}
use Rattle.plan_commands.proofs.period.write_period.Goals as goal

pub returns-in-Ok-clause-answer : goal.returns-in-Ok-clause-answer
returns-in-Ok-clause-answer g c =
    let i = c.args.instance.now in
    let plan = c.args.plan.now in
    let held : cycle_rounds i plan ≤ whole_rounds c.args.period i plan =
    omega (arith, c.if-held-needed.false, c.held_rounds-held.ensures, c.from-needed.ensures, c.cycle_rounds.ensures.value) in
    written_outcome (IsHeldText c.args.period i plan) (IsShortPeriod c.args.period i plan) _ (record { held = held; told = c.in-Ok.ensures }) _ _ _
    (rw c.as_bytes.ensures.value at c.end_with.ensures)

pub returns-in-Ok-clause-later : goal.returns-in-Ok-clause-later
returns-in-Ok-clause-later g c = ended_later _ _ _ _ _ c.end_with.ensures
