use Rattle.std.proofs.Common.{◌≡◌, ℕ, ◌+◌, ◌-◌, ◌*◌, ◌/◌, ◌<◌, ◌≤◌, ◌↔◌, arith, refl}
use Rattle.std.proofs.Math.Nat.{le-div_iff_mul-le}
use Rattle.tt_choice.specs.Extremes.{end_least}
use Rattle.sought_plans.proofs.setting.Setting.rounds_until.Goals as goal

in_time : (r slot_end round offset dur wait time : ℕ) → slot_end ≡ r * round + offset + dur → 0 < round → offset + dur + wait ≤ time → (r < (time - (offset + dur + wait)) / round + 1) ↔ (slot_end + wait ≤ time)
in_time r slot_end round offset dur wait time is some room =
    let whole = le-div_iff_mul-le {k = round} {x = r} {y = time - (offset + dur + wait)} some in (
      λ below. omega (arith, is, room, whole.0 (omega (arith, below))),
      λ ends. omega (arith, whole.1 (omega (arith, is, room, ends))),
    )

pub returns-else-time-first : goal.returns-else-time-first
returns-else-time-first c = λ r.
    let times = c.slot-slot.ensures.times in
    let s = c.slot-slot.result.now in
    let is : end_least c.args.self.now.instance c.args.self.now.choice c.args.n r ≡ r * s.round_least + s.offset_least + s.dur_least = rw (times.round_least, times.offset_least, times.dur_least) refl in
    rw c.from-time.ensures (in_time r _ s.round_least s.offset_least s.dur_least c.args.wait c.args.time is c.slot-slot.ensures.short.some_least (omega (arith, c.if-time-first.false, c.from-time.ensures)))
