use Rattle.std.proofs.Common.{ℕ, ◌+◌, ◌<◌, ◌≤◌, arith}
use Rattle.step_logs.proofs.copies.push_copy.Goals as goal

room_for_one : {len capacity : ℕ} → len + 1 ≤ capacity → len < capacity
room_for_one fits = omega arith

pub push_reserved-requires : goal.push_reserved-requires
push_reserved-requires c = room_for_one c.in_ok-try_reserve.ensures.ok
