-- A cycle has no more rounds than its plan has ticks, and those are within the horizon.
use Rattle.std.proofs.Common.{ℕ, ◌*◌, ◌/◌, ◌<◌, ◌≤◌, arith}
use Rattle.std.proofs.Math.Nat.{mul-le-mul_left}
use Rattle.std.specs.Int.{div_ceil}

pub div_ceil-le : (x y : ℕ) → 0 < y → div_ceil x y ≤ x
div_ceil-le x y some =
    let whole : (x / y) * 1 ≤ (x / y) * y = mul-le-mul_left (x / y) (omega arith) in
    omega (arith, whole)
