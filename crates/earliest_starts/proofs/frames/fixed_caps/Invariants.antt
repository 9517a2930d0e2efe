use Rattle.std.proofs.Common.{◌≡◌, map, take, unwrap_or, Option, ℕ}
use Rattle.earliest_starts.proofs.frames.fixed_caps.Given as goal

abbrev pub invariant-loop-n : goal.invariant-loop-n
invariant-loop-n l = l.caps.items ≡ map (λ (fixed : Option ℕ). unwrap_or fixed 0) (take l.n l.choice.fixed)
