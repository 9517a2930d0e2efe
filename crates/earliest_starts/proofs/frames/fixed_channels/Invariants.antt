use Rattle.std.proofs.Common.{◌≡◌, map, take, unwrap_or, Option, ℕ}
use Rattle.earliest_starts.proofs.frames.fixed_channels.Given as goal

abbrev pub invariant-loop-m : goal.invariant-loop-m
invariant-loop-m l = l.channels.items ≡ map (λ (fixed : Option ℕ). unwrap_or fixed 0) (take l.m l.choice.channels)
