use Rattle.std.proofs.Common.{ℕ, ◌+◌, ◌<◌, take}
use Rattle.plan_cycles.specs.Divisors.{AreDivisors}
use Rattle.plan_cycles.specs.Fits.{AreFirst, IsFitBefore, IsFitWith}
use Rattle.plan_cycles.proofs.fits.push_fits.Given as goal

abbrev pub invariant-loop-round : goal.invariant-loop-round
invariant-loop-round l =
    (period : ℕ) → 0 < period → AreDivisors period (period + 1) l.rounds → AreFirst (IsFitBefore l.instance period l.trail) l.initial.fits.items
    → AreFirst (IsFitWith l.instance period l.trail (take l.round-index l.rounds)) l.fits.items
