use Rattle.plan_cycles.specs.Fits.{AreFirst, IsFitBefore}
use Rattle.plan_cycles.proofs.fits.fits_of.Given as goal

abbrev pub invariant-loop-trail : goal.invariant-loop-trail
invariant-loop-trail l = AreFirst (IsFitBefore l.instance l.period l.trail) l.fits.items
