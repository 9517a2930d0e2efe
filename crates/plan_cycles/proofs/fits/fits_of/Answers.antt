use Rattle.std.proofs.Common.{◌≡◌, length, arith}
use Rattle.plan_cycles.specs.Fits.{most_fits}
use Rattle.plan_cycles.proofs.TrailFits.{all_trails, full_fits, no_trail}
use Rattle.plan_cycles.proofs.fits.fits_of.Goals as goal

pub loop-trail-init : goal.loop-trail-init
loop-trail-init c = rw (c.new-fits.ensures.items, c.cluster.ensures.value) (no_trail c.args.instance.now c.args.period)

pub loop-trail-preserved : goal.loop-trail-preserved
loop-trail-preserved c =
    let divisors = rw (← c.as_slice-in-loop-trail.ensures.value) at c.in_ok-rounds.ensures in
    c.in_ok-push_fits.ensures c.args.period c.requires.some divisors c.loop-trail.invariant

pub returns-then-len-eq-MOST_FITS : goal.returns-then-len-eq-MOST_FITS
returns-then-len-eq-MOST_FITS c =
    let full : length c.loop-trail.fits.items ≡ most_fits = omega (arith, c.len.ensures, c.if-len-eq-MOST_FITS.true) in
    full_fits c.args.instance.now c.args.period c.loop-trail.trail c.loop-trail.fits.items c.loop-trail.invariant full

pub returns : goal.returns
returns c = all_trails c.args.instance.now c.args.period c.loop-trail.trail c.loop-trail.fits.items c.loop-trail.invariant (omega (arith, c.loop-trail-test.false))
