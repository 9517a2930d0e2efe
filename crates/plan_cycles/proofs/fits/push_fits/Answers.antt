use Rattle.std.proofs.Common.{◌≡◌, ◌∙◌, ◌<◌, length, arith, sym}
use Rattle.std.proofs.lemmas.Bool.{false≢true}
use Rattle.plan_cycles.specs.Fits.{most_fits}
use Rattle.plan_cycles.proofs.TrailFits.{begun, full_within, round_left, round_taken, trail_done}
use Rattle.plan_cycles.proofs.fits.push_fits.Goals.{then-can_take+in_ok-push, else-can_take}
use Rattle.plan_cycles.proofs.fits.push_fits.Goals as goal

pub loop-round-init : goal.loop-round-init
loop-round-init c = λ period some divisors before. begun c.args.instance.now period c.args.trail c.args.rounds.now c.args.fits.now.items before

pub returns-then-len-eq-MOST_FITS : goal.returns-then-len-eq-MOST_FITS
returns-then-len-eq-MOST_FITS c = λ period some divisors before.
    let full : length c.loop-round.fits.items ≡ most_fits = omega (arith, c.len.ensures, c.if-len-eq-MOST_FITS.true) in
    full_within c.args.instance.now period c.args.trail c.args.rounds.now c.loop-round.fits.items c.loop-round.round-index c.loop-round-test.true
    (c.loop-round.invariant period some divisors before) divisors some full

pub loop-round-preserved : goal.loop-round-preserved
loop-round-preserved c = λ period some divisors before.
    let i = c.args.instance.now in
    let fits = c.loop-round.fits.items in
    let k = c.loop-round.round-index in
    let inside = c.loop-round-test.true in
    let are = c.loop-round.invariant period some divisors before in
    elim c.if-can_take.branch [
      | then-can_take+in_ok-push w ↦
          let room : length fits < most_fits = omega (arith, c.len.ensures, c.if-len-eq-MOST_FITS.false, are.few) in
          rw (w.fits-is, w.in_ok-push.ensures.items) (round_taken i period c.args.trail c.args.rounds.now fits k inside are divisors
          c.requires.least c.requires.most room (c.can_take.ensures.0 w.if-can_take.true))
      | else-can_take w ↦
          rw w.fits-is (round_left i period c.args.trail c.args.rounds.now fits k inside are (λ can. false≢true (sym w.if-can_take.false ∙ c.can_take.ensures.1 can)))
    ]

pub returns : goal.returns
returns c = λ period some divisors before.
    trail_done c.args.instance.now period c.args.trail c.args.rounds.now c.loop-round.fits.items c.loop-round.round-index c.loop-round-test.false some divisors
    (c.loop-round.invariant period some divisors before)
