use Rattle.std.proofs.Common.{◌≡◌, ◌+◌, ◌-◌, arith, inl, inr}
use Rattle.std.proofs.lemmas.Bool.{false≢true, both_ways, cases_lt}
use Rattle.tt_infer.proofs.rules.closers.is_ring.Goals as goal

pub loop-k-preserved : goal.loop-k-preserved
loop-k-preserved c = λ j below.
    elim (cases_lt (j + 1) c.loop-k.k) [
      | inl before ↦ c.loop-k.invariant j before
      | inr over ↦
          let last : c.loop-k.k ≡ j + 1 = omega (arith, below, over) in
          let one_before : j + 1 - 1 ≡ j = omega arith in
          rw (last, one_before) at (c.is_ahead.ensures.0 c.if-not-is_ahead.false)
    ]

pub returns : goal.returns
returns c = (
  λ is. record { each = λ j below. c.loop-k.invariant j (omega (arith, below, c.loop-k-test.false)); closes = c.is_ahead-2.ensures.0 is },
  λ ring. c.is_ahead-2.ensures.1 ring.closes,
)

pub returns-then-not-is_ahead : goal.returns-then-not-is_ahead
returns-then-not-is_ahead c = (
  λ is. absurd (false≢true is),
  λ ring.
      let next : c.loop-k.k - 1 + 1 ≡ c.loop-k.k = omega (arith, c.loop-k.auto.k) in
      let here = rw next at (ring.each (c.loop-k.k - 1) (omega (arith, next, c.loop-k-test.true))) in
      absurd (both_ways _ c.if-not-is_ahead.true (c.is_ahead.ensures.1 here)),
)
