-- The first one that doesn't go before the next, or else the last, which doesn't go before the first.
use Rattle.std.proofs.Common.{◌≡◌, ◌+◌, ◌-◌, arith, inl, inr}
use Rattle.std.proofs.lemmas.Bool.{both_ways, cases_lt}
use Rattle.certificate_reasons.specs.OrderLacks.{IsLastRingLack, IsRingLackAt}
use Rattle.certificate_reasons.proofs.order_lacks.no_ring.Goals as goal

pub loop-k-preserved : goal.loop-k-preserved
loop-k-preserved c = λ j below.
    elim (cases_lt (j + 1) c.loop-k.k) [
      | inl before ↦ c.loop-k.invariant j before
      | inr over ↦
          let last : c.loop-k.k ≡ j + 1 = omega (arith, below, over) in
          let one_before : j + 1 - 1 ≡ j = omega arith in
          rw (last, one_before) at (c.is_ahead.ensures.0 c.if-not-is_ahead.false)
    ]

pub returns-then-not-is_ahead : goal.returns-then-not-is_ahead
returns-then-not-is_ahead c =
    let s = c.args.facts.now in
    let ps = c.as_slice-processes.result.now in
    let next : c.loop-k.k - 1 + 1 ≡ c.loop-k.k = omega (arith, c.loop-k.auto.k) in
    let there : IsRingLackAt s.instance s.known ps (c.loop-k.k - 1) c.not_ahead.result = record {
      within = omega (arith, next, c.loop-k-test.true);
      names = rw next c.not_ahead.ensures;
      lacks = rw next (λ ahead. both_ways _ c.if-not-is_ahead.true (c.is_ahead.ensures.1 ahead));
      before = λ j less. c.loop-k.invariant j (omega (arith, less, next));
    } in
    rw (← c.as_slice-processes.ensures.value) (inl (c.loop-k.k - 1, there))

pub returns : goal.returns
returns c =
    let s = c.args.facts.now in
    let ps = c.as_slice-processes.result.now in
    let fails = rw (← c.as_slice-processes.ensures.value) at c.requires in
    let last : IsLastRingLack s.instance s.known ps c.not_ahead-2.result = record {
      names = c.not_ahead-2.ensures;
      lacks = λ closes. fails (record { each = λ j below. c.loop-k.invariant j (omega (arith, below, c.loop-k-test.false)); closes = closes });
    } in
    rw (← c.as_slice-processes.ensures.value) (inr last)
