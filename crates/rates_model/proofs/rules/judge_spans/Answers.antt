use Rattle.std.proofs.Common.{◌≡◌, arith}
use Rattle.ttp_model.specs.Limits.{most_ticks}
use Rattle.rates_model.specs.Cycles.{cycle, round_of}
use Rattle.rates_model.specs.Rules.{Ranges}
use Rattle.rates_model.specs.Parts.{rates_of}
use Rattle.rates_model.specs.declared.error.RatesPlace.TheVariants.{AtProcess}
use Rattle.rates_model.proofs.Periods.{cycle_is, cycle_past, some_ticks}
use Rattle.rates_model.proofs.RuleOrder.{before_rounds, rates_from}
use Rattle.rates_model.proofs.rules.judge_spans.Goals as goal

pub cycle_of-requires : goal.cycle_of-requires
cycle_of-requires c = rw c.deref.ensures.value (some_ticks _ (λ p inside. c.requires.each Ranges (omega arith) (AtProcess p) inside))

pub returns-in_default : goal.returns-in_default
returns-in_default c =
    let past = cycle_past (rates_of c.args.parts.now) most_ticks (rw c.deref.ensures.value at c.in_default.ensures) in
    (c.requires, λ few. omega (arith, few, past))

pub returns-then-round-from : goal.returns-then-round-from
returns-then-round-from c =
    let rho = rates_of c.args.parts.now in
    let is : c.in-Some.cycle ≡ cycle rho = cycle_is rho c.in-Some.cycle (rw c.deref.ensures.value at c.in-Some.ensures.0) in (
      before_rounds rho c.requires (omega (arith, is, c.in-Some.ensures.1)),
      record {
        round_is = rw c.deref-2.ensures.value at c.round_of-round.ensures;
        cycle_is = is;
        longer = omega (arith, c.if-round-from.true, c.from.ensures);
      },
    )

pub returns : goal.returns
returns c =
    let rho = rates_of c.args.parts.now in
    let cycle_eq : c.in-Some.cycle ≡ cycle rho = cycle_is rho c.in-Some.cycle (rw c.deref.ensures.value at c.in-Some.ensures.0) in
    let round_eq : c.round_of-round.result ≡ round_of rho = rw c.deref-2.ensures.value at c.round_of-round.ensures in (
      rates_from rho c.requires (omega (arith, cycle_eq, c.in-Some.ensures.1)) (omega (arith, cycle_eq, round_eq, c.if-round-from.false, c.from.ensures)),
      record { cycle_is = cycle_eq; round_is = round_eq },
    )
