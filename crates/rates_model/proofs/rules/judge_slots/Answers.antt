use Rattle.std.proofs.Common.{◌≡◌, arith}
use Rattle.rates_model.specs.Cycles.{round_of}
use Rattle.rates_model.specs.Parts.{rates_of}
use Rattle.rates_model.proofs.RuleOrder.{before_cycles}
use Rattle.rates_model.proofs.rules.judge_slots.Goals as goal

pub returns : goal.returns
returns c =
    let rho = rates_of c.args.parts.now in
    let slots : c.round_of-slots.result ≡ round_of rho = rw c.deref.ensures.value at c.round_of-slots.ensures in
    before_cycles rho c.requires (rw c.in-Some.is (omega (arith, slots, c.if-slots-in_its_ticks.false, c.in_its_ticks.ensures)))
