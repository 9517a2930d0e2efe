use Rattle.rates_model.specs.Parts.{rates_of}
use Rattle.endless_schedules.proofs.RulesKept.{aged_not_refused}
use Rattle.endless_schedules.proofs.bounds.with_bound.Goals as goal

pub unreachable-requires : goal.unreachable-requires
unreachable-requires c =
    let rho = c.args.rates.now in
    let keeps = c.chains-chains.ensures.keeps in
    let is = c.in_ok-parts.ensures in
    aged_not_refused rho (rates_of c.in_ok-parts.parts) c.args.x c.args.age c.in-Err.field-0 keeps c.requires.there c.requires.ticks is c.in-Err.ensures.err
