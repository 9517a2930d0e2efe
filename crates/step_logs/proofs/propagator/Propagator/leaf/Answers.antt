use Rattle.step_logs.proofs.KeptLogs.{bare_at, closes_at}
use Rattle.std.proofs.Common.{ap}
use Rattle.tt_infer.specs.Facts.{Facts}
use Rattle.step_logs.proofs.propagator.Propagator.leaf.Goals as goal

pub trimmed_leaf-requires-clause-none_kept : goal.trimmed_leaf-requires-clause-none_kept
trimmed_leaf-requires-clause-none_kept c = bare_at _ c.facts.result.now c.self.invariant c.facts.ensures

pub trimmed_leaf-requires-clause-closes : goal.trimmed_leaf-requires-clause-closes
trimmed_leaf-requires-clause-closes c =
    (closes_at _ c.facts.result.now c.steps.result.now c.self.invariant c.facts.ensures c.steps.ensures (rw (← c.self.view_is) at c.requires)).0

pub trimmed_leaf-requires-clause-few : goal.trimmed_leaf-requires-clause-few
trimmed_leaf-requires-clause-few c =
    (closes_at _ c.facts.result.now c.steps.result.now c.self.invariant c.facts.ensures c.steps.ensures (rw (← c.self.view_is) at c.requires)).1

pub returns-clause-closes : goal.returns-clause-closes
returns-clause-closes c =
    let closes = rw (c.facts.ensures, ap (λ (s : Facts). s.instance) c.self.invariant.current.facts) at c.in_ok-leaf.ensures.closes in
    rw (← c.self.view_is) closes
