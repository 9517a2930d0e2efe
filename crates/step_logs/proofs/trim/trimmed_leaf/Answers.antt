use Rattle.std.proofs.Common.{sym, ap, ◌∙◌}
use Rattle.step_logs.proofs.KeptLogs.{trimmed_of}
use Rattle.ttp_model.specs.declared.step.Leaf.{Leaf}
use Rattle.step_logs.proofs.trim.trimmed_leaf.Goals as goal

pub leaf_of-requires : goal.leaf_of-requires
leaf_of-requires c =
    (trimmed_of c.args.facts.now c.into_parts-known.result.1.items c.in_ok-journal.journal c.into_parts-known.result.0 c.choice-choice.ensures.inference c.requires.none_kept c.in_ok-journal.ensures c.into_parts-known.ensures.facts c.into_parts-known.ensures.steps (sym c.closed.ensures.value ∙ c.if-closed.true)).1

pub returns-then-closed-clause-closes : goal.returns-then-closed-clause-closes
returns-then-closed-clause-closes c =
    rw (c.leaf_of.ensures, c.goal.ensures) (trimmed_of c.args.facts.now c.into_parts-known.result.1.items c.in_ok-journal.journal c.into_parts-known.result.0 c.choice-choice.ensures.inference c.requires.none_kept c.in_ok-journal.ensures c.into_parts-known.ensures.facts c.into_parts-known.ensures.steps (sym c.closed.ensures.value ∙ c.if-closed.true)).0

pub returns-clause-closes : goal.returns-clause-closes
returns-clause-closes c = rw (c.leaf_of-2.ensures, c.goal-2.ensures, c.in_ok-all.ensures) c.requires.closes

pub leaf_of-requires-2 : goal.leaf_of-requires-2
leaf_of-requires-2 c = rw c.in_ok-all.ensures c.requires.few

pub returns-clause-goal : goal.returns-clause-goal
returns-clause-goal c = ap (λ (leaf : Leaf). leaf.goal) c.leaf_of-2.ensures ∙ c.goal-2.ensures

pub returns-then-closed-clause-goal : goal.returns-then-closed-clause-goal
returns-then-closed-clause-goal c = ap (λ (leaf : Leaf). leaf.goal) c.leaf_of.ensures ∙ c.goal.ensures
