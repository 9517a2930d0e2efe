use Rattle.std.proofs.Common.{take, refl, ◌∙◌}
use Rattle.tt_choice.specs.declared.decision.Decision.TheVariants.{Place}
use Rattle.tt_choice.specs.Branches.{root_choice}
use Rattle.tt_choice.proofs.Trail.{none_kept-after_all}
use Rattle.search_trees.proofs.Chosen.{open_at, after_next}
use Rattle.search_trees.proofs.task.Task.choice.Goals as goal

pub change-requires-clause-bare : goal.change-requires-clause-bare
change-requires-clause-bare c =
    rw c.loop-decision.invariant.made (none_kept-after_all c.args.instance.now (root_choice c.args.instance.now)
    (take c.loop-decision.decision-index c.args.self.now.decisions) refl)

pub change-requires-clause-open : goal.change-requires-clause-open
change-requires-clause-open c =
    let i = c.args.instance.now in
    let inside = rw (c.as_slice-decision-items.ensures.value, c.in_ok-decisions.ensures) at c.loop-decision-test.true in
    rw (c.as_slice-decision-items.ensures.value, c.in_ok-decisions.ensures, c.loop-decision.invariant.made)
    (open_at i (root_choice i) c.args.self.now.decisions c.loop-decision.decision-index (Place 0) c.requires.decisions inside)

pub loop-decision-preserved : goal.loop-decision-preserved
loop-decision-preserved c =
    let i = c.args.instance.now in
    let inside = rw (c.as_slice-decision-items.ensures.value, c.in_ok-decisions.ensures) at c.loop-decision-test.true in
    record {
      made =
          (rw (c.as_slice-decision-items.ensures.value, c.in_ok-decisions.ensures, c.loop-decision.invariant.made) at c.in_ok-change.ensures.ok)
          ∙ after_next i (root_choice i) c.args.self.now.decisions c.loop-decision.decision-index (Place 0) inside;
      is = c.in_ok-change.ensures.choice;
    }
