use Rattle.std.proofs.Common.{◌∙◌, ap, Ok, Result}
use Rattle.ttp_model.specs.declared.error.MemoryFault.{MemoryFault}
use Rattle.path_bounds.specs.declared.reached.Reached.{Reached}
use Rattle.search_trees.proofs.Trials.{left_from}
use Rattle.search_trees.proofs.trial.tried_by.Goals as goal

pub returns : goal.returns
returns c =
    let e = c.propagate.ensures in
    let ok : Reached → Result Reached MemoryFault = λ r. Ok r in
    left_from c.args.instance.now c.args.choice.now c.args.goal _ _ c.propagate.result c.in-At.facts e.appended e.bound e.complete
    (c.in_ok-propagate.was ∙ ap ok c.in-At.is)
