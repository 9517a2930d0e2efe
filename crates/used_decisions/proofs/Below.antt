-- No plan is left where a subtree is proved, nor below it.
use Rattle.std.proofs.Common.{ℕ, List, ◌++◌}
use Rattle.ttp_model.specs.declared.plan.Plan.{Plan}
use Rattle.ttp_model.specs.Instance.{Instance}
use Rattle.ttp_model.specs.Rules.{IsInstance}
use Rattle.tt_choice.specs.declared.decision.Decision.{Decision}
use Rattle.tt_choice.specs.Branches.{root_choice}
use Rattle.tt_choice.specs.Decisions.{AreOpenDecisions, chosen}
use Rattle.sought_plans.specs.Known.{IsSought}
use Rattle.tt_infer.specs.RuledOut.{IsRuledOut}
use Rattle.tt_infer.proofs.shared.RuledOut.{none_below}
use Rattle.used_decisions.specs.Proved.{all_kept}
use Rattle.used_decisions.proofs.Marks.{all_are_all, keeps_first}

pub left_below : (i : Instance) (low : ℕ) (front more : List Decision) → IsInstance i → IsRuledOut i low (all_kept front)
    → AreOpenDecisions i (root_choice i) (front ++ more) → (plan : Plan) → ¬ IsSought i (chosen i (front ++ more)) low plan
left_below i low front more w ruled are plan sought =
    let is = all_are_all front in
    none_below i low w (all_kept front) more ruled (rw is are) (keeps_first front) plan (rw is sought)
