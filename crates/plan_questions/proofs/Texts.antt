-- The certificate of an answer has a text: the instance that was searched last keeps all rules.
use Rattle.std.proofs.Common.{◌≡◌, ℕ, List, None, Some, arith, subst}
use Rattle.ttp_model.specs.Instance.{Instance}
use Rattle.ttp_model.specs.Rules.{IsInstance}
use Rattle.ttp_model.specs.Delays.{delay}
use Rattle.certificate.specs.Versions.{Allows}
use Rattle.planner.specs.outcome.Options.{Options}
use Rattle.planner.specs.outcome.Outcome.{Outcome}
use Rattle.planner.specs.outcome.Outcome.TheVariants as outcome
use Rattle.planner.specs.Answers as answers
use Rattle.planner.proofs.AnswerVersions.{answer_allows}
use Rattle.instance_variants.specs.Cut.{CanEndBy, cut}
use Rattle.instance_variants.specs.Ends.{AreThere}
use Rattle.instance_variants.proofs.CutRules.{keeps_rules}
use Rattle.plan_questions.specs.Cuts.{middle}
use Rattle.plan_questions.specs.declared.limits.limit.EndLimit.{EndLimit}
use Rattle.plan_questions.specs.declared.limits.limit.EndLimit.TheVariants.{Least, Reached, Between, Unknown, Infeasible}
use Rattle.plan_questions.specs.EndAnswers.{cert_of, IsEndLimit, tick_of}
use Rattle.plan_questions.proofs.Bounds.{room}
use Rattle.plan_questions.proofs.Shortest.{room_of_plan}

module _ (i : Instance) (ps : List ℕ) (options : Options) (w : IsInstance i) (are : AreThere i ps) where
  -- so each of them can end by when it had to in the last search
  pub can_end : (limit : EndLimit) (d : ℕ) → IsEndLimit i ps options limit → tick_of limit ≡ Some d → CanEndBy i ps d
  can_end (Least end plan cert) d is at = let same : end ≡ d = cc in subst (CanEndBy i ps) same (room_of_plan i ps are plan end is.plan_ends)
  can_end (Reached end plan cert) d is at = let same : end ≡ d = cc in subst (CanEndBy i ps) same (room_of_plan i ps are plan end is.plan_ends)
  can_end (Between low high plan cert) d is at =
      let same : middle low high ≡ d = cc in subst (CanEndBy i ps) same (room i ps are low (middle low high) is.chains (omega arith))
  can_end (Unknown low cert) d is at = absurd cc
  can_end (Infeasible cert) d is at = absurd cc

  -- so the certificate of a search of the cut instance
  cut_allows : (d : ℕ) (outcome : Outcome) → CanEndBy i ps d → answers.IsOutcome (cut i ps d) options 0 outcome
      → Allows (answers.cert_of outcome).version (answers.cert_of outcome).tree
  cut_allows d outcome can is = answer_allows (cut i ps d) options 0 outcome (keeps_rules i ps d w can) is

  pub limit_allows : (limit : EndLimit) → IsEndLimit i ps options limit → Allows (cert_of limit).version (cert_of limit).tree
  limit_allows (Least end plan cert) is =
      cut_allows end (outcome.Optimal plan (delay i plan) cert) (room_of_plan i ps are plan end is.plan_ends) is.answer
  limit_allows (Reached end plan cert) is =
      cut_allows end (outcome.Stopped is.why is.low is.best cert) (room_of_plan i ps are plan end is.plan_ends) is.answer
  limit_allows (Between low high plan cert) is =
      let can = room i ps are low (middle low high) is.chains (omega arith) in
      cut_allows (middle low high) (outcome.Stopped is.answer.why is.answer.low None cert) can is.answer.answered
  limit_allows (Unknown low cert) is = answer_allows i options 0 (outcome.Stopped is.answer.why is.answer.low None cert) w is.answer.answered
  limit_allows (Infeasible cert) is = answer_allows i options 0 (outcome.Infeasible cert) w is.answered
