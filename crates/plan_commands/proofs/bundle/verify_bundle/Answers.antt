use Rattle.std.proofs.lemmas.Option.{IfSome_then}
use Rattle.command_streams.specs.Outcomes.{OnDone}
use Rattle.plan_commands.specs.Verdicts.{IsTold, IsValidLine}
use Rattle.plan_commands.specs.Bundles.{IsRefusedBundle, IsVerifiedBundle}
use Rattle.plan_commands.proofs.Tellings.{refused_outcome, verdict_outcome}
use Rattle.plan_commands.proofs.bundle.verify_bundle.Goals as goal

pub returns-in-Ok-clause-verdict : goal.returns-in-Ok-clause-verdict
returns-in-Ok-clause-verdict g c =
    IfSome_then _ c.in-Ok.ensures.judged (λ bundle verified.
    verdict_outcome (IsVerifiedBundle bundle) (IsRefusedBundle bundle) c.in-Ok.verified verified verified.verified.has_plan.has_delay tt _ _ _
    c.write_verdict-end.ensures)

pub returns-in-Err-clause-verdict : goal.returns-in-Err-clause-verdict
returns-in-Err-clause-verdict g c =
    IfSome_then _ c.in-Err.ensures.judged (λ bundle refused.
    refused_outcome (OnDone (IsTold (IsVerifiedBundle bundle) IsValidLine)) (IsRefusedBundle bundle) (λ never. never.refused) _ c.in-Err.fault refused)
