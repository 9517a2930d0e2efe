use Rattle.command_streams.proofs.Outcomes.{written_later}
use Rattle.command_streams.specs.Outcomes.{OnDone}
use Rattle.plan_commands.specs.Verdicts.{IsRefused, IsTold, IsValidLine, IsVerified}
use Rattle.plan_commands.proofs.Tellings.{refused_of_readers, verdict_of_readers}
use Rattle.plan_commands.proofs.verdict.verify.Goals as goal

pub returns-in-Ok-clause-verdict : goal.returns-in-Ok-clause-verdict
returns-in-Ok-clause-verdict g c = verdict_of_readers _ _ c.in-Ok.verified _ _ _ c.in-Ok.ensures.judged c.write_verdict-end.ensures

pub returns-in-Ok-clause-order : goal.returns-in-Ok-clause-order
returns-in-Ok-clause-order g c = written_later _ _ _ _ _ c.write_verdict-end.ensures

pub returns-in-Err-clause-verdict : goal.returns-in-Err-clause-verdict
returns-in-Err-clause-verdict g c =
    refused_of_readers (λ instance plan. OnDone (IsTold (IsVerified instance plan) IsValidLine)) IsRefused (λ _ _ never. never) _ _ _ c.in-Err.fault c.in-Err.ensures.judged
