use Rattle.std.proofs.Common.{refl}
use Rattle.command_streams.proofs.Outcomes.{written_later}
use Rattle.command_streams.specs.Outcomes.{OnDone}
use Rattle.plan_commands.specs.NodeTables.{IsLoadsText}
use Rattle.plan_commands.specs.Verdicts.{IsRefused, IsTold, IsVerified}
use Rattle.plan_commands.proofs.Tellings.{made_of_readers, refused_of_readers}
use Rattle.plan_commands.proofs.node_tables.tables.Goals as goal

pub returns-in-Ok-clause-answer : goal.returns-in-Ok-clause-answer
returns-in-Ok-clause-answer g c =
    made_of_readers IsVerified IsLoadsText IsRefused (λ _ _. tt) _ _ c.in-Ok.verified _ _ _ _ c.in-Ok.ensures.judged refl c.write_loads-end.ensures

pub returns-in-Ok-clause-order : goal.returns-in-Ok-clause-order
returns-in-Ok-clause-order g c = written_later _ _ _ _ _ c.write_loads-end.ensures

pub returns-in-Err-clause-answer : goal.returns-in-Err-clause-answer
returns-in-Err-clause-answer g c =
    refused_of_readers (λ instance plan. OnDone (IsTold (IsVerified instance plan) IsLoadsText)) IsRefused (λ _ _ never. never) _ _ _ c.in-Err.fault c.in-Err.ensures.judged
