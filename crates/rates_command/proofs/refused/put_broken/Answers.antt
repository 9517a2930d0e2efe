use Rattle.instance_reasons.specs.Rules.{IsRuleReason}
use Rattle.ttp_model.specs.Parts.{instance_of}
use Rattle.rates_command.proofs.refused.put_broken.Goals as goal

pub returns-clause-reason : goal.returns-clause-reason
returns-clause-reason c =
    let told : IsRuleReason (instance_of c.args.refused.tables) c.args.refused.error c.in_ok-reason.reason = c.in_ok-reason.ensures in
    (c.in_ok-reason.reason, rw c.requires.tables at told)
