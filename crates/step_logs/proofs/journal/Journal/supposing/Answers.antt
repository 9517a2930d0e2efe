use Rattle.std.proofs.Common.{ap, ◌∙◌}
use Rattle.step_logs.specs.Journal.{Journal}
use Rattle.step_logs.proofs.journal.Journal.supposing.Goals as goal

pub returns : goal.returns
returns c = ap (λ (log : Journal). log.facts) c.anew.ensures ∙ rw c.facts.ensures at c.in_ok-facts.ensures
