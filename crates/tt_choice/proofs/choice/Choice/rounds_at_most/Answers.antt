use Rattle.std.proofs.Common.{arith}
use Rattle.tt_choice.proofs.Members.{IsIn-at_most}
use Rattle.tt_choice.proofs.choice.Choice.rounds_at_most.Goals as goal

pub returns-clause-plans : goal.returns-clause-plans
returns-clause-plans c =
    let message = rw (← c.self.view_is) at c.requires.message in
    let below = rw (← c.self.view_is) at c.requires.below in
    let bare = rw (← c.self.view_is) at c.requires.bare in
    rw (← c.self.view_is, bare) (λ i plan ok. IsIn-at_most i _ plan c.args.m c.args.r ok (omega (arith, message, ok.hi_length)) below)
