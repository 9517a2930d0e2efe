use Rattle.std.proofs.Common.{arith}
use Rattle.tt_choice.proofs.Changes.{IsChoice-fix_channel}
use Rattle.tt_choice.proofs.Members.{IsIn-fix_channel}
use Rattle.tt_choice.proofs.choice.Choice.fix_channel.Goals as goal

pub returns-clause-choice : goal.returns-clause-choice
returns-clause-choice c =
    let message = rw (← c.self.view_is) at c.requires.message in
    let free = rw (← c.self.view_is) at c.requires.free in
    let bare = rw (← c.self.view_is) at c.requires.bare in
    rw (← c.self.view_is, bare) (λ i ok. IsChoice-fix_channel i _ c.args.m c.args.k ok (omega (arith, message, ok.channels_length)) free c.requires.known)

pub returns-clause-plans : goal.returns-clause-plans
returns-clause-plans c =
    let message = rw (← c.self.view_is) at c.requires.message in
    let free = rw (← c.self.view_is) at c.requires.free in
    let bare = rw (← c.self.view_is) at c.requires.bare in
    rw (← c.self.view_is, bare) (λ i plan ok. IsIn-fix_channel i _ plan c.args.m c.args.k ok (omega (arith, message, ok.channels_length)) free)
