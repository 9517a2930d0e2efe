use Rattle.std.proofs.Common.{[]}
use Rattle.tt_choice.proofs.Changes.{IsChoice-fix}
use Rattle.tt_choice.proofs.Members.{IsIn-fix}
use Rattle.tt_choice.proofs.Trail.{IsChoice-keeping}
use Rattle.tt_choice.proofs.choice.Choice.fix_cap.Goals as goal

pub returns-clause-choice : goal.returns-clause-choice
returns-clause-choice c =
    let ok = rw (← c.self.view_is) at c.requires.of in
    let bare = rw (← c.self.view_is) at c.requires.bare in
    rw (c.option_at.ensures, bare) (IsChoice-fix _ _ c.args.n c.args.k ok c.requires.open.0 c.requires.option)

pub returns-clause-plans : goal.returns-clause-plans
returns-clause-plans c =
    let ok = rw (← c.self.view_is) at c.requires.of in
    let free = rw (← c.self.view_is) at c.requires.open.1 in
    let bare = rw (← c.self.view_is) at c.requires.bare in
    rw (c.option_at.ensures, ← c.self.view_is, bare) (λ plan. IsIn-fix _ _ plan c.args.n c.args.k (IsChoice-keeping _ _ [] ok) c.requires.open.0 free)
