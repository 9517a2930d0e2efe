use Rattle.tt_choice.proofs.Changes.{IsChoice-place}
use Rattle.tt_choice.proofs.Members.{IsIn-place}
use Rattle.tt_choice.proofs.choice.Choice.place.Goals as goal

pub returns-clause-choice : goal.returns-clause-choice
returns-clause-choice c =
    let ok = rw (← c.self.view_is) at c.requires.of in
    let is = rw (← c.self.view_is) at c.requires.unplaced in
    let bare = rw (← c.self.view_is) at c.requires.bare in
    rw (c.in_ok-push.ensures.items, bare) (IsChoice-place _ _ c.args.n ok is)

pub returns-clause-plans : goal.returns-clause-plans
returns-clause-plans c =
    let bare = rw (← c.self.view_is) at c.requires.bare in
    rw (c.in_ok-push.ensures.items, ← c.self.view_is, bare) (λ plan. IsIn-place _ _ plan c.args.n)
