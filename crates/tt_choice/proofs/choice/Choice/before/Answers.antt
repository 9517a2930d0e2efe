use Rattle.std.proofs.Common.{[], arith}
use Rattle.tt_choice.proofs.Pairs.{order_pair_left}
use Rattle.tt_choice.proofs.Changes.{IsChoice-order}
use Rattle.tt_choice.proofs.Members.{IsIn-order}
use Rattle.tt_choice.proofs.Trail.{IsChoice-keeping, IsUnorderedPair-keeping}
use Rattle.tt_choice.proofs.choice.Choice.before.Goals as goal

pub overflow_sub-self : goal.overflow_sub-self
overflow_sub-self c =
    let ok = rw (← c.self.view_is) at c.requires.of in
    let is = rw (← c.self.view_is) at c.requires.open in
    omega (arith, order_pair_left _ _ c.args.p c.args.q ok is, ok.unordered)

pub returns-clause-choice : goal.returns-clause-choice
returns-clause-choice c =
    let ok = rw (← c.self.view_is) at c.requires.of in
    let is = rw (← c.self.view_is) at c.requires.open in
    let bare = rw (← c.self.view_is) at c.requires.bare in
    rw (c.put.ensures.value, bare) (IsChoice-order _ _ c.args.p c.args.q ok is)

pub returns-clause-plans : goal.returns-clause-plans
returns-clause-plans c =
    let ok = rw (← c.self.view_is) at c.requires.of in
    let is = rw (← c.self.view_is) at c.requires.open in
    let bare = rw (← c.self.view_is) at c.requires.bare in
    rw (c.put.ensures.value, ← c.self.view_is, bare) (λ plan. IsIn-order _ _ plan c.args.p c.args.q (IsChoice-keeping _ _ [] ok) (IsUnorderedPair-keeping _ _ [] c.args.p c.args.q is))
