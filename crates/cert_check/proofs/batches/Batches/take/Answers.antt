use Rattle.std.proofs.Common.{◌≡◌, ◌++◌, ◌∷◌, [], refl, subst}
use Rattle.tt_choice.specs.Choice.{Choice, bare}
use Rattle.tt_choice.specs.Branches.{IsBranch, child_choices}
use Rattle.tt_choice.proofs.Trail.{IsChoice-keeping}
use Rattle.tree_check.specs.Seen.{TellsBranch}
use Rattle.tree_check.specs.Turns.{IsWalk}
use Rattle.cert_check.specs.Waiting.{Waits, held_leaf}
use Rattle.cert_check.proofs.batches.Batches.take.Goals as goal

pub returns-in_Ok-self-in-Ok-OfBranch-clause-takes :
    goal.returns-in_Ok-self-in-Ok-OfBranch-clause-takes
returns-in_Ok-self-in-Ok-OfBranch-clause-takes c = λ d left walk.
    let i = c.args.instance.now in
    let branch = c.in-Ok-OfBranch.branch in
    let there = c.in-Ok-OfBranch.ensures d left walk in
    let e = c.in_Ok-self-in-Ok-OfBranch.ensures in
    let own = subst (λ (x : Choice). IsBranch i x branch.kind branch.children) there.0 e.suits in
    let on = subst (λ (x : Choice). IsWalk i c.branch-self.new.self (child_choices i x branch.kind ++ left)) there.0 (e.below left there.1) in
    rw c.in-Ok-OfBranch.is-1 (own, (on, refl))

pub returns-in_Err-self-in-Ok-OfBranch-clause-err :
    goal.returns-in_Err-self-in-Ok-OfBranch-clause-err
returns-in_Err-self-in-Ok-OfBranch-clause-err c = λ d left walk.
    let i = c.args.instance.now in
    let there = c.in-Ok-OfBranch.ensures d left walk in
    rw c.in-Ok-OfBranch.is-1 (subst (λ (x : Choice). TellsBranch i x c.in-Ok-OfBranch.branch c.args.line c.in_Err-self-in-Ok-OfBranch.fault)
    there.0 c.in_Err-self-in-Ok-OfBranch.ensures.err)

pub returns-in-Ok-clause-takes : goal.returns-in-Ok-clause-takes
returns-in-Ok-clause-takes c = λ d left walk.
    let i = c.args.instance.now in
    let goal = c.in-Ok-OfLeaf.goal in
    let count = c.in-Ok-OfLeaf.count in
    let there = c.in-Ok-OfLeaf.ensures d left walk in
    let choice = c.go_on.new.self.choice in
    let first : Waits c.args.instance.now (held_leaf (bare c.go_on.new.self.choice)
    c.args.version c.in-Ok-OfLeaf.goal c.in-Ok-OfLeaf.count c.args.line c.args.self.now.text) =
    record { choice = IsChoice-keeping i choice [] there.1.choice; none_kept = refl; line = c.requires.line; few = c.in-Ok.ensures.few } in
    let waits = subst (λ (x : Choice). Waits i (held_leaf x c.args.version goal count c.args.line c.args.self.now.text)) there.0 first in
    let on : IsWalk c.args.instance.now c.hold.new.self.walk left = rw c.in-Ok.ensures.walk there.1 in
    let held = subst (λ (x : Choice). c.hold.new.self.held.leaves.items ≡ c.args.self.now.held.leaves.items
    ++ held_leaf x c.args.version goal count c.args.line c.args.self.now.text ∷ []) there.0 c.in-Ok.ensures.held in
    rw c.in-Ok-OfLeaf.is-1 (waits, (on, held))
