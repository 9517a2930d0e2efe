use Rattle.std.proofs.Common.{[], length, ap, arith, refl, rules}
use Rattle.tt_choice.specs.Branches.{IsOpen}
use Rattle.tree_check.proofs.Bare.{IsOpen-keeping, children-bare, length-decisions_of, branch_suits}
use Rattle.tree_check.proofs.Turns.{walk_below}
use Rattle.tree_check.proofs.walk.Walk.branch.Goals as goal

pub returns-then-len-branch-clause-err : goal.returns-then-len-branch-clause-err
returns-then-len-branch-clause-err c =
    let i = c.args.instance.now in
    let d = c.args.self.now.choice in
    let kind = c.args.branch.now.kind in
    let is_open : IsOpen i d kind = search rules in
    let count = ap length c.in_ok-decisions.ensures in (
      refl,
      (
        IsOpen-keeping i d [] kind is_open,
        λ just. absurd (omega (
          arith,
          just,
          count,
          length-decisions_of i d kind,
          children-bare i d kind,
          c.len.ensures,
          c.if-len-branch.true,
        )),
      ),
    )

pub returns-clause-suits : goal.returns-clause-suits
returns-clause-suits c =
    let i = c.args.instance.now in
    let d = c.args.self.now.choice in
    let is_open : IsOpen i d c.args.branch.now.kind = search rules in
    branch_suits i d c.args.branch.now c.in_ok-decisions.decisions.items is_open c.in_ok-decisions.ensures (omega (arith, c.len.ensures, c.if-len-branch.false))

pub returns-clause-below : goal.returns-clause-below
returns-clause-below c = λ left walk.
    let i = c.args.instance.now in
    let d = c.args.self.now.choice in
    let is_open : IsOpen i d c.args.branch.now.kind = search rules in
    walk_below i c.args.self.now (record { choice = d; turns = c.push_turns.new.turns })
    c.args.branch.now.kind c.in_ok-decisions.decisions.items left is_open c.in_ok-decisions.ensures refl c.in_ok-push_turns.ensures walk
