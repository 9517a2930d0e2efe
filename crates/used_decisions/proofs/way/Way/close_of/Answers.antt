use Rattle.std.proofs.Common.{ℕ, ◌≤◌, length, IsFalse, sym, ap, subst, ◌∙◌}
use Rattle.used_decisions.specs.Levels.{has_level}
use Rattle.used_decisions.specs.Proved.{all_kept, IsProvedBy}
use Rattle.used_decisions.specs.Ways.{Way}
use Rattle.used_decisions.proofs.Marks.{keeps_all}
use Rattle.used_decisions.proofs.Proved.{proved_beside, one_more_closed}
use Rattle.used_decisions.proofs.way.Way.close_of.Goals as goal

pub take_in-requires-clause-branch : goal.take_in-requires-clause-branch
take_in-requires-clause-branch c = λ low within.
    let way = c.args.self.now in
    let branch = c.args.branch in
    rw c.insert.ensures (one_more_closed way.instance low way.decisions branch.kind branch.children c.args.child branch.closed c.args.used branch.used
    c.join.new.self (c.requires.branch low within) (c.requires.proved low within) c.join.ensures.room c.join.ensures.value)

pub prove-requires : goal.prove-requires
prove-requires c = λ low within.
    let way = c.args.self.now in
    let branch = c.args.branch in
    let never : IsFalse (has_level c.args.used (length way.decisions)) =
    ap (has_level c.args.used) (sym c.depth.ensures) ∙ (sym c.contains-is_used.ensures ∙ c.if-is_used.false) in
    proved_beside way.instance low way.decisions branch.kind branch.children c.args.child branch.closed c.args.used branch.used
    (c.requires.branch low within) c.requires.child never (c.requires.proved low within) (all_kept way.decisions) (keeps_all c.args.used 0 way.decisions)

pub returns-in_ok-prove-clause-above : goal.returns-in_ok-prove-clause-above
returns-in_ok-prove-clause-above c =
    let way = c.args.self.now in
    let branch = c.args.branch in
    let never : IsFalse (has_level c.args.used (length way.decisions)) =
    ap (has_level c.args.used) (sym c.depth.ensures) ∙ (sym c.contains-is_used.ensures ∙ c.if-is_used.false) in
    subst (λ (w : Way). (low : ℕ) → low ≤ w.goal → IsProvedBy w.instance low c.args.used w.decisions) (sym c.prove.ensures) (λ low within.
    proved_beside way.instance low way.decisions branch.kind branch.children c.args.child branch.closed c.args.used branch.used
    (c.requires.branch low within) c.requires.child never (c.requires.proved low within))
