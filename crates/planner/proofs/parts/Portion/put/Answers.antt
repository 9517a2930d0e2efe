use Rattle.std.proofs.Common.{◌≡◌, ◌++◌, [], ◌∷◌, true, length, refl, sym, ap, ◌∙◌}
use Rattle.planner.specs.Parts.{is_own}
use Rattle.planner.proofs.Dealing.{deals_aside, deals_own}
use Rattle.planner.proofs.parts.Portion.put.Goals as goal

pub returns-then-works-clause-deals : goal.returns-then-works-clause-deals
returns-then-works-clause-deals c = λ tasks leaves front before number d.
    let t = c.args.task in
    let p = c.args.leaf in
    let is : is_own c.args.self (length front) ≡ true = ap (is_own c.args.self) (sym number) ∙ c.works.ensures c.if-works.true in
    rw c.push_reserved.ensures.items
    (deals_own c.args.self tasks leaves (front ++ t ∷ []) front (before ++ p ∷ []) before c.args.own.now.items c.args.aside.now.items c.args.others.now.items t p
    refl refl d is)

pub returns-else-works-clause-deals : goal.returns-else-works-clause-deals
returns-else-works-clause-deals c = λ tasks leaves front before number d.
    let t = c.args.task in
    let p = c.args.leaf in
    rw (c.push_reserved-else-works.ensures.items, c.push_reserved-else-works-2.ensures.items)
    (deals_aside c.args.self tasks leaves (front ++ t ∷ []) front (before ++ p ∷ []) before c.args.own.now.items c.args.aside.now.items c.args.others.now.items t p
    refl refl d)
