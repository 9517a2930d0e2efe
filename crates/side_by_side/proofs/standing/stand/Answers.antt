use Rattle.std.proofs.Common.{◌≡◌, ap, refl, sym, subst, ◌∙◌}
use Rattle.sought_plans.specs.Known.{first_facts}
use Rattle.tt_infer.specs.Facts.{Facts}
use Rattle.side_by_side.specs.Standing.{ClosesAround, StandsAs}
use Rattle.side_by_side.proofs.standing.stand.Goals as goal

pub as_it_stands-requires : goal.as_it_stands-requires
as_it_stands-requires c =
    let leaf = c.args.leaf.now in
    let turned = sym c.in_ok-facts.ensures in
    record {
      first =
          subst
          (λ (s : Facts). s ≡ record { instance = s.instance; choice = s.choice; goal = leaf.goal; known = first_facts s.instance s.choice })
          turned refl;
      around = subst (λ (s : Facts). ClosesAround s.instance s.choice leaf) turned c.requires.around;
    }

pub returns-clause-room : goal.returns-clause-room
returns-clause-room c =
    let instance_of = λ (s : Facts). s.instance in
    ap instance_of c.as_it_stands.ensures.others ∙ ap instance_of c.in_ok-facts.ensures

pub returns-clause-stands : goal.returns-clause-stands
returns-clause-stands c =
    subst (λ (s : Facts). StandsAs s.instance s.choice c.args.leaf.now c.in_ok-leaf.leaf) c.in_ok-facts.ensures c.in_ok-leaf.ensures.stands
