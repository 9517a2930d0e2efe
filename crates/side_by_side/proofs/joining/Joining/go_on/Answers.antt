use Rattle.std.proofs.Common.{Option, subst}
use Rattle.side_by_side.specs.declared.frame.NodePlace.{NodePlace}
use Rattle.side_by_side.specs.Steps.{FindsLeader, KnowsBest}
use Rattle.side_by_side.proofs.Finds.{no_end}
use Rattle.side_by_side.proofs.joining.Joining.go_on.Goals as goal

pub lead-requires : goal.lead-requires
lead-requires c = (
  c.requires.at.0,
  c.args.best.1,
  c.requires.at.1,
  subst (FindsLeader c.args.self.now c.args.frame c.requires.at.0) c.in-Some.is c.requires.at.2,
)

pub stand_alone-requires-clause-at : goal.stand_alone-requires-clause-at
stand_alone-requires-clause-at c = (
  c.requires.at.0,
  subst (λ (spot : Option NodePlace). KnowsBest c.args.self.now c.args.frame c.requires.at.0 spot c.args.best.1) c.in-Some-0₀.is c.requires.at.1,
  subst (FindsLeader c.args.self.now c.args.frame c.requires.at.0) c.in-None.is c.requires.at.2,
)

pub unreachable-requires : goal.unreachable-requires
unreachable-requires c =
    no_end c.args.self.now c.args.frame c.requires.at.0 c.args.best.1
    (subst (λ (spot : Option NodePlace). KnowsBest c.args.self.now c.args.frame c.requires.at.0 spot c.args.best.1) c.in-None-0₀.is c.requires.at.1)
    (subst (FindsLeader c.args.self.now c.args.frame c.requires.at.0) c.in-None.is c.requires.at.2)
