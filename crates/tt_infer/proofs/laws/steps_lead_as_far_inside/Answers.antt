use Rattle.tt_choice.proofs.Inside.{IsInside-child}
use Rattle.tt_infer.proofs.monotone.FirstFacts.{first_facts_sharper}
use Rattle.tt_infer.proofs.monotone.Inside.{step_inside, steps_inside, from_first_inside, leaf_inside}
use Rattle.tt_infer.proofs.laws.steps_lead_as_far_inside.Goals as goal

pub returns : goal.returns
returns c = record { first = first_facts_sharper; children = IsInside-child; one = step_inside; several = steps_inside; from_first = from_first_inside; leaves = leaf_inside }
