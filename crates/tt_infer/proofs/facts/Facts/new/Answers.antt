use Rattle.std.proofs.Common.{refl}
use Rattle.tt_infer.proofs.FirstFacts.{first_inference}
use Rattle.tt_infer.proofs.facts.Facts.new.Goals as goal

pub invariant_of-result : goal.invariant_of-result
invariant_of-result c = rw (c.in_ok-setting.ensures, c.in_ok-known.ensures) (first_inference c.args.instance.now c.args.choice.now c.args.goal c.nodes-nodes.ensures.instance c.requires)

pub returns : goal.returns
returns c = rw (c.in_ok-known.ensures, c.in_ok-setting.ensures) refl
