use Rattle.used_decisions.proofs.Counted.{none_up_first}
use Rattle.used_decisions.proofs.flags.Flags.down.Goals as goal

pub returns : goal.returns
returns c = rw (c.in_ok-vec.ensures.items_if_clones_equal (λ y same. same)) (none_up_first c.args.count)
