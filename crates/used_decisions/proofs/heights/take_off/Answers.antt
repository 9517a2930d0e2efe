use Rattle.std.proofs.Common.{ℕ, ◌+◌, sym, subst}
use Rattle.used_decisions.specs.Heights.{AreTaken}
use Rattle.used_decisions.proofs.TreeHeights.{none_taken, one_taken}
use Rattle.used_decisions.proofs.heights.take_off.Goals as goal

pub loop-k-init : goal.loop-k-init
loop-k-init c = none_taken c.args.heights.now.items

pub loop-k-preserved : goal.loop-k-preserved
loop-k-preserved c =
    subst (λ (most : ℕ). AreTaken (c.loop-k._k + 1) most c.args.heights.now.items c.pop.new.self.items) (sym c.higher-most.ensures)
    (one_taken c.loop-k._k c.loop-k.most c.in_ok-height.height c.args.heights.now.items c.loop-k.heights.items c.pop.new.self.items
    c.loop-k.invariant c.in_ok-height.ensures.items)
