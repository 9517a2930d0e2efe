use Rattle.std.proofs.Common.{ℕ, ◌<◌, arith, below_more}
use Rattle.search_trees.specs.Order.{IsSameAsBefore}
use Rattle.search_trees.proofs.Finding.{doubled_before, rises_when_other}
use Rattle.search_trees.proofs.names.has_doubled_name.Goals as goal

pub returns-then-is_same_as_before : goal.returns-then-is_same_as_before
returns-then-is_same_as_before c = doubled_before c.args.pieces.now c.loop-k.k (omega arith) (omega arith) c.if-is_same_as_before.ensures

pub loop-k-preserved : goal.loop-k-preserved
loop-k-preserved c =
    let Other : ℕ → Type 0 = λ j. 0 < j → ¬ IsSameAsBefore c.args.pieces.now j in
    λ j low lt. below_more Other c.loop-k.k (λ n below above. c.loop-k.invariant n above below) (λ above. c.if-is_same_as_before.ensures) j lt low

pub returns : goal.returns
returns c = rises_when_other c.args.pieces.now c.requires (λ k low lt. c.loop-k.invariant k low (omega arith))
