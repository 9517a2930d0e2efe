use Rattle.std.proofs.Common.{length, arith, below_more, sym, ◌∙◌}
use Rattle.std.proofs.lemmas.Bool.{false≢true}
use Rattle.ttp_model.specs.Plans.{IsNewNode}
use Rattle.plan_check.proofs.lists.first_wrong_position.Goals as goal

pub returns-then-not-is_new_node : goal.returns-then-not-is_new_node
returns-then-not-is_new_node c = rw (← c.as_slice-order.ensures, ← c.nodes-count.ensures.value) (record {
  within = c.loop-k-test.true;
  fails = λ new. false≢true (sym c.if-not-is_new_node.true ∙ c.is_new_node.ensures.1 new);
  holds_before = c.loop-k.invariant;
})

pub loop-k-preserved : goal.loop-k-preserved
loop-k-preserved c =
    below_more (IsNewNode (length c.nodes-count.result.now) c.as_slice-order.result.now) c.loop-k.k c.loop-k.invariant
    (c.is_new_node.ensures.0 c.if-not-is_new_node.false)

pub returns : goal.returns
returns c = record {
  all = c.requires;
  each =
      rw (← c.as_slice-order.ensures, ← c.nodes-count.ensures.value)
      (λ k inside. c.loop-k.invariant k (omega (arith, inside, c.loop-k-test.false)));
}
