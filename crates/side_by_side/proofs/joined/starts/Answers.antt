use Rattle.std.proofs.Common.{◌≡◌, ◌<◌, [], ◌∷◌, ℕ, length, arith, refl, ap}
use Rattle.std.proofs.lemmas.List.{length-append}
use Rattle.side_by_side.specs.declared.side.Side.{Side}
use Rattle.side_by_side.proofs.OneRead.{side_more, tree_more}
use Rattle.side_by_side.proofs.joined.starts.Goals as goal

pub loop-k-preserved : goal.loop-k-preserved
loop-k-preserved c =
    let certs = c.args.certs.now in
    let k = c.loop-k.k in
    let start : Side = record { passed = 0; level = 0 } in
    let inside : k < length certs = omega (arith, c.loop-k-test.true) in
    record {
      count = omega (arith, ap length c.in_ok-push.ensures.items, length-append c.loop-k.sides.items (start ∷ []), c.loop-k.invariant.count);
      trees = tree_more certs k c.index-certs-k.result inside c.index-certs-k.is c.loop-k.invariant.trees c.nodes-nodes.ensures.tree;
      each =
          rw c.in_ok-push.ensures.items
          (side_more (λ (n : ℕ) (s : Side). s ≡ record { passed = 0; level = 0 }) c.loop-k.sides.items k start c.loop-k.invariant.count c.loop-k.invariant.each refl);
    }
