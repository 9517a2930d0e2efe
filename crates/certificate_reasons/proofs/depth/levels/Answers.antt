-- The heights of the trees that stand side by side, from the last node on.
use Rattle.std.proofs.Common.{rules, ◌≡◌, ◌∙◌, ◌+◌, ◌∷◌, List, ℕ, ap, arith, drop, length, reverse, take}
use Rattle.std.proofs.lemmas.List.{length-reverse}
use Rattle.certificate.specs.Trees.{children}
use Rattle.certificate_reasons.specs.Heights.{highest}
use Rattle.certificate_reasons.proofs.Heights.{below_few, heights_back, heights_begin, heights_whole, turned}
use Rattle.certificate_reasons.proofs.depth.levels.Goals as goal

pub loop-left-init : goal.loop-left-init
loop-left-init c = record {
  inside = omega arith;
  heights = ap (λ (xs : List ℕ). reverse xs) c.new-heights.ensures.items ∙ heights_begin c.args.nodes.now;
}

pub overflow_add-height : goal.overflow_add-height
overflow_add-height c =
    let h = c.loop-left.invariant in
    let below = c.take_highest-below in
    let few = below_few c.args.nodes.now c.loop-left.left c.children.result (reverse c.loop-left.heights.items) below.result c.loop-left-test.true h.inside
    h.heights below.ensures.greatest in
    search (rules, few)

-- The trees below the node are the first of those beside each other so far: their heights are taken off, and one more than the greatest
-- of them is put in their place.
pub loop-left-preserved : goal.loop-left-preserved
loop-left-preserved c =
    let nodes = c.args.nodes.now in
    let node = c.index-nodes-left.result in
    let h = c.loop-left.invariant in
    let hs = reverse c.loop-left.heights.items in
    let below = c.take_highest-below.result in
    let left = c.take_highest-below.new.heights.items in
    let greatest : below ≡ highest (take (children node) hs) = rw c.children.ensures at c.take_highest-below.ensures.greatest in
    let rest : reverse left ≡ drop (children node) hs = rw c.children.ensures at c.take_highest-below.ensures.rest in
    let pushed = ap (λ (xs : List ℕ). reverse xs) c.in_ok-push.ensures.items ∙ turned left (below + 1) in
    let front = ap (λ (xs : List ℕ). (below + 1) ∷ xs) rest in
    record {
      inside = omega arith;
      heights = pushed ∙ (front ∙ heights_back nodes c.loop-left.left node hs below c.loop-left-test.true h.inside c.index-nodes-left.is h.heights greatest);
    }

pub returns : goal.returns
returns c =
    let hs = c.loop-left.heights.items in
    let size : c.len-count.result ≡ length (reverse hs) = omega (arith, c.len-count.ensures, length-reverse hs) in
    heights_whole c.args.nodes.now c.loop-left.left c.len-count.result (reverse hs) c.take_highest-all.result (omega arith) c.loop-left.invariant.heights
    size c.take_highest-all.ensures.greatest
