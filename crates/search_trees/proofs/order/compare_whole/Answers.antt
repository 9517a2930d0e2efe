use Rattle.std.proofs.Common.{◌≡◌, ◌∙◌, ℕ, ◌++◌, ◌<◌, length, min, drop, sym, subst, arith}
use Rattle.std.specs.List.{flat_map}
use Rattle.std.specs.Arc.{arc_slice_items}
use Rattle.std.specs.Ordering.{nat_cmp}
use Rattle.std.specs.Cmp.Lexicographic.{slice_cmp}
use Rattle.search_trees.proofs.StretchOrder.{both_compared, decided, undecided}
use Rattle.search_trees.proofs.order.compare_whole.Goals as goal

pub returns-then-is_ne : goal.returns-then-is_ne
returns-then-is_ne c = λ x y.
    let in_a : c.loop-k.k < length c.args.a.now = omega (arith, c.loop-k-test.true, c.min-both.ensures) in
    let in_b : c.loop-k.k < length c.args.b.now = omega (arith, c.loop-k-test.true, c.min-both.ensures) in
    let ne = sym c.is_ne.ensures ∙ c.if-is_ne.true in
    both_compared arc_slice_items c.args.a.now c.args.b.now c.loop-k.k c.index-a-k.result c.index-b-k.result x y _ _ _ _ c.requires.a c.requires.b in_a in_b
    c.index-a-k.is c.index-b-k.is c.as_slice.ensures.value c.as_slice-in-loop-k.ensures.value c.cmp-order.ensures (c.loop-k.invariant.1 x y)
    ∙ decided _ _ ne ∙ sym (decided _ _ ne)

pub loop-k-preserved : goal.loop-k-preserved
loop-k-preserved c =
    let in_a : c.loop-k.k < length c.args.a.now = omega (arith, c.loop-k-test.true, c.min-both.ensures) in
    let in_b : c.loop-k.k < length c.args.b.now = omega (arith, c.loop-k-test.true, c.min-both.ensures) in (
      omega (arith, c.loop-k-test.true, c.min-both.ensures),
      λ x y. both_compared arc_slice_items c.args.a.now c.args.b.now c.loop-k.k c.index-a-k.result c.index-b-k.result x y _ _ _ _ c.requires.a
          c.requires.b in_a in_b
          c.index-a-k.is c.index-b-k.is c.as_slice.ensures.value c.as_slice-in-loop-k.ensures.value c.cmp-order.ensures (c.loop-k.invariant.1 x y)
          ∙ undecided _ _ (sym c.is_ne.ensures ∙ c.if-is_ne.false),
    )

pub returns : goal.returns
returns c = λ x y.
    let a = c.args.a.now in
    let b = c.args.b.now in
    let all : c.loop-k.k ≡ min (length a) (length b) = omega (arith, c.loop-k.invariant.0, c.loop-k-test.false, c.min-both.ensures) in
    subst (λ (n : ℕ). slice_cmp nat_cmp (flat_map arc_slice_items a ++ x) (flat_map arc_slice_items b ++ y)
    ≡ slice_cmp nat_cmp (flat_map arc_slice_items (drop n a) ++ x) (flat_map arc_slice_items (drop n b) ++ y)) all (c.loop-k.invariant.1 x y)
