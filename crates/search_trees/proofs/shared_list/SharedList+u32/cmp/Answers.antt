use Rattle.std.proofs.Common.{◌∙◌, ◌≡◌, length, min, sym, arith}
use Rattle.std.specs.Arc.{arc_slice_items}
use Rattle.search_trees.proofs.StretchOrder.{order_decided, order_of_more}
use Rattle.search_trees.proofs.shared_list.SharedList+u32.cmp.Goals as goal

pub returns-then-is_ne : goal.returns-then-is_ne
returns-then-is_ne c =
    let compared = rw (c.as_slice-mine.ensures.value, c.as_slice-others.ensures.value) at
    (c.compare_whole-order.ensures c.self.inside.own.items c.other.inside.own.items) in
    rw (← c.self.view_is, ← c.other.view_is) (order_decided _ _ _ compared (sym c.is_ne.ensures ∙ c.if-is_ne.true))

pub returns-then-both-others : goal.returns-then-both-others
returns-then-both-others c =
    let xs = c.self.inside.stretches.items in
    let ys = c.other.inside.stretches.items in
    let u = c.self.inside.own.items in
    let v = c.other.inside.own.items in
    let compared = rw (c.as_slice-mine.ensures.value, c.as_slice-others.ensures.value) at (c.compare_whole-order.ensures u v) in
    let many : c.min-both.result ≡ min (length xs) (length ys) = omega (
      arith,
      c.min-both.ensures,
      c.as_slice-mine.ensures.len,
      c.as_slice-others.ensures.len,
      c.self.inside.stretches.ok.0,
      c.other.inside.stretches.ok.0,
    ) in
    let rest = rw (
      c.split_at.ensures.back,
      c.as_slice-others.ensures.value,
      many,
      c.as_slice.ensures.value,
      c.as_slice-then-both-others.ensures.value,
    ) at c.compare.ensures in
    rw (← c.self.view_is, ← c.other.view_is) (c.reverse.ensures
    ∙ order_of_more arc_slice_items xs ys (min (length xs) (length ys)) u v _ _ _
    (omega (arith, many, c.if-both-others.true, c.as_slice-others.ensures.len, c.other.inside.stretches.ok.0)) compared
    (sym c.is_ne.ensures ∙ c.if-is_ne.false) rest)
