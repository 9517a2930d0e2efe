use Rattle.std.proofs.Common.{◌≡◌, ◌∙◌, ◌<◌, ◌+◌, ◌/◌, ◌%◌, ◌-◌, ◌*◌, length, slice_get, arith, ap, sym}
use Rattle.std.specs.Arc.{arc_slice_items}
use Rattle.search_trees.proofs.Stretches.{item_behind, item_of_stretch}
use Rattle.search_trees.proofs.shared_list.SharedList.get.Goals as goal

pub returns-then-stretch-len : goal.returns-then-stretch-len
returns-then-stretch-len g c =
    let stretches = c.self.inside.stretches.items in
    let there : c.args.k / 64 < length stretches = omega (arith, c.if-stretch-len.true, c.len.ensures, c.self.inside.stretches.ok.0) in
    let place : c.args.k % 64 < 64 = omega arith in
    let at : c.args.k ≡ c.args.k / 64 * 64 + c.args.k % 64 = omega arith in
    let item = rw c.as_slice.ensures.value at c.item_at.ensures in
    item ∙ ap (λ s. slice_get (arc_slice_items s) (c.args.k % 64)) c.index.ensures
    ∙ sym (item_of_stretch arc_slice_items stretches c.self.inside.own.items (c.args.k / 64) (c.args.k % 64)
    c.args.k c.index.result.now c.self.invariant there place at)
    ∙ ap (λ l. slice_get l c.args.k) c.self.view_is

pub returns-else-stretch-len : goal.returns-else-stretch-len
returns-else-stretch-len g c =
    let stretches = c.self.inside.stretches.items in
    let count : c.len-else-stretch-len.result ≡ length stretches = omega (arith, c.len-else-stretch-len.ensures, c.self.inside.stretches.ok.0) in
    let behind : c.args.k ≡ length stretches * 64 + (c.args.k - c.len-else-stretch-len.result * 64) = omega (
      arith,
      c.if-stretch-len.false,
      c.len.ensures,
      count,
      c.self.inside.stretches.ok.0,
    ) in
    let item = rw c.as_slice-else-stretch-len.ensures.value at c.item_at-else-stretch-len.ensures in
    item ∙ sym (item_behind arc_slice_items stretches c.self.inside.own.items (c.args.k - c.len-else-stretch-len.result * 64) c.args.k c.self.invariant behind)
    ∙ ap (λ l. slice_get l c.args.k) c.self.view_is
