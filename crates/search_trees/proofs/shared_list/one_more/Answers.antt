use Rattle.std.proofs.Common.{◌∙◌, [], ◌∷◌, ◌++◌, ap, sym, subst, length}
use Rattle.std.specs.Arc.{arc_slice_items}
use Rattle.search_trees.specs.Stretches.{AreWhole}
use Rattle.search_trees.proofs.SharedLists.{one_more_items}
use Rattle.search_trees.proofs.Stretches.{whole_copies, whole_more}
use Rattle.search_trees.proofs.shared_list.one_more.Goals as goal

pub returns-clause-items : goal.returns-clause-items
returns-clause-items g c =
    one_more_items arc_slice_items c.args.stretches.now c.in_ok-all.all.items c.push.new.self.items c.in_ok-last.last c.args.own.now
    c.in_ok-all.ensures.items c.in_ok-push.ensures.items c.in_ok-last.ensures.ok

pub returns-clause-whole : goal.returns-clause-whole
returns-clause-whole g c =
    let copies = whole_copies arc_slice_items c.args.stretches.now c.in_ok-all.all.items c.in_ok-all.ensures.items c.requires.whole in
    let last = ap length c.in_ok-last.ensures.ok ∙ c.requires.length in
    subst (AreWhole arc_slice_items) {x = c.in_ok-all.all.items ++ c.in_ok-last.last ∷ []} (sym c.in_ok-push.ensures.items)
    (whole_more arc_slice_items c.in_ok-all.all.items c.in_ok-last.last copies last)
