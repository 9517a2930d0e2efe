use Rattle.search_trees.proofs.shared_list.SharedList+u32.cmp_slice.Goals as goal

pub returns : goal.returns
returns c = rw (← c.self.view_is) (rw (c.as_slice.ensures.value, c.as_slice-2.ensures.value) at c.compare.ensures)
