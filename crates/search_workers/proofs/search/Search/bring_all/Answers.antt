use Rattle.std.proofs.Common.{refl, ◌∙◌, arith}
use Rattle.std.proofs.lemmas.List.Sorted.{IsPermutation-refl, IsPermutation-trans, length_permutation}
use Rattle.search_workers.proofs.search.Search.bring_all.Goals as goal

pub loop-at-init : goal.loop-at-init
loop-at-init c = record {
  moved = IsPermutation-refl c.args.self.now.tasks.items;
  pieces = refl;
  best = refl;
  kept = omega (arith, c.len-kept.ensures);
}

pub loop-at-preserved : goal.loop-at-preserved
loop-at-preserved c = record {
  moved = IsPermutation-trans _ _ _ c.loop-at.invariant.moved c.bring_last.ensures.moved;
  pieces = c.bring_last.ensures.pieces ∙ c.loop-at.invariant.pieces;
  best = c.bring_last.ensures.best ∙ c.loop-at.invariant.best;
  kept = omega (arith, length_permutation _ _ c.bring_last.ensures.moved, c.loop-at.invariant.kept, c.saturating_sub-kept.ensures, c.loop-at.self.tasks.ok.0, c.bring_last.new.self.tasks.ok.0);
}
