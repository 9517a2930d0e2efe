use Rattle.std.proofs.Common.{arith, ◌≡◌, List, [], ◌∷◌, ◌++◌, All, length, refl, sym, ap, ◌∙◌, subst}
use Rattle.std.proofs.lemmas.List.Elements.{All-nil}
use Rattle.search_workers.specs.hand.Hand.{Hand}
use Rattle.planner.specs.Crew.{hands_of, budget_of, IsJob}
use Rattle.planner.proofs.collecting.deal_all.Goals as goal

pub loop-hand-init : goal.loop-hand-init
loop-hand-init g c =
    let word = c.args.word.now in
    let dealt : budget_of c.args.jobs.now.items ≡ 0 = ap budget_of c.requires.none in
    let long : length c.args.jobs.now.items ≡ 0 = ap length c.requires.none in
    record {
      hands = ap hands_of c.requires.none;
      jobs = subst (All (IsJob word)) (sym c.requires.none) (All-nil (IsJob word));
      dealt = omega (arith, dealt);
      out = omega (arith, long);
      opens = c.requires.opening;
      same = refl;
    }

pub loop-hand-preserved : goal.loop-hand-preserved
loop-hand-preserved g c =
    let inv = c.loop-hand.invariant in
    let one = c.in_ok-deal_one.ensures in
    record {
      hands = one.hands ∙ ap (λ (l : List (Hand g.row.J.Denot)). l ++ c.in-Some.hand ∷ []) inv.hands;
      jobs = one.jobs inv.jobs;
      dealt = omega (arith, one.budget, inv.dealt, c.share-budget.ensures);
      out = omega (arith, one.many, one.out, inv.out);
      opens = one.opening;
      same = one.offers ∙ inv.same;
    }
