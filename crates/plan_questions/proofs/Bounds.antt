-- Before which tick some processes can't end, and that their ends are small.
use Rattle.std.proofs.Common.{ℕ, ◌^◌, ◌<◌, ◌≤◌, List, map, slice_index, slice_index_or, arith}
use Rattle.ttp_model.specs.declared.error.Place.TheVariants.{AtProcess}
use Rattle.ttp_model.specs.Limits.{most_ticks}
use Rattle.ttp_model.specs.Lists.{greatest}
use Rattle.ttp_model.specs.Instance.{Instance}
use Rattle.ttp_model.specs.Rules.{IsInstance}
use Rattle.ttp_model.specs.Chains.{one}
use Rattle.ttp_model.proofs.PlanNumbers.{chain-le}
use Rattle.plan_facts.specs.Longest.{AreLongest}
use Rattle.plan_facts.proofs.Walks.{chain_small}
use Rattle.instance_variants.specs.Cut.{CanEndBy}
use Rattle.instance_variants.specs.Ends.{AreThere, IsLowerEnd, last_end}
use Rattle.instance_variants.proofs.CutPlans.{end_by_of_cut, valid_cut, valid_of_cut}
use Rattle.instance_variants.proofs.CutRules.{keeps_rules}
use Rattle.instance_variants.proofs.CutEnds.{each_by_last, each_of_greatest, greatest_of_each, last_by_each}
use Rattle.plan_questions.specs.Cuts.{IsCutting}
use Rattle.plan_questions.specs.EndAnswers.{IsBehindChains, end_cutting}

module _ (i : Instance) (ps : List ℕ) (are : AreThere i ps) where
  -- what no chain is longer than leaves room for each of them
  pub room : (low d : ℕ) → IsBehindChains i ps low → low ≤ d → CanEndBy i ps d
  room low d chains le k e h = omega (arith, le, chains k e h _ (one (slice_index_or ps k e) (are k e h)))

  module _ (w : IsInstance i) where
    -- so the instance is cut by the tick by which they have to end
    pub end_cuts : (low : ℕ) → IsLowerEnd i ps low → IsBehindChains i ps low → IsCutting (end_cutting i ps low)
    end_cuts low lower chains = record {
      rules = λ d le. keeps_rules i ps d w (room low d chains le);
      most_rules = keeps_rules i ps most_ticks w (λ k e h.
          let p = slice_index_or ps k e in
          omega (arith, w.deadlines p (are k e h), (w.ranges (AtProcess p) (are k e h)).deadline));
      within = λ plan d v. last_by_each i ps plan d (end_by_of_cut i ps d plan are v);
      moves = λ plan d e v by. valid_cut i ps e plan (valid_of_cut i ps d plan v) (each_by_last i ps plan e by);
      lower = λ d below plan v.
          let by = last_by_each i ps plan d (end_by_of_cut i ps d plan are v) in
          absurd (omega (arith, by, lower plan (valid_of_cut i ps d plan v), below));
    }

    -- the greatest of what the longest chains to them add up to
    module _ (ends : List ℕ) (longest : AreLongest i ends) where
      abbrev low : ℕ
      low = greatest (map (slice_index ends) ps)

      pub low_small : low < 2 ^ 32
      low_small =
          let most = greatest_of_each (slice_index ends) 4294967295 0 ps (omega arith) (λ k e h.
          let p = slice_index_or ps k e in
          omega (arith, chain_small i w p (slice_index ends p) (longest.each p (are k e h)).reached)) in
          omega (arith, most)

      pub low_chains : IsBehindChains i ps low
      low_chains k e h time chain =
          let most = (each_of_greatest (slice_index ends) low 0 ps (omega arith)).1 k e h in
          omega (arith, (longest.each (slice_index_or ps k e) (are k e h)).greatest time chain, most)

      pub low_end : IsLowerEnd i ps low
      low_end plan v = greatest_of_each (slice_index ends) (last_end i plan ps) 0 ps (omega arith) (λ k e h.
          let p = slice_index_or ps k e in
          let own = each_by_last i ps plan (last_end i plan ps) (omega arith) k e h in
          omega (arith, chain-le i plan w v p _ (longest.each p (are k e h)).reached, own))
