use Rattle.std.proofs.Common.{◌<◌, length, slice_index, arith, inl, inr, ap, ◌∙◌, length-set}
use Rattle.std.proofs.lemmas.Bool.{cases_lt, both_ways}
use Rattle.ttp_model.specs.declared.error.Place.TheVariants.{AtCluster}
use Rattle.earliest_starts.proofs.Settling.{WaitsUntil-raised, settled_next, settled_same, MissesWindow-late}
use Rattle.earliest_starts.proofs.starts.settle_rank.Goals as goal
use Rattle.earliest_starts.proofs.starts.settle_rank.Goals.{then-ranks-p+else-not-ends_in_time, else-ranks-p}

pub returns-then-not-ends_in_time-clause-found : goal.returns-then-not-ends_in_time-clause-found
returns-then-not-ends_in_time-clause-found c =
    let inside : c.loop-p.p < length c.args.instance.now.processes = omega (arith, ap length c.processes.ensures.value, c.loop-p-test.true) in
    let waits = WaitsUntil-raised _ _ c.args.ranks.now c.args.floors.now c.loop-p.starts.items c.args.rank c.loop-p.p c.earliest_start-start.result c.requires.of c.requires.rise c.if-ranks-p.true inside c.loop-p.invariant.0 c.requires.floors (λ q h lower. c.loop-p.invariant.1 q h (inl lower)) (rw c.as_slice.ensures.value at c.earliest_start-start.ensures.raised) in
    MissesWindow-late _ _ c.loop-p.p c.earliest_start-start.result inside waits (λ in_time. both_ways _ c.if-not-ends_in_time.true (c.ends_in_time.ensures.1 in_time))

pub overflow_cast-start : goal.overflow_cast-start
overflow_cast-start c = omega (arith, (c.ends_in_time.ensures.0 c.if-not-ends_in_time.false).1, (c.processes.ensures.instance.ranges AtCluster).horizon)

pub loop-p-preserved : goal.loop-p-preserved
loop-p-preserved c = elim c.if-ranks-p.branch [
  | then-ranks-p+else-not-ends_in_time w ↦
      let inside : c.loop-p.p < length c.args.instance.now.processes = omega (arith, ap length c.processes.ensures.value, c.loop-p-test.true) in
      rw w.starts-is (length-set c.loop-p.starts.items c.loop-p.p w.earliest_start-start.result ∙ c.loop-p.invariant.0, settled_next _ _ c.args.ranks.now c.args.floors.now c.loop-p.starts.items c.args.rank c.loop-p.p w.earliest_start-start.result c.requires.of c.requires.rise w.if-ranks-p.true inside c.loop-p.invariant.0 c.requires.floors c.loop-p.invariant.1 (rw w.as_slice.ensures.value at w.earliest_start-start.ensures.raised) (w.ends_in_time.ensures.0 w.if-not-ends_in_time.false))
  | else-ranks-p w ↦ rw w.starts-is (c.loop-p.invariant.0, settled_same _ _ c.args.ranks.now c.args.floors.now c.loop-p.starts.items c.args.rank c.loop-p.p w.if-ranks-p.false c.loop-p.invariant.1)
]

pub returns-clause-none : goal.returns-clause-none
returns-clause-none c = λ p inside below. elim (cases_lt (slice_index c.args.ranks.now p) c.args.rank) [
  | inl lower ↦ c.loop-p.invariant.1 p inside (inl lower)
  | inr same ↦ c.loop-p.invariant.1 p inside (inr (omega (arith, same, below), omega (arith, inside, ap length c.processes.ensures.value, c.loop-p-test.false)))
]
