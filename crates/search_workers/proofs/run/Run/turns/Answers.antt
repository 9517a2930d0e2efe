use Rattle.std.proofs.Common.{arith, refl, ◌∙◌}
use Rattle.search_workers.proofs.run.Run.turns.Goals as goal

pub loop-course-preserved-in-Idle : goal.loop-course-preserved-in-Idle
loop-course-preserved-in-Idle g c = record {
  goes_on = λ hand watch run. c.in-Idle.ensures.goes_on hand watch (c.loop-course.invariant.goes_on hand watch run);
  watch = c.in-Idle.ensures.watch;
  bench = c.in-Idle.ensures.bench;
  spared = c.in-Idle.ensures.spared;
  within = omega (arith, c.in-Idle.ensures.idle refl, c.loop-course.invariant.within);
  plain = λ plain. c.in-Idle.ensures.plain plain ∙ c.loop-course.invariant.plain plain;
}

pub loop-course-preserved-in-Worked : goal.loop-course-preserved-in-Worked
loop-course-preserved-in-Worked g c = record {
  goes_on = λ hand watch run. c.in-Worked.ensures.goes_on hand watch (c.loop-course.invariant.goes_on hand watch run);
  watch = c.in-Worked.ensures.watch;
  bench = c.in-Worked.ensures.bench;
  spared = c.in-Worked.ensures.spared;
  within = omega (arith, c.in-Worked.ensures.worked refl, c.loop-course.invariant.within, c.len.ensures);
  plain = λ plain. c.in-Worked.ensures.plain plain ∙ c.loop-course.invariant.plain plain;
}

pub loop-course-preserved : goal.loop-course-preserved
loop-course-preserved g c = record {
  goes_on = λ hand watch run. c.in-Spared.ensures.goes_on hand watch (c.loop-course.invariant.goes_on hand watch run);
  watch = c.in-Spared.ensures.watch;
  bench = c.in-Spared.ensures.bench;
  spared = c.in-Spared.ensures.spared;
  within = omega (arith, c.in-Spared.ensures.left refl, c.loop-course.invariant.within);
  plain = λ plain. c.in-Spared.ensures.plain plain ∙ c.loop-course.invariant.plain plain;
}

pub returns-in-Ended-clause-goes_on : goal.returns-in-Ended-clause-goes_on
returns-in-Ended-clause-goes_on g c = λ hand watch run. c.in-Ended.ensures.goes_on hand watch (c.loop-course.invariant.goes_on hand watch run)
