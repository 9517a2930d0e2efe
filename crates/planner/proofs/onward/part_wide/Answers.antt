use Rattle.planner.proofs.onward.part_wide.Goals as goal

pub returns : goal.returns
returns g c = record {
  searching = c.widen-why.ensures.searching;
  within = c.widen-why.ensures.within;
  end = c.part_cause-cause.ensures.end c.args.options.budget c.widen-why.ensures.cause;
  called_off = λ off. c.widen-why.ensures.called_off (c.part_cause-cause.ensures.called_off off);
  no_later = c.widen-why.ensures.no_later;
}
