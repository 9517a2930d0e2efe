use Rattle.std.proofs.Common.{arith}
use Rattle.search_workers.proofs.Searching.{goes_some, goes_then}
use Rattle.planner.proofs.onward.part_pooled.Goals as goal

pub go-why-requires-clause-searching : goal.go-why-requires-clause-searching
go-why-requires-clause-searching g c κs within =
    goes_some c.args.site.now.instance.now c.args.course.aims c.args.search c.in_ok-worked.worked c.requires.searching c.in_ok-worked.ensures.searching

pub returns-then-len-search : goal.returns-then-len-search
returns-then-len-search g c = record {
  searching = c.in_ok-worked.ensures.searching;
  within = omega (arith, c.in_ok-worked.ensures.within, c.part_of_budget-part.ensures.most);
  end = tt;
  called_off = λ off. absurd cc;
  no_later = c.in_ok-worked.ensures.no_later;
}

pub returns : goal.returns
returns g c = record {
  searching = goes_then c.args.site.now.instance.now c.args.course.aims c.args.search c.in_ok-worked.worked c.go-why.new.self c.in_ok-worked.ensures.searching
      c.go-why.ensures.searching;
  within = c.go-why.ensures.within;
  end = c.part_cause-cause.ensures.end c.args.options.budget c.go-why.ensures.cause;
  called_off = λ off. c.go-why.ensures.called_off (c.part_cause-cause.ensures.called_off off);
  no_later = omega (arith, c.in_ok-worked.ensures.no_later, c.go-why.ensures.no_later);
}
