use Rattle.std.proofs.Common.{◌≡◌, ◌≤◌, Option, length, subst, ap, ◌∙◌, arith}
use Rattle.certificate.specs.Trees.{preorder}
use Rattle.search_workers.specs.Searching.{aim_of, limit_of}
use Rattle.search_workers.specs.declared.found.FoundPlan.{FoundPlan}
use Rattle.planner.specs.Answers.{best_of}
use Rattle.planner.specs.Onward.{further}
use Rattle.planner.proofs.Proved.{proved_shows}
use Rattle.planner.proofs.Staying.{as_many, same_own}
use Rattle.planner.proofs.Starts.{no_later_than}
use Rattle.planner.proofs.onward.solve_on.Goals as goal

pub gone_on-requires-clause-begun : goal.gone_on-requires-clause-begun
gone_on-requires-clause-begun g c κs within = (c.in_ok-first.first, c.args.onward.cert.now, c.in_ok-begun.ensures.ok)

pub returns-clause-answer : goal.returns-clause-answer
returns-clause-answer g c =
    let i = c.args.site.now.instance.now in
    let begun = c.in_ok-begun.begun in
    let is = c.in_ok-begun.ensures.ok in
    let aims = c.in_ok-course.course.aims in
    let made = length begun.search.pieces.items in
    let many : c.len.result ≡ made = omega (arith, c.len.ensures, begun.search.pieces.ok.0) in
    let all : c.further-all.result ≡ further c.args.options made = c.further-all.ensures ∙ ap (further c.args.options) many in
    record {
      aims = aims;
      gap_is = c.in_ok-course.ensures.gap;
      first = c.in_ok-first.first;
      found = c.in_ok-first.ensures.found;
      no_later = c.in_ok-first.ensures.no_later;
      made = made;
      made_is = as_many (aim_of i aims c.in_ok-first.first) begun.search.pieces.items (preorder c.args.onward.cert.now.tree) is.kept;
      own = c.in_ok-own.own;
      answer = same_own i _ (further c.args.options made) _ c.args.gap _ _ c.args.onward.part c.in_ok-own.own all c.in_ok-course.ensures.gap is.open_leaves
          c.in_ok-own.ensures.answer;
      told = c.in_ok-outcome.ensures.told;
    }

pub returns-clause-shows : goal.returns-clause-shows
returns-clause-shows g c =
    proved_shows c.args.site.now.instance.now c.in_ok-outcome.outcome c.nodes-nodes.ensures.instance c.in_ok-outcome.ensures.proved

pub returns-clause-called_off : goal.returns-clause-called_off
returns-clause-called_off g c = λ off. c.in_ok-own.ensures.called_off (c.in_ok-outcome.ensures.called_off off)

pub returns-clause-told : goal.returns-clause-told
returns-clause-told g c = rw c.in_ok-outcome.ensures.best c.in_ok-own.ensures.told

pub returns-clause-start : goal.returns-clause-start
returns-clause-start g c =
    let i = c.args.site.now.instance.now in
    let first = c.in_ok-first.first in
    let later : limit_of i (best_of c.in_ok-own.own) ≤ limit_of i first =
    subst (λ (b : Option FoundPlan). limit_of i (best_of c.in_ok-own.own) ≤ limit_of i b) c.in_ok-begun.ensures.ok.best_is c.in_ok-own.ensures.no_later in
    no_later_than i c.args.start first (best_of c.in_ok-outcome.outcome) (rw c.in_ok-outcome.ensures.best later) c.in_ok-first.ensures.no_later
