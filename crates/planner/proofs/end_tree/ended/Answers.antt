use Rattle.std.proofs.Common.{◌≤◌, sym, subst}
use Rattle.certificate.specs.Cert.{Cert}
use Rattle.certificate.specs.Trees.{preorder}
use Rattle.search_workers.specs.Searching.{limit_of}
use Rattle.search_workers.specs.Ends.{IsAnswerOf}
use Rattle.planner.specs.Searched.{IsLowest}
use Rattle.planner.proofs.Lowest.{below_limit}
use Rattle.planner.proofs.Starts.{answer_best, called_off_only}
use Rattle.planner.proofs.end_tree.ended.Goals as goal

pub returns-clause-answer : goal.returns-clause-answer
returns-clause-answer c =
    let i = c.args.instance.now in
    let cert = c.args.cert in
    let low = c.lowest-low.result in
    let lowest : IsLowest (limit_of i c.args.best) (preorder cert.tree) low = rw (← c.limit-limit.ensures, ← c.nodes.ensures.nodes) c.lowest-low.ensures in
    let least = below_limit (limit_of i c.args.best) (preorder cert.tree) low lowest in
    let answer : IsAnswerOf i c.cause-cause.result c.args.best low c.with_low.result c.answer.result =
    c.answer.ensures i c.limit-limit.ensures (subst (λ n. low ≤ n) (sym c.limit-limit.ensures) least) in
    record {
      low = low;
      lowest = lowest;
      cause = c.cause-cause.result;
      told = c.cause-cause.ensures;
      is = subst (λ (x : Cert). IsAnswerOf i c.cause-cause.result c.args.best low x c.answer.result) c.with_low.ensures answer;
    }

pub returns-clause-best : goal.returns-clause-best
returns-clause-best c =
    let i = c.args.instance.now in
    let low = c.lowest-low.result in
    let lowest : IsLowest (limit_of i c.args.best) (preorder c.args.cert.tree) low = rw (← c.limit-limit.ensures, ← c.nodes.ensures.nodes) c.lowest-low.ensures in
    let least = below_limit (limit_of i c.args.best) (preorder c.args.cert.tree) low lowest in
    answer_best i c.cause-cause.result c.args.best low c.with_low.result c.answer.result
    (c.answer.ensures i c.limit-limit.ensures (subst (λ n. low ≤ n) (sym c.limit-limit.ensures) least))

pub returns-clause-called_off : goal.returns-clause-called_off
returns-clause-called_off c =
    let i = c.args.instance.now in
    let low = c.lowest-low.result in
    let lowest : IsLowest (limit_of i c.args.best) (preorder c.args.cert.tree) low = rw (← c.limit-limit.ensures, ← c.nodes.ensures.nodes) c.lowest-low.ensures in
    let least = below_limit (limit_of i c.args.best) (preorder c.args.cert.tree) low lowest in
    called_off_only i c.args.why c.cause-cause.result c.args.gap low c.args.best c.with_low.result c.answer.result c.cause-cause.ensures
    (c.answer.ensures i c.limit-limit.ensures (subst (λ n. low ≤ n) (sym c.limit-limit.ensures) least))
