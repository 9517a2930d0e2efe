use Rattle.std.proofs.Common.{◌≡◌, ◌-◌, ◌<◌, length, arith}
use Rattle.std.proofs.lemmas.List.Sorted.{IsPermutation-swap}
use Rattle.search_workers.proofs.search.Search.bring_last.Goals as goal

pub returns-then-count-len-clause-moved : goal.returns-then-count-len-clause-moved
returns-then-count-len-clause-moved c =
    let tasks = c.args.self.now.tasks.items in
    let all : c.len.result ≡ length tasks = omega (arith, c.len.ensures, c.args.self.now.tasks.ok.0) in
    let last : c.args.count - 1 < length tasks = omega (arith, c.if-at-count.true, c.if-count-len.true, all) in
    let at : c.args.at < length tasks = omega (arith, c.if-at-count.true, c.if-count-len.true, all) in
    IsPermutation-swap tasks c.swap.new.self.items c.args.at (c.args.count - 1) at last c.swap.ensures.items
