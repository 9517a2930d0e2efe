use Rattle.std.proofs.Common.{◌≡◌, ◌+◌, ◌-◌, arith}
use Rattle.rates_text.proofs.IndexLaws.{HasFrom-insert, index_by-all}
use Rattle.rates_text.proofs.names.RatesNames.of.Goals as goal

pub loop-index-preserved : goal.loop-index-preserved
loop-index-preserved g c =
    let next : c.loop-index.index - 1 + 1 ≡ c.loop-index.index = omega arith in
    HasFrom-insert g.T.Named.name_of c.args.items.now (c.loop-index.index - 1) c.index-items-index.result (omega arith) c.index-items-index.is
    c.loop-index.first c.insert.new.self (rw c.name.ensures at c.in_ok-insert.ensures.updates) (rw next c.loop-index.invariant)

pub returns-clause-ok : goal.returns-clause-ok
returns-clause-ok g c =
    let behind : c.loop-index.index ≡ 0 = omega arith in
    index_by-all c.loop-index.first _ (rw behind at c.loop-index.invariant)
