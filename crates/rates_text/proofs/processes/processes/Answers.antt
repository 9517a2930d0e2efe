use Rattle.std.proofs.Common.{Bor, BTreeMap, String, Global, arith}
use Rattle.toml.specs.View.{table_view}
use Rattle.toml.specs.declared.value.Value.{Value}
use Rattle.rates_text.specs.Index.{index_by}
use Rattle.rates_text.specs.Stated.{process_of}
use Rattle.rates_text.proofs.EachLaws.{each_map-take_more, each_map-fault}
use Rattle.rates_text.proofs.FaultLaws.{handed_on}
use Rattle.rates_text.proofs.processes.processes.Goals as goal

pub returns-in_err-process-clause-err : goal.returns-in_err-process-clause-err
returns-in_err-process-clause-err c =
    let view = λ (t : Bor (BTreeMap (String Global) Value)). table_view t.now in
    let here = c.index-tables-index in
    handed_on _ _ _ c.from_residual.ensures.1 (λ other. each_map-fault (process_of (index_by c.args.nodes.now)) view c.args.tables.now _
    here.result _ (omega arith) here.is c.loop-index.invariant _ (c.in_err-process.ensures.err other))

pub loop-index-preserved : goal.loop-index-preserved
loop-index-preserved c =
    let view = λ (t : Bor (BTreeMap (String Global) Value)). table_view t.now in
    let here = c.index-tables-index in
    rw c.in_ok-push.ensures.items (each_map-take_more (process_of (index_by c.args.nodes.now)) view c.args.tables.now _
    here.result _ (omega arith) here.is c.loop-index.invariant _ c.in_ok-process.ensures.ok)
