use Rattle.std.proofs.Common.{Bor, BTreeMap, String, Global, arith}
use Rattle.toml.specs.View.{table_view}
use Rattle.toml.specs.declared.value.Value.{Value}
use Rattle.rates_text.specs.Stated.{stated_node}
use Rattle.rates_text.proofs.EachLaws.{each_map-take_more, each_map-fault}
use Rattle.rates_text.proofs.FaultLaws.{handed_on}
use Rattle.rates_text.proofs.nodes.nodes.Goals as goal

pub returns-in_err-node-clause-err : goal.returns-in_err-node-clause-err
returns-in_err-node-clause-err c =
    let view = λ (t : Bor (BTreeMap (String Global) Value)). table_view t.now in
    let here = c.index-tables-index in
    handed_on _ _ _ c.from_residual.ensures.1 (λ other. each_map-fault (stated_node) view c.args.tables.now _
    here.result _ (omega arith) here.is c.loop-index.invariant _ (c.in_err-node.ensures.err other))

pub loop-index-preserved : goal.loop-index-preserved
loop-index-preserved c =
    let view = λ (t : Bor (BTreeMap (String Global) Value)). table_view t.now in
    let here = c.index-tables-index in
    rw c.in_ok-push.ensures.items (each_map-take_more (stated_node) view c.args.tables.now _
    here.result _ (omega arith) here.is c.loop-index.invariant _ c.in_ok-node.ensures.ok)
