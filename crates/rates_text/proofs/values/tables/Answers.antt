use Rattle.std.proofs.Common.{ℕ, Bor, BTreeMap, String, Global, rules, arith}
use Rattle.std.proofs.lemmas.List.{map-append}
use Rattle.toml.specs.View.{view, table_view}
use Rattle.toml.specs.declared.value.Value.{Value}
use Rattle.rates_text.specs.Kinds.{table_of}
use Rattle.rates_text.proofs.EachLaws.{each-take_more}
use Rattle.rates_text.proofs.ArrayLaws.{array_of-fault, array_of-all}
use Rattle.rates_text.proofs.FaultLaws.{handed_on}
use Rattle.rates_text.proofs.values.tables.Goals as goal

pub returns-in_err-table-clause-err : goal.returns-in_err-table-clause-err
returns-in_err-table-clause-err c =
    handed_on _ _ _ c.from_residual.ensures.1 (λ _. array_of-fault _ _ (table_of c.args.place c.args.key) (view c.args.value.now) c.deref-item-items.result.now _ _ _ _
    (search rules) (omega arith) c.item-item.is c.loop-item.invariant c.in_err-table.ensures.err)

pub loop-item-preserved : goal.loop-item-preserved
loop-item-preserved c =
    let read = λ (_ : ℕ) (v : Value). table_of c.args.place c.args.key (view v) in
    rw (c.in_ok-push.ensures.items, map-append (λ (t : Bor (BTreeMap (String Global) Value)). table_view t.now))
    (each-take_more read c.deref-item-items.result.now _ _ _ _ (omega arith) c.item-item.is c.loop-item.invariant c.in_ok-table.ensures.ok)

pub returns-clause-ok : goal.returns-clause-ok
returns-clause-ok c =
    (array_of-all _ _ (table_of c.args.place c.args.key) (view c.args.value.now) c.deref-item-items.result.now _ _ (search rules) (omega arith) c.loop-item.invariant)
