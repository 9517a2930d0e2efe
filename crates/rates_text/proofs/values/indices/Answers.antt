use Rattle.std.proofs.Common.{ℕ, sym, rules, arith}
use Rattle.toml.specs.View.{view}
use Rattle.toml.specs.declared.value.Value.{Value}
use Rattle.rates_text.specs.Kinds.{index_of}
use Rattle.rates_text.specs.Index.{index_by}
use Rattle.rates_text.proofs.EachLaws.{each-take_more}
use Rattle.rates_text.proofs.ArrayLaws.{array_of-fault, array_of-all}
use Rattle.rates_text.proofs.FaultLaws.{handed_on}
use Rattle.rates_text.proofs.values.indices.Goals as goal

pub returns-in_err-index-clause-err : goal.returns-in_err-index-clause-err
returns-in_err-index-clause-err c =
    handed_on _ _ _ c.from_residual.ensures.1 (λ _. array_of-fault _ _ (index_of c.args.place c.args.key (index_by c.args.names.now)) (view c.args.value.now) c.deref-item-items.result.now _ _ _ _
    (search rules) (omega arith) c.item-item.is c.loop-item.invariant (sym c.in_err-index.ensures))

pub loop-item-preserved : goal.loop-item-preserved
loop-item-preserved c =
    let read = λ (_ : ℕ) (v : Value). index_of c.args.place c.args.key (index_by c.args.names.now) (view v) in
    rw c.in_ok-push.ensures.items
    (each-take_more read c.deref-item-items.result.now _ _ _ _ (omega arith) c.item-item.is c.loop-item.invariant (sym c.in_ok-index.ensures))

pub returns-clause-ok : goal.returns-clause-ok
returns-clause-ok c =
    rw c.new.ensures (array_of-all _ _ (index_of c.args.place c.args.key (index_by c.args.names.now)) (view c.args.value.now) c.deref-item-items.result.now _ _ (search rules) (omega arith) c.loop-item.invariant)
