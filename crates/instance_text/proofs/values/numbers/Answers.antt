use Rattle.std.proofs.Common.{ℕ, sym, rules, arith}
use Rattle.toml.specs.View.{view}
use Rattle.toml.specs.declared.value.Value.{Value}
use Rattle.instance_text.specs.Kinds.{number_of}
use Rattle.instance_text.proofs.EachLaws.{each-take_more}
use Rattle.instance_text.proofs.ArrayLaws.{array_of-fault, array_of-all}
use Rattle.instance_text.proofs.FaultLaws.{handed_on}
use Rattle.instance_text.proofs.values.numbers.Goals as goal

pub returns-in_err-number-clause-err : goal.returns-in_err-number-clause-err
returns-in_err-number-clause-err c =
    handed_on _ _ _ c.from_residual.ensures.1 (λ _. array_of-fault _ _ (number_of c.args.place c.args.key) (view c.args.value.now) c.deref-item-items.result.now _ _ _ _
    (search rules) (omega arith) c.item-item.is c.loop-item.invariant (sym c.in_err-number.ensures))

pub loop-item-preserved : goal.loop-item-preserved
loop-item-preserved c =
    let read = λ (_ : ℕ) (v : Value). number_of c.args.place c.args.key (view v) in
    rw c.in_ok-push.ensures.items
    (each-take_more read c.deref-item-items.result.now _ _ _ _ (omega arith) c.item-item.is c.loop-item.invariant (sym c.in_ok-number.ensures))

pub returns-clause-ok : goal.returns-clause-ok
returns-clause-ok c =
    rw c.new.ensures (array_of-all _ _ (number_of c.args.place c.args.key) (view c.args.value.now) c.deref-item-items.result.now _ _ (search rules) (omega arith) c.loop-item.invariant)
