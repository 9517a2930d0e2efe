use Rattle.rates_text.specs.Views.{tables_view}
use Rattle.rates_text.proofs.FaultLaws.{handed_on}
use Rattle.rates_text.proofs.StatedLaws.{stated-processes, stated-behind}
use Rattle.rates_text.proofs.text.parts_in.Goals as goal

pub returns-in_err-processes-clause-err : goal.returns-in_err-processes-clause-err
returns-in_err-processes-clause-err c =
    handed_on _ _ _ c.from_residual-in_err-processes.ensures.1 (λ other. stated-processes (tables_view c.args.tables.now) _ _
    c.in_ok-cluster.ensures (rw c.deref.ensures.value at c.in_ok-nodes.ensures.ok) _
    (rw (c.deref-2.ensures.value, c.deref-3.ensures.value) at (c.in_err-processes.ensures.err other)))

pub returns-clause-ok : goal.returns-clause-ok
returns-clause-ok c =
    rw (stated-behind (tables_view c.args.tables.now) _ _
    c.in_ok-cluster.ensures (rw c.deref.ensures.value at c.in_ok-nodes.ensures.ok) _
    (rw (c.deref-2.ensures.value, c.deref-3.ensures.value) at c.in_ok-processes.ensures.ok)) c.parts_behind.ensures.ok

pub returns-clause-err : goal.returns-clause-err
returns-clause-err c =
    rw (stated-behind (tables_view c.args.tables.now) _ _
    c.in_ok-cluster.ensures (rw c.deref.ensures.value at c.in_ok-nodes.ensures.ok) _
    (rw (c.deref-2.ensures.value, c.deref-3.ensures.value) at c.in_ok-processes.ensures.ok)) c.parts_behind.ensures.err
