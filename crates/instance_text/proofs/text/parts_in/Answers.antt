use Rattle.instance_text.specs.Index.{cut_index_in}
use Rattle.instance_text.specs.Views.{tables_view}
use Rattle.instance_text.proofs.FaultLaws.{handed_on}
use Rattle.instance_text.proofs.StatedLaws.{stated-processes, stated-links, stated-messages, stated-all}
use Rattle.instance_text.proofs.text.parts_in.Goals as goal

pub returns-in_err-processes-clause-err : goal.returns-in_err-processes-clause-err
returns-in_err-processes-clause-err c =
    handed_on _ _ _ c.from_residual-in_err-processes.ensures.1 (λ other. stated-processes cut_index_in (tables_view c.args.tables.now) _ _
    c.in_ok-cluster.ensures (rw c.deref.ensures.value at c.in_ok-nodes.ensures.ok) _
    (rw (c.deref-2.ensures.value, c.deref-3.ensures.value) at (c.in_err-processes.ensures.err other)))

pub returns-in_err-links-clause-err : goal.returns-in_err-links-clause-err
returns-in_err-links-clause-err c =
    handed_on _ _ _ c.from_residual-in_err-links.ensures.1 (λ other. stated-links cut_index_in (tables_view c.args.tables.now) _ _
    c.in_ok-cluster.ensures (rw c.deref.ensures.value at c.in_ok-nodes.ensures.ok)
    _ _ (rw (c.deref-2.ensures.value, c.deref-3.ensures.value) at c.in_ok-processes.ensures.ok) (rw c.deref-4.ensures.value at c.in_ok-names.ensures.ok) _
    (rw c.deref-5.ensures.value at (c.in_err-links.ensures.err other)))

pub returns-in_err-messages-clause-err : goal.returns-in_err-messages-clause-err
returns-in_err-messages-clause-err c =
    handed_on _ _ _ c.from_residual-in_err-messages.ensures.1 (λ other. stated-messages cut_index_in (tables_view c.args.tables.now) _ _
    c.in_ok-cluster.ensures (rw c.deref.ensures.value at c.in_ok-nodes.ensures.ok)
    _ _ (rw (c.deref-2.ensures.value, c.deref-3.ensures.value) at c.in_ok-processes.ensures.ok) (rw c.deref-4.ensures.value at c.in_ok-names.ensures.ok)
    _ (rw c.deref-5.ensures.value at c.in_ok-links.ensures.ok) _
    (rw c.deref-6.ensures.value at (c.in_err-messages.ensures.err other)))

pub returns-clause-ok : goal.returns-clause-ok
returns-clause-ok c =
    stated-all cut_index_in (tables_view c.args.tables.now) _ _
    c.in_ok-cluster.ensures (rw c.deref.ensures.value at c.in_ok-nodes.ensures.ok)
    _ _ (rw (c.deref-2.ensures.value, c.deref-3.ensures.value) at c.in_ok-processes.ensures.ok) (rw c.deref-4.ensures.value at c.in_ok-names.ensures.ok)
    _ (rw c.deref-5.ensures.value at c.in_ok-links.ensures.ok) _
    (rw c.deref-6.ensures.value at c.in_ok-messages.ensures.ok)
