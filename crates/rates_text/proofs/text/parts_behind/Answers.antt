use Rattle.rates_text.specs.Views.{tables_view}
use Rattle.rates_text.proofs.FaultLaws.{handed_on}
use Rattle.rates_text.proofs.StatedLaws.{stated-links, stated-messages, stated-chains, stated-all}
use Rattle.rates_text.proofs.text.parts_behind.Goals as goal

pub returns-in_err-links-clause-err : goal.returns-in_err-links-clause-err
returns-in_err-links-clause-err c =
    handed_on _ _ _ c.from_residual-in_err-links.ensures.1 (λ other. stated-links _ _ (tables_view c.args.tables.now) _ _ _
    (rw c.deref.ensures.value at c.in_ok-names.ensures.ok) _ (rw c.deref-2.ensures.value at (c.in_err-links.ensures.err other)))

pub returns-in_err-messages-clause-err : goal.returns-in_err-messages-clause-err
returns-in_err-messages-clause-err c =
    handed_on _ _ _ c.from_residual-in_err-messages.ensures.1 (λ other. stated-messages _ _ (tables_view c.args.tables.now) _ _ _
    (rw c.deref.ensures.value at c.in_ok-names.ensures.ok) _ (rw c.deref-2.ensures.value at c.in_ok-links.ensures.ok) _
    (rw c.deref-3.ensures.value at (c.in_err-messages.ensures.err other)))

pub returns-in_err-chains-clause-err : goal.returns-in_err-chains-clause-err
returns-in_err-chains-clause-err c =
    handed_on _ _ _ c.from_residual-in_err-chains.ensures.1 (λ other. stated-chains _ _ (tables_view c.args.tables.now) _ _ _
    (rw c.deref.ensures.value at c.in_ok-names.ensures.ok) _ (rw c.deref-2.ensures.value at c.in_ok-links.ensures.ok) _
    (rw c.deref-3.ensures.value at c.in_ok-messages.ensures.ok) _
    (rw c.deref-4.ensures.value at (c.in_err-chains.ensures.err other)))

pub returns-clause-ok : goal.returns-clause-ok
returns-clause-ok c =
    stated-all _ _ (tables_view c.args.tables.now) _ _ _
    (rw c.deref.ensures.value at c.in_ok-names.ensures.ok) _ (rw c.deref-2.ensures.value at c.in_ok-links.ensures.ok) _
    (rw c.deref-3.ensures.value at c.in_ok-messages.ensures.ok) _
    (rw c.deref-4.ensures.value at c.in_ok-chains.ensures.ok)
