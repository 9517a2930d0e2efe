use Rattle.std.proofs.Common.{sym, ◌∙◌, ◌≡◌}
use Rattle.std.specs.Prelude.{codes}
use Rattle.std.proofs.lemmas.Result.{err_from_is_err_and}
use Rattle.std.proofs.lemmas.Slice.Eq.{bytes_eq-Decides}
use Rattle.certificate.proofs.Rings.{cycle_fails, cycle_is}
use Rattle.certificate.proofs.steps.step_in.Goals as goal

pub returns-in_err-ring : goal.returns-in_err-ring
returns-in_err-ring c =
    let p = err_from_is_err_and c.from_residual.result c.from_residual.ensures.1 in
    let same : c.in-Some.keyword.now ≡ codes "x-cycle" = (bytes_eq-Decides c.in-Some.keyword.now c.as_slice.result.now).0 (sym c.eq.ensures ∙ c.if-eq.true) ∙ c.as_slice.ensures in
    rw (p.1, p.2) (cycle_fails c.args.version c.in_err-ring.field-0.0 c.args.line c.args.text.now c.in-Some.keyword.now c.in-Some.rest.now (sym c.in-Some.ensures.value) same c.in_err-ring.ensures)

pub returns-then-eq : goal.returns-then-eq
returns-then-eq c =
    let same : c.in-Some.keyword.now ≡ codes "x-cycle" = (bytes_eq-Decides c.in-Some.keyword.now c.as_slice.result.now).0 (sym c.eq.ensures ∙ c.if-eq.true) ∙ c.as_slice.ensures in
    cycle_is c.args.version c.args.line c.args.text.now c.in-Some.keyword.now c.in-Some.rest.now c.in_ok-ring.ring (sym c.in-Some.ensures.value) same c.in_ok-ring.ensures
