use Rattle.std.proofs.Common.{◌∙◌, sym}
use Rattle.certificate_reasons.proofs.Failing.{ahead_else}
use Rattle.certificate_reasons.proofs.order_lacks.is_ahead.Goals as goal

pub returns : goal.returns
returns c =
    let s = c.args.facts.now in
    ahead_else s.instance s.known c.args.p c.args.q c.leads.result (sym c.bef.ensures ∙ c.if-bef.false) (rw c.instance.ensures.value at c.leads.ensures)
