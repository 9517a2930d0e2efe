use Rattle.std.proofs.Common.{sym}
use Rattle.line_text.proofs.Cuts.{parts_at, Lacks-from_none}
use Rattle.line_text.proofs.parts.cut.Goals as goal

pub returns-in_err-at-clause-none : goal.returns-in_err-at-clause-none
returns-in_err-at-clause-none c =
    rw c.from_residual.ensures (Lacks-from_none c.args.byte c.args.bytes.now (sym c.in_err-at.ensures.value))

pub returns-clause-joined : goal.returns-clause-joined
returns-clause-joined c =
    rw (c.split_at.ensures.front, c.split_at-2.ensures.back)
    (parts_at c.args.byte c.args.bytes.now c.in_ok-at.at (sym c.in_ok-at.ensures.value)).0

pub returns-clause-first : goal.returns-clause-first
returns-clause-first c =
    rw c.split_at.ensures.front (parts_at c.args.byte c.args.bytes.now c.in_ok-at.at (sym c.in_ok-at.ensures.value)).1
