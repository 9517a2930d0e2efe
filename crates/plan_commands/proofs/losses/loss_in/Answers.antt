use Rattle.plan_commands.proofs.LossSpelling.{no_first, no_second, no_round, no_slot, no_receivers}
use Rattle.plan_commands.proofs.losses.loss_in.Goals as goal

pub returns-in_err-round-clause-none : goal.returns-in_err-round-clause-none
returns-in_err-round-clause-none c = rw c.from_residual.ensures (no_first _ c.in_err-round.ensures.value)

pub returns-in_err-slot-clause-none : goal.returns-in_err-slot-clause-none
returns-in_err-slot-clause-none c =
    rw c.from_residual-in_err-slot.ensures (no_second _ _ _ c.in_ok-round.ensures.value c.in_err-slot.ensures.value)

pub returns-in_err-number_in-clause-none : goal.returns-in_err-number_in-clause-none
returns-in_err-number_in-clause-none c =
    rw c.from_residual-in_err-number_in.ensures (no_round _ _ _ c.in_ok-round.ensures.value c.in_err-number_in.ensures.only)

pub returns-in_err-number_in-2-clause-none : goal.returns-in_err-number_in-2-clause-none
returns-in_err-number_in-2-clause-none c =
    rw c.from_residual-in_err-number_in-2.ensures (no_slot _ _ _ c.in_ok-round.ensures.value _ _ c.in_ok-slot.ensures.value c.in_err-number_in-2.ensures.only)

pub returns-in_err-receivers_in-clause-none : goal.returns-in_err-receivers_in-clause-none
returns-in_err-receivers_in-clause-none c =
    rw c.from_residual-in_err-receivers_in.ensures
    (no_receivers _ _ _ c.in_ok-round.ensures.value _ _ c.in_ok-slot.ensures.value c.in_err-receivers_in.ensures.only)
